-- A written road file (document 01, "Forms that later requests use").
use Rattle.std.specs.Prelude.{List, [], ◌∷◌, ◌++◌, ℕ, ◌+◌, length}
use Rattle.net.specs.Net.{Arc}
use Rattle.numerals.specs.Decimal.{decimal}
use Rattle.road_line.specs.Line.{sizes_start, arc_start}
use Rattle.text_put.specs.Put.{space, newline}

-- "one line `p sp` with nodes and arcs"
unfoldable pub sizes_text : ℕ → ℕ → List ℕ
unfolding decimal
sizes_text nodes arcs = sizes_start ++ (decimal nodes ++ (space ∷ decimal arcs))

-- "lines `a` with tail, head and length"
unfoldable pub line_text : ℕ → ℕ → ℕ → List ℕ
unfolding decimal
line_text tail head len = arc_start ++ (decimal tail ++ ((space ∷ decimal head) ++ (space ∷ decimal len)))

-- "nodes counted from 1"
abbrev pub arc_text : Arc → List ℕ
arc_text x = line_text (x.from + 1) (x.to + 1) x.len

-- "each line ended by a newline"
abbrev pub ended : List ℕ → List ℕ
ended line = line ++ (newline ∷ [])

-- "keeps the arcs' order"
unfoldable pub lines_text : List Arc → List ℕ
unfolding line_text
lines_text [] = []
lines_text (x ∷ xs) = ended (arc_text x) ++ lines_text xs

-- "A written file has no comments and keeps the arcs' order."
unfoldable pub roads_text : ℕ → List Arc → List ℕ
unfolding sizes_text lines_text
roads_text nodes arcs = ended (sizes_text nodes (length arcs)) ++ lines_text arcs
