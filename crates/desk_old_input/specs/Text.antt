-- The old form of the desk program's input (document 01): what a well-formed text says, and else its first malformed line.
use Rattle.std.specs.Prelude.{◌||◌, cond, List, [], ◌∷◌, ℕ, zero, suc, ◌+◌, ltb, eqb, length, get_or}
use Rattle.std.proofs.Math.Option.{Option, none, some}
use Rattle.net.specs.Net.{Arc}
use Rattle.desk_line.specs.Limits.{most_nodes_read, most_arcs_read}
use Rattle.desk_line.specs.Line.{Row, line_from, after}

-- The arc lines: well-formed, or the number of the first line that is not.
pub data ArcLines : Type 0 where
  all : List Arc → ArcLines
  bad : ℕ → ArcLines

unfoldable pub with_arc : Arc → ArcLines → ArcLines
with_arc x (all xs) = all (x ∷ xs)
with_arc x (bad n) = bad n

abbrev pub arc_in : List ℕ → Arc
arc_in vs = record { from = get_or vs 0 0; to = get_or vs 1 0; len = get_or vs 2 0 }

unfoldable pub with_row : ℕ → Option Row → ArcLines → ArcLines
unfolding with_arc
with_row n none rest = bad n
with_row n (some r) rest = with_arc (arc_in r.values) rest

-- "then M lines `from to length`", of which n is the first one's number; "a missing line has the number it would have had, and text after the last has M + 2".
unfoldable pub arcs_from : ℕ → List ℕ → ℕ → ℕ → ArcLines
unfolding line_from with_row after
arcs_from zero text at n = cond (eqb at (length text)) (all []) (bad n)
arcs_from (suc m) text at n = with_row n (line_from 3 text at) (arcs_from m text (after at (line_from 3 text at)) (n + 1))

-- What a text says: "one line `N M S T K A B`", then the arcs; or the first malformed line.
pub data Said : Type 0 where
  asks : List ℕ → List Arc → Said
  malformed : ℕ → Said

unfoldable pub with_arcs : List ℕ → ArcLines → Said
with_arcs vs (all xs) = asks vs xs
with_arcs vs (bad n) = malformed n

unfoldable pub with_header : List ℕ → Option Row → Said
unfolding arcs_from with_arcs
with_header text none = malformed 1
with_header text (some r) =
    cond (ltb most_nodes_read (get_or r.values 0 0) || ltb most_arcs_read (get_or r.values 1 0)) (malformed 1) (with_arcs r.values (arcs_from (get_or r.values 1 0) text r.next 2))

unfoldable pub said : List ℕ → Said
unfolding line_from with_header
said text = with_header text (line_from 7 text 0)
