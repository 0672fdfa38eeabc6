-- A road file (document 01, "Forms that later requests use"): what a permitted one says, and else its first line that is not permitted. It comes byte by byte.
use Rattle.std.specs.Prelude.{Bool, true, false, not, ◌&&◌, ◌||◌, cond, List, [], ◌∷◌, ◌++◌, ℕ, ◌+◌, ◌-◌, ltb, eqb, length}
use Rattle.net.specs.Net.{Arc}
use Rattle.numerals.specs.Decimal.{most_number}
use Rattle.road_line.specs.Line.{Line, comment, sizes, arc, other, line_of}

-- What the lines so far have said: how many there were, whether the `p` line was one of them and its two numbers, the arcs in file order, and the number of the first
-- line that is not permitted, 0 for none.
pub record Said : Type 0 where
  pub lines : ℕ
  pub begun : Bool
  pub nodes : ℕ
  pub wanted : ℕ
  pub arcs : List Arc
  pub wrong : ℕ

abbrev pub nothing : Said
nothing = record { lines = 0; begun = false; nodes = 0; wanted = 0; arcs = []; wrong = 0 }

-- Lines are counted up to the greatest number that can be told.
unfoldable pub next_line : ℕ → ℕ
next_line n = cond (ltb n most_number) (n + 1) n

-- A line that says nothing.
abbrev pub passed : Said → Said
passed x = record { lines = next_line x.lines; begun = x.begun; nodes = x.nodes; wanted = x.wanted; arcs = x.arcs; wrong = x.wrong }

-- "No other line is permitted, and the first such line is the one named."
abbrev pub refused : Said → Said
refused x =
    record { lines = next_line x.lines; begun = x.begun; nodes = x.nodes; wanted = x.wanted; arcs = x.arcs; wrong = cond (eqb x.wrong 0) (next_line x.lines) x.wrong }

-- "one line `p sp` with nodes and arcs, before every `a`"
unfoldable pub sized : Said → ℕ → ℕ → Said
unfolding next_line
sized x n m = cond x.begun (refused x) (record { lines = next_line x.lines; begun = true; nodes = n; wanted = m; arcs = x.arcs; wrong = x.wrong })

-- "and lines `a` with tail, head and length, nodes counted from 1"; "an arc line too many its own"
unfoldable pub extended : Said → ℕ → ℕ → ℕ → Said
unfolding next_line
extended x t h l =
    cond (x.begun && ltb (length x.arcs) x.wanted)
    (record {
      lines = next_line x.lines;
      begun = x.begun;
      nodes = x.nodes;
      wanted = x.wanted;
      arcs = x.arcs ++ (record { from = t - 1; to = h - 1; len = l } ∷ []);
      wrong = x.wrong;
    })
    (refused x)

unfoldable pub saying : Said → Line → Said
unfolding sized extended
saying x comment = passed x
saying x (sizes n m) = sized x n m
saying x (arc t h l) = extended x t h l
saying x other = refused x

-- What was fed so far: what the whole lines said, and the bytes of the line that has not ended.
pub record Fed : Type 0 where
  pub said : Said
  pub rest : List ℕ

abbrev pub unfed : Fed
unfed = record { said = nothing; rest = [] }

unfoldable pub feed_byte : Fed → ℕ → Fed
unfolding saying line_of
feed_byte x b = cond (eqb b 10) (record { said = saying x.said (line_of x.rest); rest = [] }) (record { said = x.said; rest = x.rest ++ (b ∷ []) })

unfoldable pub feed : Fed → List ℕ → Fed
unfolding feed_byte
feed x [] = x
feed x (b ∷ bs) = feed (feed_byte x b) bs

-- A file is malformed, with the line, or it has so many nodes and these arcs in file order.
pub data Roads : Type 0 where
  malformed : ℕ → Roads
  roads : ℕ → List Arc → Roads

-- "A missing line has the number it would have had": one that has not ended, the `p` line, or an arc's.
unfoldable pub missing : Fed → Bool
missing x = ltb 0 (length x.rest) || not x.said.begun || ltb (length x.said.arcs) x.said.wanted

unfoldable pub ended_of : Fed → Roads
unfolding missing next_line
ended_of x =
    cond (not (eqb x.said.wrong 0)) (malformed x.said.wrong)
    (cond (missing x) (malformed (next_line x.said.lines)) (roads x.said.nodes x.said.arcs))

-- What a text says.
unfoldable pub roads_in : List ℕ → Roads
unfolding feed ended_of
roads_in text = ended_of (feed unfed text)
