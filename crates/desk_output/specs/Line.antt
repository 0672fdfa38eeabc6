-- The lines of the desk program's output (document 01).
use Rattle.std.specs.Prelude.{List, [], ◌∷◌, ◌++◌, ℕ, ◌+◌, ◌*◌}
use Rattle.numerals.specs.Decimal.{decimal}
use Rattle.text_put.specs.Put.{space, newline}

-- A space and a number, for each.
unfoldable pub numbers_text : List ℕ → List ℕ
unfolding decimal
numbers_text [] = []
numbers_text (v ∷ vs) = (space ∷ decimal v) ++ numbers_text vs

-- "a line for each route with round, length, label count and arc numbers"; "Parts of a line are parted by one space, and each line ends with a newline."
unfoldable pub route_text : ℕ → ℕ → ℕ → List ℕ → List ℕ
unfolding decimal numbers_text
route_text round len labels arcs = decimal round ++ (numbers_text (len ∷ labels ∷ arcs) ++ (newline ∷ []))

-- The most bytes that a route's line takes.
abbrev pub most_line : ℕ → ℕ
most_line n = 64 + n * 21
