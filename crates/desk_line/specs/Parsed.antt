-- What the reading functions give.
use Rattle.std.specs.Prelude.{cond, List, ℕ, ◌+◌, eqb, get_or, drop, Option, None, Some}
use Rattle.std.proofs.Math.Option.{Option as Maybe, none, some}
use Rattle.numerals.specs.Decimal.{Number, number}
use Rattle.desk_line.specs.Line.{Row}

-- The number at `at`, where `mark` follows it.
unfoldable pub marked_by : ℕ → List ℕ → ℕ → Maybe Number → Maybe Number
marked_by mark text at none = none
marked_by mark text at (some x) = cond (eqb (get_or text (at + x.takes) 0) mark) (some x) none

unfoldable pub number_before : ℕ → List ℕ → ℕ → Maybe Number
unfolding number marked_by
number_before mark text at = marked_by mark text at (number (drop at text))

-- The place after a line, and the numbers read.
abbrev pub line_of : Option ℕ → List ℕ → Maybe Row
line_of (Some p) vs = some (record { values = vs; next = p })
line_of None vs = none
