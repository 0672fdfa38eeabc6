-- A line of numbers (document 01, "The desk program"), read at a place of a text.
use Rattle.std.specs.Prelude.{cond, List, [], ◌∷◌, ℕ, zero, suc, ◌+◌, eqb, get_or, drop}
use Rattle.std.proofs.Math.Option.{Option, none, some}
use Rattle.numerals.specs.Decimal.{Number, number}

-- "one space between, each line ended by a newline": what follows a number that n more numbers follow in its line.
abbrev pub separator : ℕ → ℕ
separator zero = 10
separator (suc n) = 32

-- The numbers of a line, and the place after it.
pub record Row : Type 0 where
  pub values : List ℕ
  pub next : ℕ

unfoldable pub prepend : ℕ → Option Row → Option Row
prepend v none = none
prepend v (some r) = some (record { values = v ∷ r.values; next = r.next })

unfoldable pub with_number : ℕ → List ℕ → ℕ → Option Number → Option Row → Option Row
unfolding prepend
with_number n text at none rest = none
with_number n text at (some x) rest = cond (eqb (get_or text (at + x.takes) 0) (separator n)) (prepend x.is rest) none

-- The place after the number at `at` and what follows it.
unfoldable pub past : ℕ → Option Number → ℕ
past at none = at
past at (some x) = at + x.takes + 1

-- A line of n numbers from place `at` on.
unfoldable pub line_from : ℕ → List ℕ → ℕ → Option Row
unfolding number with_number past
line_from zero text at = some (record { values = []; next = at })
line_from (suc n) text at = with_number n text at (number (drop at text)) (line_from n text (past at (number (drop at text))))

-- The place after a line, or that of no line.
unfoldable pub after : ℕ → Option Row → ℕ
after at none = at
after at (some r) = r.next
