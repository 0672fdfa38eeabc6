-- What a road file's text can tell, and where it may end.
use Rattle.std.specs.Prelude.{Bool, true, List, [], ◌∷◌, ℕ, ◌+◌, ◌≤◌, eqb}
use Rattle.net.specs.Net.{Arc}
use Rattle.numerals.specs.Decimal.{most_number}

-- An arc whose line has no number that is too large.
pub record Tellable (a : Arc) : Type 0 where
  pub tail : a.from + 1 ≤ most_number
  pub head : a.to + 1 ≤ most_number
  pub len : a.len ≤ most_number

-- A text that ends where a line ends: none at all, or its last byte is a newline.
unfoldable pub whole : List ℕ → Bool
whole [] = true
whole (b ∷ []) = eqb b 10
whole (b ∷ c ∷ l) = whole (c ∷ l)
