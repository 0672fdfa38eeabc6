-- Decimal numbers in text, as bytes.
use Rattle.std.specs.Prelude.{Bool, true, false, not, ◌&&◌, cond, List, [], ◌∷◌, ◌++◌, ℕ, zero, suc, ◌+◌, ◌-◌, ◌*◌, ◌/◌, ◌%◌, ltb, leb, eqb, length}
use Rattle.std.proofs.Math.Option.{Option, none, some}

-- "Numbers are decimal, at most 4,294,967,295"
abbrev pub most_number : ℕ
most_number = 4294967295

abbrev pub is_digit : ℕ → Bool
is_digit b = leb 48 b && leb b 57

-- The digits at the front of a text.
unfoldable pub digits : List ℕ → List ℕ
digits [] = []
digits (b ∷ l) = cond (is_digit b) (b ∷ digits l) []

-- The number of digits that follow digits of the number n.
unfoldable pub value_after : ℕ → List ℕ → ℕ
value_after n [] = n
value_after n (b ∷ l) = value_after (n * 10 + (b - 48)) l

unfoldable pub value : List ℕ → ℕ
unfolding value_after
value ds = value_after 0 ds

-- "without leading zeros": no digits are no number.
unfoldable pub well_formed : List ℕ → Bool
well_formed [] = false
well_formed (b ∷ []) = true
well_formed (b ∷ c ∷ ds) = not (eqb b 48)

-- A number at the front of a text, and how many bytes it takes.
pub record Number : Type 0 where
  pub is : ℕ
  pub takes : ℕ

unfoldable pub number_of : List ℕ → Option Number
unfolding well_formed value
number_of ds = cond (well_formed ds && leb (value ds) most_number) (some (record { is = value ds; takes = length ds })) none

unfoldable pub number : List ℕ → Option Number
unfolding digits number_of
number l = number_of (digits l)

-- The digits of n, without leading zeros: with f + 1 digits at most.
unfoldable pub decimal_in : ℕ → ℕ → List ℕ
decimal_in zero n = (48 + n % 10) ∷ []
decimal_in (suc f) n = cond (ltb n 10) ((48 + n) ∷ []) (decimal_in f (n / 10) ++ ((48 + n % 10) ∷ []))

-- A number of 64 bits has at most 20 digits.
unfoldable pub decimal : ℕ → List ℕ
unfolding decimal_in
decimal n = decimal_in 19 n
