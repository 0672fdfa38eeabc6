-- "For each route the screen shows two figures in one record of 64-bit floats" (document 02, item 4).
use Rattle.std.specs.Prelude.{Bool, false, cond, List, [], ◌∷◌, ◌++◌, ℕ, ◌-◌, ◌*◌, ltb, pos, length, replicate, Float}
use Rattle.std.specs.Float.{fin, binary64}
use Rattle.std.specs.Float.Ieee.{round}
use Rattle.net.specs.Net.{Net}
use Rattle.net.specs.Route.{length_of, overlap}
use Rattle.products.specs.declared.Fraction.{Fraction}
use Rattle.ratios.specs.declared.Ratios.{Ratios}

-- "Each is the one division of the two whole numbers, rounded once, bit for bit."
abbrev pub quotient : Fraction → Float
quotient f = round binary64 false f.over f.under

-- The overlap of q with an earlier route, over the length of that one (document 01, rule 4).
abbrev pub share_with : Net → List ℕ → List ℕ → Fraction
share_with net q p = record { over = overlap net q p; under = length_of net.arcs p }

-- "The greatest is picked by whole numbers before dividing."
abbrev pub exceeds : Fraction → Fraction → Bool
exceeds x y = ltb (y.over * x.under) (x.over * y.under)

abbrev pub greater_of : Fraction → Fraction → Fraction
greater_of f x = cond (exceeds x f) x f

unfoldable pub greatest_from : Net → List ℕ → Fraction → List (List ℕ) → Fraction
unfolding overlap length_of
greatest_from net q f [] = f
greatest_from net q f (p ∷ ps) = greatest_from net q (greater_of f (share_with net q p)) ps

-- "the greatest overlap ratio with an earlier route"; "The first route shows exactly 0": 0 over 1 is not above any.
abbrev pub no_share : Fraction
no_share = record { over = 0; under = 1 }

abbrev pub greatest_share : Net → List ℕ → List (List ℕ) → Fraction
greatest_share net q earlier = greatest_from net q no_share earlier

-- "and its length over the first route's length"
abbrev pub first_of : List ℕ → List (List ℕ) → List ℕ
first_of q [] = q
first_of q (p ∷ ps) = p

abbrev pub detour : Net → List ℕ → List (List ℕ) → Fraction
detour net q earlier = record { over = length_of net.arcs q; under = length_of net.arcs (first_of q earlier) }

abbrev pub ratios_of : Net → List ℕ → List (List ℕ) → Ratios
ratios_of net q earlier = record { overlap = quotient (greatest_share net q earlier); detour = quotient (detour net q earlier) }

-- The records of the answers, one after the other.
unfoldable pub ratios_from : Net → List (List ℕ) → List (List ℕ) → List Ratios
unfolding greatest_from
ratios_from net earlier [] = []
ratios_from net earlier (q ∷ qs) = ratios_of net q earlier ∷ ratios_from net (earlier ++ (q ∷ [])) qs

-- "Rounds without an answer show 0 and 0."
abbrev pub no_ratios : Ratios
no_ratios = record { overlap = fin false 0 (pos 0); detour = fin false 0 (pos 0) }

-- "one such record lent for each wanted route"
unfoldable pub ratios_for : Net → ℕ → List (List ℕ) → List Ratios
unfolding ratios_from
ratios_for net k qs = ratios_from net [] qs ++ replicate (k - length qs) no_ratios
