-- A whole number below 2 ^ 40 is below 2 ^ 53, up to which a 64-bit float holds every whole number, so its cast rounds nothing (`cast-value`). The division of two
-- such floats rounds one fraction, once: theirs, which is n / d with the powers of two that they are written with both above and below. `round` sees only the
-- value of a fraction (`round_same`), so that is n / d rounded. By the same law equal fractions have one quotient, and n / n has that of 1 / 1, which is computed.
use mathlib.Core.Path.{◌≡◌, refl, sym, ap, ◌∙◌}
use mathlib.Core.Bool.{false}
use Prim.Native.Nat.{ℕ, ◌*◌, ◌^◌, ◌<◌}
use native.Mathlib.Nat.{lt_of_lt_of_le, le_of_lt, zero-lt-suc, zero-mul, mul-one, mul_comm, mul_assoc, mul_left_comm, mul-pos}
use native.Mathlib.Omega.{arith}
use lib.Dec.{T, le→leb, lit≤}
use lib.IntN.{pos}
use lib.Pow.{shl_lt}
use lib.Ieee.{Float, nan, inf, fin, binary64, prec, low, up, down, round, div, of_int, in_float}
use lib.Ieee.Exact.{HasValue, round_exact}
use lib.Ieee.Fits.{down_pos}
use lib.Ieee.Scale.{round_same}
use borrow.Author.Tests.{ne_eqb}
use Rattle.products.specs.Product.{most_factor}
use Rattle.ratios.specs.Ratios.{quotient, no_share}
use Rattle.products.specs.declared.Fraction.{Fraction}

-- ---- a cast is exact

below-digits : (n : ℕ) → n < most_factor → n < 2 ^ prec binary64
below-digits n h = lt_of_lt_of_le h (lit≤ tt)

cast-value : (n : ℕ) → n < most_factor → HasValue (of_int binary64 (pos n)) false n 1
unfolding of_int
cast-value n h =
    round_exact binary64 false n 1 n (low binary64) (zero-lt-suc 0) (below-digits n h)
    (lt_of_lt_of_le (shl_lt (prec binary64) (low binary64) (below-digits n h)) (lit≤ tt))
    (sym (mul-one (n * 2 ^ low binary64)))

pub cast_fits : (n : ℕ) → n < most_factor → T (in_float binary64 (pos n))
unfolding in_float
cast_fits n h = le→leb n (2 ^ prec binary64) (le_of_lt (below-digits n h))

-- ---- the division of two whole numbers

pos-of-eq : (a b : ℕ) → a ≡ b → 0 < b → 0 < a
pos-of-eq a b e h = omega arith

not-zero : (m u : ℕ) → 0 < m * u → m ≡ 0 → ⊥
not-zero m u h z = omega (arith, ap (λ (x : ℕ). x * u) z ∙ zero-mul u)

-- (n * c) * g over (d * g) * c is n / d
same-fraction : (n d a c b g : ℕ) → a ≡ n * c → b ≡ d * g → a * g * d ≡ n * (b * c)
same-fraction n d a c b g h k = rw (h, k) (simp (mul_assoc, mul_comm, mul_left_comm))

divides-values : (x y : Float) (n d : ℕ) → 0 < d → HasValue x false n 1 → HasValue y false d 1 → div binary64 x y ≡ round binary64 false n d
unfolding div
divides-values nan y n d p h k = absurd h
divides-values (inf s) y n d p h k = absurd h
divides-values (fin s m e) nan n d p h k = absurd k
divides-values (fin s m e) (inf t) n d p h k = absurd k
divides-values (fin s m e) (fin t w g) n d p h k =
    let over : m * up e ≡ n * down e = sym (mul-one (m * up e)) ∙ h.1 in
    let under : w * up g ≡ d * down g = sym (mul-one (w * up g)) ∙ k.1 in
    let positive : 0 < w * up g = pos-of-eq (w * up g) (d * down g) under (mul-pos p (down_pos g)) in
    rw (h.0, k.0, ne_eqb w 0 (not-zero w (up g) positive))
    (round_same binary64 false (m * up e * down g) (w * up g * down e) n d (mul-pos positive (down_pos e)) p
    (same-fraction n d (m * up e) (down e) (w * up g) (down g) over under))

pub divides : (n d : ℕ) → n < most_factor → 0 < d → d < most_factor → div binary64 (of_int binary64 (pos n)) (of_int binary64 (pos d)) ≡ round binary64 false n d
divides n d h p k = divides-values (of_int binary64 (pos n)) (of_int binary64 (pos d)) n d p (cast-value n h) (cast-value d k)

-- ---- quotients that are known

-- "The first route shows exactly 0"
pub quotient-zero : quotient no_share ≡ fin false 0 (pos 0)
unfolding round
quotient-zero = refl

one : round binary64 false 1 1 ≡ fin false 1 (pos 0)
unfolding round
one = refl

-- "and 1"
pub quotient-one : (n : ℕ) → 0 < n → round binary64 false n n ≡ fin false 1 (pos 0)
quotient-one n h = round_same binary64 false n n 1 1 h (zero-lt-suc 0) (mul_comm n 1) ∙ one

-- Equal fractions have one quotient: which of two at a tie is picked does not show.
pub quotient-tie : (x y : Fraction) → 0 < x.under → 0 < y.under → x.over * y.under ≡ y.over * x.under → quotient x ≡ quotient y
quotient-tie x y h k e = round_same binary64 false x.over x.under y.over y.under h k e
