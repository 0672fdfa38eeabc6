-- Ways to split a proof into cases.
use mathlib.Core.Path.{◌≡◌, refl}
use mathlib.Core.Logic.{◌⊎◌, inl, inr, ⊎_elim}
use mathlib.Core.Bool.{Bool, true, false, not}
use Prim.Native.Nat.{ℕ, zero, suc, zero-le, ◌≤◌, ◌<◌}
use native.Mathlib.Omega.{arith}
use native.Mathlib.Decide.{dec_lt}
use lib.Dec.{T}

-- a test passes, or its negation does
pub either : (x : Bool) → T x ⊎ T (not x)
either true = inl tt
either false = inr tt

-- the same as equations, for `rw`
pub cases : (b : Bool) → (b ≡ true) ⊎ (b ≡ false)
cases true = inl refl
cases false = inr refl

pub order : (a b : ℕ) → (a ≤ b) ⊎ (b < a)
order zero b = inl zero-le
order (suc a) zero = inr (omega arith)
order (suc a) (suc b) = ⊎_elim (λ w. inl (omega arith)) (λ w. inr (omega arith)) (order a b)

pub three_ways : (x y : ℕ) → (x < y) ⊎ (x ≡ y) ⊎ (y < x)
three_ways x y = go (dec_lt x y) (dec_lt y x)
  where
    go : Dec (x < y) → Dec (y < x) → (x < y) ⊎ (x ≡ y) ⊎ (y < x)
    go (yes h) d = inl h
    go (no n) (yes h) = inr (inr h)
    go (no n) (no m) = inr (inl (omega arith))
