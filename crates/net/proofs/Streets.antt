-- Road numbers (02.5). An arc without one is a road of its own, so a route drives its road where the arc stands on it: document 01's overlap.
use mathlib.Core.Path.{◌≡◌, refl, ap, ap₂}
use mathlib.Core.Bool.{Bool, true, false, not, ◌&&◌, ◌||◌}
use mathlib.Core.List.{List, [], ◌∷◌}
use Prim.Native.Nat.{ℕ}
use lib.Dec.{eqb}
use borrow.Author.Tests.{eq-eqb}
use Rattle.lists.specs.Tests.{has, any}
use Rattle.net.specs.Net.{road, same_road, driven}

or-false-r : (b : Bool) → (b || false) ≡ b
or-false-r true = refl
or-false-r false = refl

module _ (roads : List ℕ) (a : ℕ) (zero : road roads a ≡ 0) where
  same-itself : (x : ℕ) → same_road roads a x ≡ eqb a x
  same-itself x = rw (eq-eqb (road roads a) 0 zero) (or-false-r (eqb a x))

  pub any-itself : (p : List ℕ) → any (same_road roads a) p ≡ any (eqb a) p
  unfolding any
  any-itself [] = refl
  any-itself (x ∷ p) = ap₂ ◌||◌ (same-itself x) (any-itself p)

  pub driven-none : (p : List ℕ) → driven roads p a ≡ has a p
  unfolding driven any has
  driven-none [] = refl
  driven-none (x ∷ p) = ap₂ ◌||◌ (same-itself x) (driven-none p)
