-- Two numbers decide; where they are equal, what comes after them does.
use mathlib.Core.Path.{◌≡◌, ap}
use mathlib.Core.List.{List}
use mathlib.Core.Bool.{Bool, true, false}
use Prim.Native.Nat.{ℕ, ◌+◌, ◌-◌, ◌<◌}
use native.Mathlib.Omega.{arith}
use lib.ListN.{take, drop}
use borrow.Author.Tests.{lt-ltb, le-ltb, eq-eqb, ne_eqb}
use Rattle.lists.specs.Tests.{lex}
use Rattle.net.specs.Route.{numbers_first}

module _ (x y : ℕ) (r : Bool) where
  pub lex-below : x < y → lex x y r ≡ true
  unfolding lex
  lex-below h = rw (lt-ltb x y h)

  pub lex-above : y < x → lex x y r ≡ false
  unfolding lex
  lex-above h = rw (le-ltb x y (omega arith), ne_eqb x y (λ e. absurd (omega arith)))

  pub lex-same : x ≡ y → lex x y r ≡ r
  unfolding lex
  lex-same e = rw (le-ltb x y (omega arith), eq-eqb x y e)

-- the routes of two slots, as parts of the area
pub parts : (area : List ℕ) (w m n : ℕ)
    → numbers_first (take (w + m - w) (drop w area)) (take n area) ≡ numbers_first (take m (drop w area)) (take n area)
parts area w m n =
    let e : w + m - w ≡ m = omega arith in
    ap (λ i. numbers_first (take i (drop w area)) (take n area)) e
