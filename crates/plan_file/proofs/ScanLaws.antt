-- A test over the first n numbers, as facts about each of them.
use mathlib.Core.Path.{◌≡◌, refl, sym, subst}
use mathlib.Core.Bool.{Bool, true, false}
use mathlib.Core.Logic.{⊎_elim}
use Prim.Native.Nat.{ℕ, ◌<◌}
use native.Mathlib.Omega.{arith}
use lib.Dec.{T}
use Rattle.lists.specs.Tests.{up_from, any}
use Rattle.lists.proofs.Cases.{cases}
use Rattle.lists.proofs.TestLaws.{any-e, any-i}
use Rattle.lists.proofs.MemberLaws.{up_from-e, up_from-i}

T_true : (b : Bool) → T b → b ≡ true
T_true true t = refl
T_true false t = absurd t

module _ (p : ℕ → Bool) (n : ℕ) where
  pub any-yes : (k : ℕ) → k < n → p k ≡ true → any p (up_from 0 n) ≡ true
  any-yes k h e = T_true (any p (up_from 0 n)) (any-i p (up_from-i 0 n k (omega arith) (omega arith)) (subst T (sym e) tt))

  pub any_some : any p (up_from 0 n) ≡ true → (k : ℕ) × (k < n) × (p k ≡ true)
  any_some e =
      let w = any-e p (up_from 0 n) (subst T (sym e) tt) in
      (w.0, omega (arith, up_from-e 0 n w.0 w.1), T_true (p w.0) w.2)

  pub any_none : any p (up_from 0 n) ≡ false → (k : ℕ) → k < n → p k ≡ false
  any_none e k h =
      ⊎_elim
      (λ y.
      let c = any-yes k h y in
      cc)
      (λ z. z)
      (cases (p k))

  pub any-no : ((k : ℕ) → k < n → p k ≡ false) → any p (up_from 0 n) ≡ false
  any-no h =
      ⊎_elim
      (λ y.
      let w = any_some y in
      cc (h w.0 w.1, w.2))
      (λ z. z)
      (cases (any p (up_from 0 n)))
