-- Tests as equations, and tests over the numbers of a range: what it says that one passes, or that none does, number by number.
use mathlib.Core.Path.{◌≡◌, refl, ap, ◌∙◌}
use mathlib.Core.Bool.{Bool, true, false, ◌&&◌, ◌||◌}
use mathlib.Core.Logic.{◌⊎◌, inl, inr, ⊎_elim}
use Prim.Native.Nat.{ℕ, zero, suc, ◌+◌, ◌≤◌, ◌<◌}
use native.Mathlib.Omega.{arith}
use native.Mathlib.Decide.{ℕ_discrete}
use Rattle.lists.specs.Tests.{up_from, any}
use Rattle.lists.proofs.Cases.{cases}

-- ---- and, or

pub clash : (b : Bool) → b ≡ true → b ≡ false → ⊥
clash b t f = let z : ◌≡◌ {A = ℕ} 0 1 = cc in omega arith

pub and-true : (x y : Bool) → (x && y) ≡ true → (x ≡ true) × (y ≡ true)
and-true true y h = (refl, h)
and-true false y h = absurd (clash false h refl)

pub or-false : (x y : Bool) → (x || y) ≡ false → (x ≡ false) × (y ≡ false)
or-false true y h = absurd (clash true refl h)
or-false false y h = (refl, h)

pub or-true : (x y : Bool) → (x || y) ≡ true → (x ≡ true) ⊎ (y ≡ true)
or-true true y h = inl refl
or-true false y h = inr h

pub and-false : (x y : Bool) → (x && y) ≡ false → (x ≡ false) ⊎ (y ≡ false)
and-false true y h = inr h
and-false false y h = inl refl

-- what is not true is false
pub untrue : (b : Bool) → (b ≡ true → ⊥) → b ≡ false
untrue true h = absurd (h refl)
untrue false h = refl

-- two tests that pass together are equal
pub same_test : (a b : Bool) → (a ≡ true → b ≡ true) → (b ≡ true → a ≡ true) → a ≡ b
same_test true b h g = let e = h refl in cc
same_test false true h g = g refl
same_test false false h g = refl

-- ---- over a range

module _ (p : ℕ → Bool) where
  pub any_none : (i n j : ℕ) → any p (up_from i n) ≡ false → i ≤ j → j < i + n → p j ≡ false
  unfolding any up_from
  any_none i zero j h a b = absurd (omega arith)
  any_none i (suc n) j h a b =
      let w = or-false (p i) (any p (up_from (suc i) n)) h in
      go (λ k. any_none (suc i) n j w.1 k (omega arith)) w.0 (ℕ_discrete j i)
    where
      go : (suc i ≤ j → p j ≡ false) → p i ≡ false → Dec (j ≡ i) → p j ≡ false
      go below e (yes d) = ap p d ∙ e
      go below e (no d) = below (omega arith)

  pub none_any : (i n : ℕ) → ((j : ℕ) → i ≤ j → j < i + n → p j ≡ false) → any p (up_from i n) ≡ false
  unfolding any up_from
  none_any i zero h = refl
  none_any i (suc n) h = rw (h i (omega arith) (omega arith)) (none_any (suc i) n (λ j a b. h j (omega arith) (omega arith)))

  pub any-one : (i n : ℕ) → any p (up_from i n) ≡ true → (j : ℕ) × (i ≤ j) × (j < i + n) × (p j ≡ true)
  unfolding any up_from
  any-one i zero h = absurd (clash false h refl)
  any-one i (suc n) h = go (λ k. any-one (suc i) n k) (or-true (p i) (any p (up_from (suc i) n)) h)
    where
      go : (any p (up_from (suc i) n) ≡ true → (j : ℕ) × (suc i ≤ j) × (j < suc i + n) × (p j ≡ true)) → (p i ≡ true) ⊎ (any p (up_from (suc i) n) ≡ true)
          → (j : ℕ) × (i ≤ j) × (j < i + suc n) × (p j ≡ true)
      go below (inl e) = (i, omega arith, omega arith, e)
      go below (inr k) =
          let w = below k in
          (w.0, omega (arith, w.1), omega (arith, w.2), w.3)

  pub one-any : (i n j : ℕ) → i ≤ j → j < i + n → p j ≡ true → any p (up_from i n) ≡ true
  one-any i n j a b e =
      ⊎_elim (λ t. t) (λ f. absurd (clash (p j) e (any_none i n j f a b))) (cases (any p (up_from i n)))
