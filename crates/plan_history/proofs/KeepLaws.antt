-- What a test keeps of a range of numbers, by index: each is of the range and passes, each that passes is kept, they rise, so that each is kept once; and those that
-- pass and those that do not are as many as the range.
use mathlib.Core.Path.{◌≡◌, refl, sym, ap, ap₂, ◌∙◌}
use mathlib.Core.Bool.{Bool, true, false, not}
use mathlib.Core.List.{List, ◌∷◌}
use mathlib.Core.Logic.{◌≢◌, ◌⊎◌, inl, inr}
use Prim.Native.Nat.{ℕ, zero, suc, ◌+◌, ◌≤◌, ◌<◌}
use native.Mathlib.Omega.{arith}
use native.Mathlib.Decide.{ℕ_discrete}
use lib.ListN.{length, get_or}
use Rattle.lists.specs.Tests.{up_from, keep, cons_if}
use Rattle.lists.proofs.Cases.{three_ways}

-- the index k of a list shows a number from i up to e that passes
abbrev pub Shows : (ℕ → Bool) → ℕ → ℕ → List ℕ → ℕ → Type 0
Shows p i e l k = (i ≤ get_or l k 0) × (get_or l k 0 < e) × (p (get_or l k 0) ≡ true)

module _ (p : ℕ → Bool) where
  pub keep-e : (i n k : ℕ) → k < length (keep p (up_from i n)) → Shows p i (i + n) (keep p (up_from i n)) k
  unfolding keep up_from
  keep-e i zero k h = absurd (omega arith)
  keep-e i (suc n) k h = go (p i) refl (λ j b. keep-e (suc i) n j b) k h
    where
      go : (b : Bool) → p i ≡ b → ((j : ℕ) → j < length (keep p (up_from (suc i) n)) → Shows p (suc i) (suc i + n) (keep p (up_from (suc i) n)) j)
          → (k : ℕ) → k < length (cons_if b i (keep p (up_from (suc i) n))) → Shows p i (i + suc n) (cons_if b i (keep p (up_from (suc i) n))) k
      go true e below zero h = (omega arith, omega arith, e)
      go true e below (suc k) h =
          let w = below k (omega arith) in
          (omega (arith, w.0), omega (arith, w.1), w.2)
      go false e below k h =
          let w = below k h in
          (omega (arith, w.0), omega (arith, w.1), w.2)

  -- each that passes is kept
  pub keep-i : (i n x : ℕ) → i ≤ x → x < i + n → p x ≡ true → (k : ℕ) × (k < length (keep p (up_from i n))) × (get_or (keep p (up_from i n)) k 0 ≡ x)
  unfolding keep up_from
  keep-i i zero x a b t = absurd (omega arith)
  keep-i i (suc n) x a b t = go (p i) refl (λ c. keep-i (suc i) n x c (omega arith) t) (ℕ_discrete x i)
    where
      go : (b : Bool) → p i ≡ b → (suc i ≤ x → (k : ℕ) × (k < length (keep p (up_from (suc i) n))) × (get_or (keep p (up_from (suc i) n)) k 0 ≡ x)) → Dec (x ≡ i)
          → (k : ℕ) × (k < length (cons_if b i (keep p (up_from (suc i) n)))) × (get_or (cons_if b i (keep p (up_from (suc i) n))) k 0 ≡ x)
      go true e below (yes d) = (0, omega arith, sym d)
      go true e below (no d) =
          let w = below (omega arith) in
          (suc w.0, omega (arith, w.1), w.2)
      go false e below (yes d) =
          let z : ◌≡◌ {A = ℕ} 0 1 = cc in
          absurd (omega arith)
      go false e below (no d) = below (omega arith)

  -- they rise
  pub keep-rises : (i n j k : ℕ) → j < k → k < length (keep p (up_from i n)) → get_or (keep p (up_from i n)) j 0 < get_or (keep p (up_from i n)) k 0
  unfolding keep up_from
  keep-rises i zero j k l h = absurd (omega arith)
  keep-rises i (suc n) j k l h = go (p i) (λ a b c d. keep-rises (suc i) n a b c d) j k l h
    where
      go : (b : Bool) → ((j k : ℕ) → j < k → k < length (keep p (up_from (suc i) n)) → get_or (keep p (up_from (suc i) n)) j 0 < get_or (keep p (up_from (suc i) n)) k 0)
          → (j k : ℕ) → j < k → k < length (cons_if b i (keep p (up_from (suc i) n)))
          → get_or (cons_if b i (keep p (up_from (suc i) n))) j 0 < get_or (cons_if b i (keep p (up_from (suc i) n))) k 0
      go true below j zero l h = absurd (omega arith)
      go true below zero (suc k) l h = omega (arith, keep-e (suc i) n k (omega arith))
      go true below (suc j) (suc k) l h = below j k (omega arith) (omega arith)
      go false below j k l h = below j k l h

  pub keep_apart : (i n j k : ℕ) → j < length (keep p (up_from i n)) → k < length (keep p (up_from i n)) → get_or (keep p (up_from i n)) j 0 ≡ get_or (keep p (up_from i n)) k 0 → j ≡ k
  keep_apart i n j k a b e = go (three_ways j k)
    where
      go : (j < k) ⊎ (j ≡ k) ⊎ (k < j) → j ≡ k
      go (inl l) = absurd (omega (arith, keep-rises i n j k l b))
      go (inr (inl d)) = d
      go (inr (inr l)) = absurd (omega (arith, keep-rises i n k j l a))

  -- how many
  pub keep-both : (i n : ℕ) → length (keep (λ x. not (p x)) (up_from i n)) + length (keep p (up_from i n)) ≡ n
  unfolding keep up_from
  keep-both i zero = refl
  keep-both i (suc n) = go (p i) (keep-both (suc i) n)
    where
      go : (b : Bool) → length (keep (λ x. not (p x)) (up_from (suc i) n)) + length (keep p (up_from (suc i) n)) ≡ n
          → length (cons_if (not b) i (keep (λ x. not (p x)) (up_from (suc i) n))) + length (cons_if b i (keep p (up_from (suc i) n))) ≡ suc n
      go true e = omega arith
      go false e = omega arith

  pub keep-most : (i n : ℕ) → length (keep p (up_from i n)) ≤ n
  keep-most i n = omega (arith, keep-both i n)

pub keep-cong : (p q : ℕ → Bool) (i n : ℕ) → ((j : ℕ) → i ≤ j → j < i + n → p j ≡ q j) → keep p (up_from i n) ≡ keep q (up_from i n)
unfolding keep up_from
keep-cong p q i zero h = refl
keep-cong p q i (suc n) h = ap₂ (λ b l. cons_if b i l) (h i (omega arith) (omega arith)) (keep-cong p q (suc i) n (λ j a b. h j (omega arith) (omega arith)))

-- where the first that passes no longer does, the others are kept
pub keep-next : (p q : ℕ → Bool) (x i n : ℕ) → i ≤ x → x < i + n → p x ≡ true → ((j : ℕ) → i ≤ j → j < x → p j ≡ false) → q x ≡ false
    → ((j : ℕ) → j ≢ x → p j ≡ q j) → keep p (up_from i n) ≡ x ∷ keep q (up_from i n)
unfolding keep up_from
keep-next p q x i zero a b t below z same = absurd (omega arith)
keep-next p q x i (suc n) a b t below z same = go (λ c. keep-next p q x (suc i) n c (omega arith) t (λ j d e. below j (omega arith) e) z same) (ℕ_discrete i x)
  where
    go : (suc i ≤ x → keep p (up_from (suc i) n) ≡ x ∷ keep q (up_from (suc i) n)) → Dec (i ≡ x)
        → cons_if (p i) i (keep p (up_from (suc i) n)) ≡ x ∷ cons_if (q i) i (keep q (up_from (suc i) n))
    go further (yes e) =
        let rest = keep-cong p q (suc i) n (λ j c d. same j (λ w. omega arith)) in
        ap (λ c. cons_if c i (keep p (up_from (suc i) n))) (ap p e ∙ t) ∙ ap₂ ◌∷◌ e rest ∙ ap (λ c. x ∷ cons_if c i (keep q (up_from (suc i) n))) (sym (ap q e ∙ z))
    go further (no e) =
        let pi = below i (omega arith) (omega arith) in
        let qi = sym (same i e) ∙ pi in
        ap (λ c. cons_if c i (keep p (up_from (suc i) n))) pi ∙ further (omega arith) ∙ ap (λ c. x ∷ cons_if c i (keep q (up_from (suc i) n))) (sym qi)
