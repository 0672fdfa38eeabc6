-- `NotAfter` is reflexive and transitive, since keys and then arc numbers are a strict total order of the candidates; and how the code compares two.
use mathlib.Core.Path.{◌≡◌, refl, sym, subst, ◌∙◌}
use mathlib.Core.Logic.{◌⊎◌, inl, inr, ⊎_elim, ◌≢◌}
use mathlib.Core.Bool.{Bool, true, false, not}
use mathlib.Core.List.{List}
use Prim.Native.Nat.{ℕ, ◌<◌}
use native.Mathlib.Omega.{arith}
use lib.Dec.{T, ltb, T_not, not_T}
use borrow.Author.Tests.{lt-ltb, le-ltb, eq-eqb, ne_eqb}
use Rattle.lists.specs.Tests.{lex}
use Rattle.lists.proofs.Cases.{order}
use Rattle.lists.proofs.TestLaws.{lex_irrefl, lex-trans, lex-total}
use Rattle.net.specs.Route.{numbers_first}
use Rattle.net.proofs.Order.{numbers-irrefl, numbers-trans, numbers-total}
use Rattle.search_queue.specs.Working.{key_at}
use Rattle.search_queue.specs.Order.{own_at, sooner, NotAfter, Chosen}

module _ (l : List ℕ) where
  sooner-irrefl : (a : ℕ) → T (sooner l a a) → ⊥
  unfolding sooner
  sooner-irrefl a h = numbers-irrefl (own_at l a) (lex_irrefl (key_at l a) (numbers_first (own_at l a) (own_at l a)) h)

  pub sooner-trans : (a b c : ℕ) → T (sooner l a b) → T (sooner l b c) → T (sooner l a c)
  unfolding sooner
  sooner-trans a b c =
      lex-trans (key_at l a) (key_at l b) (key_at l c) (numbers_first (own_at l a) (own_at l b)) (numbers_first (own_at l b) (own_at l c)) (numbers_first (own_at l a) (own_at l c))
      (numbers-trans (own_at l a) (own_at l b) (own_at l c))

  abbrev Like : ℕ → ℕ → Type 0
  Like a b = (key_at l a ≡ key_at l b) × (own_at l a ≡ own_at l b)

  sooner-like : (a b c : ℕ) → Like b c → T (sooner l a b) → T (sooner l a c)
  unfolding sooner
  sooner-like a b c e h = rw (← e.0, ← e.1) h

  sooner-total : (a b : ℕ) → T (sooner l a b) ⊎ T (sooner l b a) ⊎ Like a b
  unfolding sooner
  sooner-total a b =
      lex-total {E = Like a b} (key_at l a) (key_at l b) (numbers_first (own_at l a) (own_at l b)) (numbers_first (own_at l b) (own_at l a))
      (λ e. go e (numbers-total (own_at l a) (own_at l b)))
    where
      go : key_at l a ≡ key_at l b → T (numbers_first (own_at l a) (own_at l b)) ⊎ T (numbers_first (own_at l b) (own_at l a)) ⊎ (own_at l a ≡ own_at l b)
          → T (numbers_first (own_at l a) (own_at l b)) ⊎ T (numbers_first (own_at l b) (own_at l a)) ⊎ Like a b
      go e (inl h) = inl h
      go e (inr (inl h)) = inr (inl h)
      go e (inr (inr h)) = inr (inr (e, h))

  pub not-after-same : (a : ℕ) → NotAfter l a a
  unfolding NotAfter
  not-after-same a = not_T (sooner l a a) (sooner-irrefl a)

  pub not-after-trans : (a b c : ℕ) → NotAfter l a b → NotAfter l b c → NotAfter l a c
  unfolding NotAfter
  not-after-trans a b c h k = not_T (sooner l c a) (λ x. go x (sooner-total a b))
    where
      go : T (sooner l c a) → T (sooner l a b) ⊎ T (sooner l b a) ⊎ Like a b → ⊥
      go x (inl y) = T_not (sooner l c b) k (sooner-trans c a b x y)
      go x (inr (inl y)) = T_not (sooner l b a) h y
      go x (inr (inr y)) = T_not (sooner l c b) k (sooner-like c a b y x)

  pub sooner-not-after : (a b : ℕ) → T (sooner l a b) → NotAfter l a b
  unfolding NotAfter
  sooner-not-after a b h = not_T (sooner l b a) (λ k. sooner-irrefl a (sooner-trans a b a h k))

  -- ---- from the answer x of a comparison

  module _ (i j : ℕ) (x : Bool) (e : x ≡ sooner l j i) where
    pub is-sooner : x ≡ true → NotAfter l j i
    is-sooner h = sooner-not-after j i (subst T (sym h ∙ e) tt)

    pub is-no-sooner : x ≡ false → NotAfter l i j
    unfolding NotAfter
    is-no-sooner h = subst (λ y. T (not y)) (sym h ∙ e) tt

    pub chosen-second : x ≡ true → Chosen l i j j
    chosen-second h = inr (refl, is-sooner h)

    pub chosen-first : x ≡ false → Chosen l i j i
    chosen-first h = inl (refl, is-no-sooner h)

  -- ---- the comparison, from keys k and m

  module _ (i j k m : ℕ) (ek : k ≡ key_at l i) (em : m ≡ key_at l j) where
    sooner-less : k < m → sooner l i j ≡ true
    unfolding sooner lex
    sooner-less h = rw (← ek, ← em, lt-ltb k m h)

    sooner-more : m < k → sooner l i j ≡ false
    unfolding sooner lex
    sooner-more h = rw (← ek, ← em, le-ltb k m (omega arith), ne_eqb k m (λ e. omega arith))

    pub sooner-apart : k ≢ m → ltb k m ≡ sooner l i j
    sooner-apart ne =
        ⊎_elim (λ h. le-ltb k m h ∙ sym (sooner-more (omega arith))) (λ h. lt-ltb k m h ∙ sym (sooner-less h)) (order m k)

    pub sooner-even : k ≡ m → sooner l i j ≡ numbers_first (own_at l i) (own_at l j)
    unfolding sooner lex
    sooner-even e = rw (← ek, ← em, le-ltb k m (omega arith), eq-eqb k m e)
