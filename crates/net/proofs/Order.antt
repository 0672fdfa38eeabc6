-- `before f` is a strict total order on chains, whatever f is: it is two lexicographic steps, by f and then arc by arc. `precedes` (rule 3) is the one by length.
-- Where lengths are positive that one respects a common ending, since of two equally long chains neither begins the other.
use mathlib.Core.Path.{◌≡◌, refl, sym, ap, ap₂, subst}
use mathlib.Core.Logic.{◌⊎◌, inl, inr, ⊎_elim}
use mathlib.Core.List.{List, [], ◌∷◌, ◌++◌}
use Prim.Native.Nat.{ℕ, ◌+◌, ◌<◌, ◌≤◌}
use native.Mathlib.Omega.{arith}
use lib.Dec.{T}
use Rattle.lists.specs.Tests.{lex}
use Rattle.net.specs.Net.{Arc, arc}
use Rattle.net.specs.Route.{length_of, numbers_first, before, precedes}
use Rattle.lists.proofs.Cases.{order}
use Rattle.lists.proofs.TestLaws.{lex-e, lex-lt, lex-eq, lex_irrefl, lex-trans, lex-total}

-- ---- arc numbers, from the start

pub numbers-irrefl : (p : List ℕ) → T (numbers_first p p) → ⊥
unfolding numbers_first
numbers-irrefl [] h = h
numbers-irrefl (a ∷ p) h = numbers-irrefl p (lex_irrefl a (numbers_first p p) h)

pub numbers-trans : (p q r : List ℕ) → T (numbers_first p q) → T (numbers_first q r) → T (numbers_first p r)
unfolding numbers_first
numbers-trans p q [] h k = k
numbers-trans p [] (c ∷ r) h k = absurd h
numbers-trans [] (b ∷ q) (c ∷ r) h k = tt
numbers-trans (a ∷ p) (b ∷ q) (c ∷ r) h k =
    lex-trans a b c (numbers_first p q) (numbers_first q r) (numbers_first p r) (λ h' k'. numbers-trans p q r h' k') h k

pub numbers-total : (p q : List ℕ) → T (numbers_first p q) ⊎ T (numbers_first q p) ⊎ (p ≡ q)
unfolding numbers_first
numbers-total [] [] = inr (inr refl)
numbers-total [] (b ∷ q) = inl tt
numbers-total (a ∷ p) [] = inr (inl tt)
numbers-total (a ∷ p) (b ∷ q) = lex-total a b (numbers_first p q) (numbers_first q p) (λ e. go e (numbers-total p q))
  where
    go : a ≡ b → T (numbers_first p q) ⊎ T (numbers_first q p) ⊎ (p ≡ q) → T (numbers_first p q) ⊎ T (numbers_first q p) ⊎ (a ∷ p ≡ b ∷ q)
    go e (inl h) = inl h
    go e (inr (inl h)) = inr (inl h)
    go e (inr (inr h)) = inr (inr (ap₂ ◌∷◌ e h))

-- a beginning comes first
pub numbers-front : (p : List ℕ) (a : ℕ) (r : List ℕ) → T (numbers_first p (p ++ (a ∷ r)))
unfolding numbers_first
numbers-front [] a r = tt
numbers-front (b ∷ p) a r = lex-eq b b (numbers_first p (p ++ (a ∷ r))) refl (numbers-front p a r)

-- ---- `before`

module _ (f : List ℕ → ℕ) where
  pub before-e : (p q : List ℕ) → T (before f p q) → (f p < f q) ⊎ ((f p ≡ f q) × T (numbers_first p q))
  unfolding before
  before-e p q = lex-e (f p) (f q) (numbers_first p q)

  pub before-less : (p q : List ℕ) → f p < f q → T (before f p q)
  unfolding before
  before-less p q = lex-lt (f p) (f q) (numbers_first p q)

  pub before_same : (p q : List ℕ) → f p ≡ f q → T (numbers_first p q) → T (before f p q)
  unfolding before
  before_same p q = lex-eq (f p) (f q) (numbers_first p q)

  pub before-i : (p q : List ℕ) → f p ≤ f q → T (numbers_first p q) → T (before f p q)
  before-i p q h k = ⊎_elim (λ l. before_same p q (omega arith) k) (before-less p q) (order (f q) (f p))

  pub before-most : (p q : List ℕ) → T (before f p q) → f p ≤ f q
  before-most p q h = ⊎_elim (λ l. omega arith) (λ e. omega arith) (before-e p q h)

  pub before-irrefl : (p : List ℕ) → T (before f p p) → ⊥
  unfolding before
  before-irrefl p h = numbers-irrefl p (lex_irrefl (f p) (numbers_first p p) h)

  pub before-trans : (p q r : List ℕ) → T (before f p q) → T (before f q r) → T (before f p r)
  unfolding before
  before-trans p q r = lex-trans (f p) (f q) (f r) (numbers_first p q) (numbers_first q r) (numbers_first p r) (numbers-trans p q r)

  pub before-total : (p q : List ℕ) → T (before f p q) ⊎ T (before f q p) ⊎ (p ≡ q)
  unfolding before
  before-total p q = lex-total (f p) (f q) (numbers_first p q) (numbers_first q p) (λ e. numbers-total p q)

  -- ---- x is y or comes before it

  abbrev pub AtMost : List ℕ → List ℕ → Type 0
  AtMost x y = (x ≡ y) ⊎ T (before f x y)

  pub at-most-then : (x y z : List ℕ) → AtMost x y → T (before f y z) → T (before f x z)
  at-most-then x y z (inl e) h = subst (λ w. T (before f w z)) (sym e) h
  at-most-then x y z (inr k) h = before-trans x y z k h

  pub then-at-most : (x y z : List ℕ) → T (before f x y) → AtMost y z → T (before f x z)
  then-at-most x y z h (inl e) = subst (λ w. T (before f x w)) e h
  then-at-most x y z h (inr k) = before-trans x y z h k

  pub at-most-trans : (x y z : List ℕ) → AtMost x y → AtMost y z → AtMost x z
  at-most-trans x y z (inl e) k = subst (λ w. AtMost w z) (sym e) k
  at-most-trans x y z (inr h) k = inr (then-at-most x y z h k)

  pub not-both : (x y : List ℕ) → AtMost x y → T (before f y x) → ⊥
  not-both x y k h = before-irrefl x (at-most-then x y x k h)

  pub at-most-same : (x y : List ℕ) → AtMost x y → AtMost y x → x ≡ y
  at-most-same x y (inl e) k = e
  at-most-same x y (inr h) k = absurd (not-both y x k h)

  pub not_after : (x y : List ℕ) → (T (before f y x) → ⊥) → AtMost x y
  not_after x y n = go (before-total x y)
    where
      go : T (before f x y) ⊎ T (before f y x) ⊎ (x ≡ y) → AtMost x y
      go (inl h) = inr h
      go (inr (inl h)) = absurd (n h)
      go (inr (inr e)) = inl e

-- ---- `precedes`

pub length_of-append : (arcs : List Arc) (p q : List ℕ) → length_of arcs (p ++ q) ≡ length_of arcs p + length_of arcs q
unfolding length_of
length_of-append arcs [] q = omega arith
length_of-append arcs (a ∷ p) q = omega (arith, length_of-append arcs p q)

module _ (arcs : List Arc) where
  -- nothing precedes the empty chain
  pub empty-first : (x : List ℕ) → T (precedes arcs x []) → ⊥
  unfolding numbers_first length_of
  empty-first x h = ⊎_elim (λ l. omega arith) (λ k. k.1) (before-e (length_of arcs) x [] h)

  -- of two equally long chains neither begins the other, so what decides between them stands in both
  module _ (positive : (a : ℕ) → 0 < (arc arcs a).len) where
    pub numbers-extend : (p q r t : List ℕ) → length_of arcs p ≡ length_of arcs q → T (numbers_first p q) → T (numbers_first (p ++ r) (q ++ t))
    unfolding numbers_first length_of
    numbers-extend p [] r t e h = absurd h
    numbers-extend [] (b ∷ q) r t e h = absurd (omega (arith, positive b))
    numbers-extend (a ∷ p) (b ∷ q) r t e h = go (λ e' h'. numbers-extend p q r t e' h') (lex-e a b (numbers_first p q) h)
      where
        go : (length_of arcs p ≡ length_of arcs q → T (numbers_first p q) → T (numbers_first (p ++ r) (q ++ t))) → (a < b) ⊎ ((a ≡ b) × T (numbers_first p q))
            → T (lex a b (numbers_first (p ++ r) (q ++ t)))
        go below (inl l) = lex-lt a b (numbers_first (p ++ r) (q ++ t)) l
        go below (inr k) =
            lex-eq a b (numbers_first (p ++ r) (q ++ t)) k.0 (below (omega (arith, ap (λ x. (arc arcs x).len) k.0)) k.1)

    -- the same ending keeps the order
    pub precedes-extend : (p q r : List ℕ) → T (precedes arcs p q) → T (precedes arcs (p ++ r) (q ++ r))
    precedes-extend p q r h =
        ⊎_elim (λ l. before-less (length_of arcs) (p ++ r) (q ++ r) (omega (arith, length_of-append arcs p r, length_of-append arcs q r)))
        (λ k. before_same (length_of arcs) (p ++ r) (q ++ r) (omega (arith, length_of-append arcs p r, length_of-append arcs q r)) (numbers-extend p q r r k.0 k.1))
        (before-e (length_of arcs) p q h)
