-- More of `numbers_first`: beginnings, and what comes before a list with a last number.
use mathlib.Core.Path.{◌≡◌, refl, sym, ap, ap₂}
use mathlib.Core.Logic.{◌⊎◌, inl, inr}
use mathlib.Core.List.{List, [], ◌∷◌, ◌++◌}
use Prim.Native.Nat.{ℕ, suc, ◌<◌}
use native.Mathlib.Omega.{arith}
use native.Mathlib.Decide.{ℕ_discrete}
use lib.Dec.{T}
use Rattle.lists.specs.Tests.{lex}
use Rattle.lists.proofs.TestLaws.{lex-e, lex-lt, lex-eq}
use Rattle.net.specs.Route.{numbers_first}

pub common-first : (p x y : List ℕ) → T (numbers_first x y) → T (numbers_first (p ++ x) (p ++ y))
unfolding numbers_first
common-first [] x y h = h
common-first (b ∷ p) x y h = lex-eq b b (numbers_first (p ++ x) (p ++ y)) refl (common-first p x y h)

pub lower-first : (p : List ℕ) (a b : ℕ) (r : List ℕ) → a < b → T (numbers_first (p ++ (a ∷ r)) (p ++ (b ∷ [])))
unfolding numbers_first
lower-first p a b r h = common-first p (a ∷ r) (b ∷ []) (lex-lt a b (numbers_first r []) h)

-- what comes before p and c + 1 comes before p and c, or begins with p and c
pub before_more : (q p : List ℕ) (c : ℕ) → T (numbers_first q (p ++ (suc c ∷ []))) → T (numbers_first q (p ++ (c ∷ []))) ⊎ ((r : List ℕ) × (q ≡ p ++ (c ∷ r)))
unfolding numbers_first
before_more [] [] c h = inl tt
before_more (b ∷ q) [] c h = go (lex-e b (suc c) (numbers_first q []) h) (ℕ_discrete b c)
  where
    go : (b < suc c) ⊎ ((b ≡ suc c) × T (numbers_first q [])) → Dec (b ≡ c) → T (lex b c (numbers_first q [])) ⊎ ((r : List ℕ) × (b ∷ q ≡ c ∷ r))
    go (inl l) (yes e) = inr (q, ap (λ x. x ∷ q) e)
    go (inl l) (no n) = inl (lex-lt b c (numbers_first q []) (omega arith))
    go (inr k) d = absurd k.1
before_more [] (d ∷ p) c h = inl tt
before_more (b ∷ q) (d ∷ p) c h = go (λ k. before_more q p c k) (lex-e b d (numbers_first q (p ++ (suc c ∷ []))) h)
  where
    at : b ≡ d → T (numbers_first q (p ++ (c ∷ []))) ⊎ ((r : List ℕ) × (q ≡ p ++ (c ∷ r)))
        → T (lex b d (numbers_first q (p ++ (c ∷ [])))) ⊎ ((r : List ℕ) × (b ∷ q ≡ d ∷ (p ++ (c ∷ r))))
    at e (inl k) = inl (lex-eq b d (numbers_first q (p ++ (c ∷ []))) e k)
    at e (inr k) = inr (k.0, ap₂ ◌∷◌ e k.1)

    go : (T (numbers_first q (p ++ (suc c ∷ []))) → T (numbers_first q (p ++ (c ∷ []))) ⊎ ((r : List ℕ) × (q ≡ p ++ (c ∷ r)))) → (b < d) ⊎ ((b ≡ d) × T (numbers_first q (p ++ (suc c ∷ []))))
        → T (lex b d (numbers_first q (p ++ (c ∷ [])))) ⊎ ((r : List ℕ) × (b ∷ q ≡ d ∷ (p ++ (c ∷ r))))
    go below (inl l) = inl (lex-lt b d (numbers_first q (p ++ (c ∷ []))) l)
    go below (inr k) = at k.0 (below k.1)

-- what comes before p and 0 comes before p, or is p
pub before-zero : (q p : List ℕ) → T (numbers_first q (p ++ (0 ∷ []))) → T (numbers_first q p) ⊎ (q ≡ p)
unfolding numbers_first
before-zero [] [] h = inr refl
before-zero (b ∷ q) [] h = go (lex-e b 0 (numbers_first q []) h)
  where
    go : (b < 0) ⊎ ((b ≡ 0) × T (numbers_first q [])) → T (numbers_first (b ∷ q) []) ⊎ (b ∷ q ≡ [])
    go (inl l) = absurd (omega arith)
    go (inr k) = absurd k.1
before-zero [] (d ∷ p) h = inl tt
before-zero (b ∷ q) (d ∷ p) h = go (λ k. before-zero q p k) (lex-e b d (numbers_first q (p ++ (0 ∷ []))) h)
  where
    at : b ≡ d → T (numbers_first q p) ⊎ (q ≡ p) → T (lex b d (numbers_first q p)) ⊎ (b ∷ q ≡ d ∷ p)
    at e (inl k) = inl (lex-eq b d (numbers_first q p) e k)
    at e (inr k) = inr (ap₂ ◌∷◌ e k)

    go : (T (numbers_first q (p ++ (0 ∷ []))) → T (numbers_first q p) ⊎ (q ≡ p)) → (b < d) ⊎ ((b ≡ d) × T (numbers_first q (p ++ (0 ∷ [])))) → T (lex b d (numbers_first q p)) ⊎ (b ∷ q ≡ d ∷ p)
    go below (inl l) = inl (lex-lt b d (numbers_first q p) l)
    go below (inr k) = at k.0 (below k.1)

-- one that comes first does so whatever follows, or begins the other
pub first-or-begins : (p q : List ℕ) → T (numbers_first p q) → ((x y : List ℕ) → T (numbers_first (p ++ x) (q ++ y))) ⊎ ((a : ℕ) × (r : List ℕ) × (q ≡ p ++ (a ∷ r)))
unfolding numbers_first
first-or-begins p [] h = absurd h
first-or-begins [] (b ∷ q) h = inr (b, q, refl)
first-or-begins (a ∷ p) (b ∷ q) h = go (λ k. first-or-begins p q k) (lex-e a b (numbers_first p q) h)
  where
    at : a ≡ b → ((x y : List ℕ) → T (numbers_first (p ++ x) (q ++ y))) ⊎ ((c : ℕ) × (r : List ℕ) × (q ≡ p ++ (c ∷ r)))
        → ((x y : List ℕ) → T (lex a b (numbers_first (p ++ x) (q ++ y)))) ⊎ ((c : ℕ) × (r : List ℕ) × (b ∷ q ≡ a ∷ (p ++ (c ∷ r))))
    at e (inl f) = inl (λ x y. lex-eq a b (numbers_first (p ++ x) (q ++ y)) e (f x y))
    at e (inr w) = inr (w.0, w.1, ap₂ ◌∷◌ (sym e) w.2)

    go : (T (numbers_first p q) → ((x y : List ℕ) → T (numbers_first (p ++ x) (q ++ y))) ⊎ ((c : ℕ) × (r : List ℕ) × (q ≡ p ++ (c ∷ r)))) → (a < b) ⊎ ((a ≡ b) × T (numbers_first p q))
        → ((x y : List ℕ) → T (lex a b (numbers_first (p ++ x) (q ++ y)))) ⊎ ((c : ℕ) × (r : List ℕ) × (b ∷ q ≡ a ∷ (p ++ (c ∷ r))))
    go below (inl l) = inl (λ x y. lex-lt a b (numbers_first (p ++ x) (q ++ y)) l)
    go below (inr k) = at k.0 (below k.1)
