-- Numbers compared from the start, over lists of one length: by induction on both. What stands behind the two lists counts only where they are equal, and a
-- number more behind each is compared before what stands behind that.
use mathlib.Core.Path.{◌≡◌, refl, sym, ap, ap₂, ◌∙◌}
use mathlib.Core.Bool.{Bool, true, false}
use mathlib.Core.List.{List, [], ◌∷◌, ◌++◌}
use mathlib.Core.Logic.{◌≢◌, ⊎_elim}
use Prim.Native.Nat.{ℕ, ◌≤◌, ◌<◌}
use native.Mathlib.Omega.{arith}
use lib.ListN.{length}
use borrow.Author.Tests.{lt-ltb, le-ltb, eq-eqb, ne_eqb}
use Rattle.lists.specs.Tests.{lex}
use Rattle.lists.proofs.Cases.{three_ways}
use Rattle.net.specs.Route.{numbers_first}
use Rattle.label_ties.specs.Together.{together}

-- ---- the first of two numbers that differ decides

module _ (x y : ℕ) (r : Bool) where
  pub lex-less : x < y → lex x y r ≡ true
  unfolding lex
  lex-less h = rw (lt-ltb x y h)

  pub lex-more : y < x → lex x y r ≡ false
  unfolding lex
  lex-more h = rw (le-ltb x y (omega arith), ne_eqb x y (λ e. omega arith))

  pub lex-even : x ≤ y → y ≤ x → lex x y r ≡ r
  unfolding lex
  lex-even h k = rw (le-ltb x y k, eq-eqb x y (omega arith))

-- ---- lists of one length

pub numbers-together : (x y p q : List ℕ) → length x ≡ length y → numbers_first (x ++ p) (y ++ q) ≡ together x y (numbers_first p q)
unfolding numbers_first together
numbers-together [] [] p q h = refl
numbers-together [] (b ∷ y) p q h = absurd (omega arith)
numbers-together (a ∷ x) [] p q h = absurd (omega arith)
numbers-together (a ∷ x) (b ∷ y) p q h = ap (lex a b) (numbers-together x y p q (omega arith))

pub together-same : (x : List ℕ) (r : Bool) → together x x r ≡ r
unfolding together
together-same [] r = refl
together-same (a ∷ x) r = lex-even a a (together x x r) (omega arith) (omega arith) ∙ together-same x r

-- one number more
pub together-last : (x y : List ℕ) (a b : ℕ) (r : Bool) → length x ≡ length y → together (x ++ (a ∷ [])) (y ++ (b ∷ [])) r ≡ together x y (lex a b r)
unfolding together
together-last [] [] a b r h = refl
together-last [] (d ∷ y) a b r h = absurd (omega arith)
together-last (c ∷ x) [] a b r h = absurd (omega arith)
together-last (c ∷ x) (d ∷ y) a b r h = ap (lex c d) (together-last x y a b r (omega arith))

-- behind lists that differ nothing counts
pub together-front : (x y p q : List ℕ) (r : Bool) → length x ≡ length y → x ≢ y → together (x ++ p) (y ++ q) r ≡ together x y r
unfolding together
together-front [] [] p q r h ne = absurd (ne refl)
together-front [] (b ∷ y) p q r h ne = absurd (omega arith)
together-front (a ∷ x) [] p q r h ne = absurd (omega arith)
together-front (a ∷ x) (b ∷ y) p q r h ne =
    ⊎_elim
    (λ k. lex-less a b _ k ∙ sym (lex-less a b _ k))
    (⊎_elim (λ k. ap (lex a b) (together-front x y p q r (omega arith) (λ e. ne (ap₂ ◌∷◌ k e)))) (λ k. lex-more a b _ k ∙ sym (lex-more a b _ k)))
    (three_ways a b)
