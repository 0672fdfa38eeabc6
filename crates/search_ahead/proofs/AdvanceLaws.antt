-- A cursor found by going through the arcs of a chain's end: what is right below arc a is made right below a + 1. In the order of rule 3 a chain's own candidates
-- come in the order of their last arcs' lengths, and then of their numbers.
use mathlib.Core.Path.{◌≡◌, refl, subst, ap, ◌∙◌}
use mathlib.Core.Logic.{◌⊎◌, inl, inr, ⊎_elim}
use mathlib.Core.Bool.{Bool, true, false, ◌&&◌, ◌||◌}
use mathlib.Core.List.{List, [], ◌∷◌, ◌++◌}
use mathlib.Core.Option.{Option, none, some}
use Prim.Native.Nat.{ℕ, ◌+◌, ◌≤◌, ◌<◌}
use native.Mathlib.Omega.{arith}
use lib.Dec.{T, ltb, eqb}
use borrow.Author.Tests.{lt-ltb, le-ltb, eq-eqb, ne_eqb}
use Rattle.lists.specs.Tests.{lex}
use Rattle.lists.proofs.Cases.{order, three_ways}
use Rattle.net.specs.Net.{Arc, arc}
use Rattle.net.specs.Route.{end_of, leaves, length_of, numbers_first, before, precedes}
use Rattle.net.specs.Round.{Query}
use Rattle.net.proofs.Order.{AtMost, length_of-append, at-most-trans, not_after}
use Rattle.net.proofs.Step.{Fails}
use Rattle.search_ahead.specs.Cursor.{Waits, Cursor}

-- ---- the order of a chain's own candidates

lex-same : (x : ℕ) (r : Bool) → lex x x r ≡ r
unfolding lex
lex-same x r = rw (le-ltb x x (omega arith), eq-eqb x x refl)

numbers-own : (p : List ℕ) (a b : ℕ) → numbers_first (p ++ (a ∷ [])) (p ++ (b ∷ [])) ≡ ltb a b
unfolding numbers_first
numbers-own [] a b = last (ltb a b) (eqb a b)
  where
    last : (x y : Bool) → (x || (y && false)) ≡ x
    last true y = refl
    last false true = refl
    last false false = refl
numbers-own (x ∷ p) a b = lex-same x _ ∙ numbers-own p a b

lex-shift : (x a b : ℕ) (r : Bool) → lex (x + a) (x + b) r ≡ lex a b r
unfolding lex
lex-shift x a b r = go (three_ways a b)
  where
    go : (a < b) ⊎ (a ≡ b) ⊎ (b < a) → lex (x + a) (x + b) r ≡ lex a b r
    go (inl h) = rw (lt-ltb a b h, lt-ltb (x + a) (x + b) (omega arith))
    go (inr (inl h)) = rw (le-ltb a b (omega arith), le-ltb (x + a) (x + b) (omega arith), eq-eqb a b h, eq-eqb (x + a) (x + b) (omega arith))
    go (inr (inr h)) = rw (le-ltb a b (omega arith), le-ltb (x + a) (x + b) (omega arith), ne_eqb a b (λ e. omega arith), ne_eqb (x + a) (x + b) (λ e. omega arith))

pub own-precedes : (arcs : List Arc) (p : List ℕ) (a b : ℕ) → precedes arcs (p ++ (a ∷ [])) (p ++ (b ∷ [])) ≡ lex (arc arcs a).len (arc arcs b).len (ltb a b)
unfolding before length_of
own-precedes arcs p a b =
    let x = length_of arcs p in
    let ea : length_of arcs (p ++ (a ∷ [])) ≡ x + (arc arcs a).len = omega (arith, length_of-append arcs p (a ∷ [])) in
    let eb : length_of arcs (p ++ (b ∷ [])) ≡ x + (arc arcs b).len = omega (arith, length_of-append arcs p (b ∷ [])) in
    rw (ea, eb, numbers-own p a b) (lex-shift x (arc arcs a).len (arc arcs b).len (ltb a b))

-- ---- arc by arc

module _ (q : Query) (earlier : List (List ℕ)) (f : List ℕ → ℕ) (taken : List (List ℕ)) (last p : List ℕ) where
  -- no arc below lo leaves p's end
  pub cursor-start : (lo : ℕ) → ((b : ℕ) → b < lo → T (leaves q.net (end_of q.net.arcs q.s p) b) → ⊥) → Cursor q earlier f taken last p lo none
  cursor-start lo h = λ b u w. absurd (h b u w.leaves-end)

  -- none of the arcs from lo to hi makes a candidate to look at
  pub cursor-skip : (lo hi : ℕ) (o : Option ℕ) → Cursor q earlier f taken last p lo o → ((b : ℕ) → lo ≤ b → b < hi → Waits q f last p b → Fails q earlier taken (p ++ (b ∷ [])))
      → Cursor q earlier f taken last p hi o
  cursor-skip lo hi none c h = λ b u w. ⊎_elim (λ k. h b k u w) (λ k. c b k w) (order lo b)
  cursor-skip lo hi (some a) c h = (c.0, λ b u w. ⊎_elim (λ k. inl (h b k u w)) (λ k. c.1 b k w) (order lo b))

  -- the next comes after the best so far
  pub cursor-later : (a x : ℕ) → Cursor q earlier f taken last p x (some a) → (T (before f (p ++ (x ∷ [])) (p ++ (a ∷ []))) → ⊥) → Cursor q earlier f taken last p (x + 1) (some a)
  cursor-later a x c n =
      (c.0, λ b u w. ⊎_elim (λ k. let e : x ≡ b = omega arith in inr (subst (λ z. AtMost f (p ++ (a ∷ [])) (p ++ (z ∷ []))) e (not_after f _ _ n))) (λ k. c.1 b k w) (order x b))

  -- it comes before the best so far, and passes
  pub cursor-new : (x : ℕ) → Waits q f last p x → (o : Option ℕ) → ((a : ℕ) → o ≡ some a → T (before f (p ++ (x ∷ [])) (p ++ (a ∷ [])))) → Cursor q earlier f taken last p x o
      → Cursor q earlier f taken last p (x + 1) (some x)
  cursor-new x v none g c = (v, λ b u w. ⊎_elim (λ k. let e : x ≡ b = omega arith in inr (inl (ap (λ z. p ++ (z ∷ [])) e))) (λ k. inl (c b k w)) (order x b))
  cursor-new x v (some a) g c = (
    v,
    λ b u w. ⊎_elim (λ k. let e : x ≡ b = omega arith in inr (inl (ap (λ z. p ++ (z ∷ [])) e)))
        (λ k. ⊎_elim inl (λ z. inr (at-most-trans f _ (p ++ (a ∷ [])) _ (inr (g a refl)) z)) (c.1 b k w)) (order x b),
  )
