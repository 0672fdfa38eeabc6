-- Two candidates cut after d arcs, as many as the shorter chain has: the beginnings have as many arcs, then come an arc p of the one and q of the other, and
-- behind these one of the two has ended. There the shorter comes first, before that p and q decide, and before them the beginnings.
use mathlib.Core.Path.{◌≡◌, refl, sym, ap, ap₂, ◌∙◌}
use mathlib.Core.Bool.{Bool}
use mathlib.Core.List.{List, [], ◌∷◌, ◌++◌}
use mathlib.Core.Logic.{◌⊎◌, inl, inr, ⊎_elim}
use Prim.Native.Nat.{ℕ, suc, ◌-◌, ◌≤◌}
use native.Mathlib.Omega.{arith}
use lib.Dec.{ltb}
use lib.ListN.{length, get_or, take, drop, length-append, length-drop}
use lib.Seq.{take-append-le, split_at, length-take-le}
use borrow.Author.Tests.{lt-ltb, le-ltb}
use Rattle.lists.specs.Tests.{lex}
use Rattle.lists.proofs.Cases.{order}
use Rattle.net.specs.Route.{numbers_first}
use Rattle.label_ties.specs.Together.{together}
use Rattle.label_ties.proofs.TogetherLaws.{numbers-together}

-- what has ended comes first
one-ends : (p q : List ℕ) → (length p ≡ 0) ⊎ (length q ≡ 0) → numbers_first p q ≡ ltb (length p) (length q)
unfolding numbers_first
one-ends [] [] h = refl
one-ends [] (b ∷ q) h = sym (lt-ltb 0 (length (b ∷ q)) (omega arith))
one-ends (a ∷ p) [] h = sym (le-ltb (length (a ∷ p)) 0 (omega arith))
one-ends (a ∷ p) (b ∷ q) h = absurd (⊎_elim (λ w. omega arith) (λ w. omega arith) h)

ltb-less : (x y d : ℕ) → d ≤ x → d ≤ y → ltb (x - d) (y - d) ≡ ltb x y
ltb-less x y d h k = ⊎_elim (λ w. le-ltb (x - d) (y - d) (omega arith) ∙ sym (le-ltb x y w)) (λ w. lt-ltb (x - d) (y - d) (omega arith) ∙ sym (lt-ltb x y w)) (order y x)

module _ (x : List ℕ) (a d : ℕ) (h : d ≤ length x) where
  -- a candidate is the first d arcs of its chain, the arc after those, and the rest
  cut : x ++ (a ∷ []) ≡ take d x ++ (get_or (x ++ (a ∷ [])) d 0 ∷ drop (suc d) (x ++ (a ∷ [])))
  cut =
      split_at (x ++ (a ∷ [])) d 0 (omega (arith, length-append x (a ∷ [])))
      ∙ ap (λ z. z ++ (get_or (x ++ (a ∷ [])) d 0 ∷ drop (suc d) (x ++ (a ∷ [])))) (take-append-le d x (a ∷ []) h)

  rest-length : length (drop (suc d) (x ++ (a ∷ []))) ≡ length x - d
  rest-length = length-drop (suc d) (x ++ (a ∷ [])) ∙ omega (arith, length-append x (a ∷ []))

module _ (x y : List ℕ) (d : ℕ) (u v : List ℕ) (hx : d ≤ length x) (hy : d ≤ length y) (eu : u ≡ take d x) (ev : v ≡ take d y) where
  -- the chains have k and m arcs, p and q are the arcs after the cut, and r what is decided behind it
  pub cut-together : (a c k m p q : ℕ) (r : Bool) → (d ≡ length x) ⊎ (d ≡ length y) → k ≡ length x → m ≡ length y
      → p ≡ get_or (x ++ (a ∷ [])) d 0 → q ≡ get_or (y ++ (c ∷ [])) d 0 → r ≡ lex p q (ltb k m)
      → together u v r ≡ numbers_first (x ++ (a ∷ [])) (y ++ (c ∷ []))
  unfolding numbers_first
  cut-together a c k m p q r o ek em ep eq er =
      let s = drop (suc d) (x ++ (a ∷ [])) in
      let t = drop (suc d) (y ++ (c ∷ [])) in
      let ls : length s ≡ length x - d = rest-length x a d hx in
      let lt : length t ≡ length y - d = rest-length y c d hy in
      let ends : numbers_first s t ≡ ltb (length x) (length y) =
      one-ends s t (⊎_elim (λ w. inl (omega arith)) (λ w. inr (omega arith)) o) ∙ ap₂ ltb ls lt ∙ ltb-less (length x) (length y) d hx hy in
      let lu : length (take d x) ≡ length (take d y) = length-take-le d x hx ∙ sym (length-take-le d y hy) in
      rw (er, eu, ev, ep, eq, ek, em, ← ends)
      (sym (ap₂ numbers_first (cut x a d hx) (cut y c d hy)
      ∙ numbers-together (take d x) (take d y) (get_or (x ++ (a ∷ [])) d 0 ∷ s) (get_or (y ++ (c ∷ [])) d 0 ∷ t) lu))
