-- What is asked of f, that a search may go by it: along a chain it does not fall, and at one node it tells of two chains what their lengths tell. The length
-- itself is such a guide.
use mathlib.Core.Path.{◌≡◌, sym, ap, subst}
use mathlib.Core.Logic.{inl, inr, ⊎_elim}
use mathlib.Core.List.{List, [], ◌∷◌, ◌++◌, append-nil, append_assoc}
use Prim.Native.Nat.{ℕ, ◌+◌, ◌≤◌, ◌<◌}
use native.Mathlib.Omega.{arith}
use lib.Dec.{T}
use Rattle.net.specs.Net.{Net}
use Rattle.net.specs.Route.{end_of, leaves, chain, length_of, before, precedes}
use Rattle.net.proofs.Order.{before-e, before-less, before_same, before-i, numbers-front, length_of-append, AtMost, at-most-trans}
use Rattle.net.proofs.Chains.{chain_next}

module _ (net : Net) (s : ℕ) (f : List ℕ → ℕ) where
  pub record Guides : Type 0 where
    pub rises : (p : List ℕ) (a : ℕ) → T (leaves net (end_of net.arcs s p) a) → f p ≤ f (p ++ (a ∷ []))
    pub at-node : (p r : List ℕ) → end_of net.arcs s p ≡ end_of net.arcs s r → f p + length_of net.arcs r ≡ f r + length_of net.arcs p

  module _ (g : Guides) where
    -- ---- at one node the order by f is that of rule 3

    pub before-precedes : (p r : List ℕ) → end_of net.arcs s p ≡ end_of net.arcs s r → T (before f p r) → T (precedes net.arcs p r)
    before-precedes p r e h =
        ⊎_elim (λ l. before-less (length_of net.arcs) p r (omega (arith, g.at-node p r e))) (λ k. before_same (length_of net.arcs) p r (omega (arith, g.at-node p r e, k.0)) k.1) (before-e f p r h)

    pub precedes-before : (p r : List ℕ) → end_of net.arcs s p ≡ end_of net.arcs s r → T (precedes net.arcs p r) → T (before f p r)
    precedes-before p r e h =
        ⊎_elim (λ l. before-less f p r (omega (arith, g.at-node p r e))) (λ k. before_same f p r (omega (arith, g.at-node p r e, k.0)) k.1) (before-e (length_of net.arcs) p r h)

    -- ---- a beginning comes first

    pub front-before : (p : List ℕ) (a : ℕ) → T (leaves net (end_of net.arcs s p) a) → T (before f p (p ++ (a ∷ [])))
    front-before p a h = before-i f p (p ++ (a ∷ [])) (g.rises p a h) (numbers-front p a [])

    pub fronts-before : (p r : List ℕ) → T (chain net s (p ++ r)) → AtMost f p (p ++ r)
    fronts-before p [] h = inl (sym (append-nil p))
    fronts-before p (a ∷ r) h =
        let e = append_assoc p (a ∷ []) r in
        subst (AtMost f p) e
        (at-most-trans f p (p ++ (a ∷ [])) ((p ++ (a ∷ [])) ++ r) (inr (front-before p a (chain_next net s p a r h)))
        (fronts-before (p ++ (a ∷ [])) r (subst (λ l. T (chain net s l)) (sym e) h)))

-- ---- the guide of rule 3

pub by_length : (net : Net) (s : ℕ) → Guides net s (length_of net.arcs)
by_length net s = record { rises = λ p a h. omega (arith, length_of-append net.arcs p (a ∷ [])); at-node = λ p r e. omega arith }
