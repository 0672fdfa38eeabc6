-- Parts of first routes, where lengths are positive. A chain that visits a node twice is longer than a partial route to its end, so a first route comes before every
-- chain, and not only before those that are simple. Hence a beginning of a first route is the first route to its end, and an ending that from where it begins: one
-- before it, put in its place, would make a chain before the whole.
use mathlib.Core.Path.{◌≡◌, refl, sym, ap, subst, ◌∙◌}
use mathlib.Core.Logic.{◌⊎◌, inl, inr, ⊎_elim}
use mathlib.Core.List.{List, [], ◌∷◌, ◌++◌, append-nil, append_assoc}
use mathlib.Core.Bool.{not}
use Prim.Native.Nat.{ℕ, ◌<◌, ◌≤◌}
use native.Mathlib.Omega.{arith}
use lib.Dec.{T, T_not}
use Rattle.lists.specs.Tests.{has, distinct}
use Rattle.lists.proofs.TestLaws.{and_i, and_r, has→mem, mem→has}
use Rattle.lists.proofs.Cases.{either}
use Rattle.net.specs.Net.{Net, arc}
use Rattle.net.specs.Route.{visited, end_of, chain, partial, length_of, precedes}
use Rattle.net.proofs.Order.{AtMost, at-most-same, not_after, not-both, before-e, before-less, before_same, before-most, length_of-append, precedes-extend}
use Rattle.net.proofs.Chains.{chain-cons, chain-front, partial-nil, partial-chain, partial-front, partial-more, end_of-more, cut_at}
use Rattle.distances.specs.Distance.{FirstRoute}
use Rattle.distances.proofs.Walks.{end_of-append, chain-join, chain_back}
use Rattle.distances.proofs.Dijkstra.{cut-cycles}
use Rattle.distances.proofs.Lex.{common-first}

-- ---- the ending of a partial route is one, from where it begins

module _ (net : Net) where
  distinct-back : (s : ℕ) (p r : List ℕ) → T (distinct (visited net.arcs s (p ++ r))) → T (distinct (visited net.arcs (end_of net.arcs s p) r))
  unfolding end_of visited distinct
  distinct-back s [] r h = h
  distinct-back s (a ∷ p) r h =
      let l = visited net.arcs (arc net.arcs a).to (p ++ r) in
      distinct-back (arc net.arcs a).to p r (and_r (not (has s l)) (distinct l) h)

  pub partial-back : (s : ℕ) (p r : List ℕ) → T (partial net s (p ++ r)) → T (partial net (end_of net.arcs s p) r)
  unfolding partial
  partial-back s p r h =
      let v = end_of net.arcs s p in
      and_i (chain net v r) (distinct (visited net.arcs v r)) (chain_back net s p r (partial-chain net s (p ++ r) h))
      (distinct-back s p r (and_r (chain net s (p ++ r)) (distinct (visited net.arcs s (p ++ r))) h))

  pub first_one : (s v : ℕ) (p q : List ℕ) → FirstRoute net s v p → FirstRoute net s v q → p ≡ q
  first_one s v p q f g = at-most-same (length_of net.arcs) p q (f.leads q g.is-partial g.ends) (g.leads p f.is-partial f.ends)

  -- a common beginning keeps the order
  pub precedes-common : (p x y : List ℕ) → T (precedes net.arcs x y) → T (precedes net.arcs (p ++ x) (p ++ y))
  precedes-common p x y h =
      ⊎_elim (λ l. before-less (length_of net.arcs) (p ++ x) (p ++ y) (omega (arith, length_of-append net.arcs p x, length_of-append net.arcs p y)))
      (λ k. before_same (length_of net.arcs) (p ++ x) (p ++ y) (omega (arith, k.0, length_of-append net.arcs p x, length_of-append net.arcs p y)) (common-first p x y k.1))
      (before-e (length_of net.arcs) x y h)

  module _ (positive : (a : ℕ) → 0 < (arc net.arcs a).len) (s : ℕ) where
    -- ---- a chain is simple, or longer than a partial route to its end

    Shorter : List ℕ → ℕ → Type 0
    Shorter q n = (x : List ℕ) × T (partial net s x) × (end_of net.arcs s x ≡ end_of net.arcs s q) × (length_of net.arcs x < n)

    simple-from : (p r : List ℕ) → T (partial net s p) → T (chain net (end_of net.arcs s p) r) → T (partial net s (p ++ r)) ⊎ Shorter (p ++ r) (length_of net.arcs (p ++ r))
    unfolding end_of length_of Shorter
    simple-from p [] h c = inl (subst (λ l. T (partial net s l)) (sym (append-nil p)) h)
    simple-from p (a ∷ r) h c = go (λ k l. simple-from (p ++ (a ∷ [])) r k l) (either (has (arc net.arcs a).to (visited net.arcs s p)))
      where
        e : (p ++ (a ∷ [])) ++ r ≡ p ++ (a ∷ r)
        e = append_assoc p (a ∷ []) r

        cc' : T (chain net (arc net.arcs a).to r)
        cc' = (chain-cons net (end_of net.arcs s p) a r c).1

        go : (T (partial net s (p ++ (a ∷ []))) → T (chain net (end_of net.arcs s (p ++ (a ∷ []))) r)
            → T (partial net s ((p ++ (a ∷ [])) ++ r)) ⊎ Shorter ((p ++ (a ∷ [])) ++ r) (length_of net.arcs ((p ++ (a ∷ [])) ++ r)))
            → T (has (arc net.arcs a).to (visited net.arcs s p)) ⊎ T (not (has (arc net.arcs a).to (visited net.arcs s p)))
            → T (partial net s (p ++ (a ∷ r))) ⊎ Shorter (p ++ (a ∷ r)) (length_of net.arcs (p ++ (a ∷ r)))
        go below (inl m) =
            let w = cut_at net.arcs s p (arc net.arcs a).to (has→mem _ _ m) in
            let u = w.0 in
            let k : T (partial net s u) = partial-front net s u w.1 (subst (λ l. T (partial net s l)) w.2 h) in
            let j : T (chain net s (u ++ r)) = chain-join net s u r (partial-chain net s u k) (subst (λ v. T (chain net v r)) (sym w.3) cc') in
            let x = cut-cycles net s (u ++ r) j in
            inr (
              x.0,
              x.1,
              x.2 ∙ end_of-append net.arcs s u r ∙ ap (λ v. end_of net.arcs v r) w.3 ∙ sym (end_of-append net.arcs s p (a ∷ r)),
              omega (arith, x.3, length_of-append net.arcs u r, length_of-append net.arcs p (a ∷ r), ap (length_of net.arcs) w.2, length_of-append net.arcs u w.1, positive a),
            )
        go below (inr n) =
            let k = partial-more net s p a h (record {
              leaves-end = (chain-cons net (end_of net.arcs s p) a r c).0;
              is-new = λ m. T_not (has (arc net.arcs a).to (visited net.arcs s p)) n (mem→has m);
            }) in
            subst (λ l. T (partial net s l) ⊎ Shorter l (length_of net.arcs l)) e (below k (subst (λ v. T (chain net v r)) (sym (end_of-more net.arcs s p a)) cc'))

    -- a first route comes before every chain to its end
    pub first-chains : (v : ℕ) (p q : List ℕ) → FirstRoute net s v p → T (chain net s q) → end_of net.arcs s q ≡ v → AtMost (length_of net.arcs) p q
    unfolding end_of Shorter
    first-chains v p q f c e = go (simple-from [] q (partial-nil net s) c)
      where
        long : (x : List ℕ) → AtMost (length_of net.arcs) p x → length_of net.arcs p ≤ length_of net.arcs x
        long x (inl z) = omega (arith, ap (length_of net.arcs) z)
        long x (inr z) = before-most (length_of net.arcs) p x z

        go : T (partial net s q) ⊎ Shorter q (length_of net.arcs q) → AtMost (length_of net.arcs) p q
        go (inl h) = f.leads q h e
        go (inr x) = inr (before-less (length_of net.arcs) p q (omega (arith, x.3, long x.0 (f.leads x.0 x.1 (x.2 ∙ e)))))

    -- ---- parts of first routes

    pub first-beginning : (v : ℕ) (p r : List ℕ) → FirstRoute net s v (p ++ r) → FirstRoute net s (end_of net.arcs s p) p
    first-beginning v p r f =
        record {
          is-partial = partial-front net s p r f.is-partial;
          ends = refl;
          leads = λ x h e. not_after (length_of net.arcs) p x (λ k.
              not-both (length_of net.arcs) (p ++ r) (x ++ r)
              (first-chains v (p ++ r) (x ++ r) f
              (chain-join net s x r (partial-chain net s x h) (subst (λ w. T (chain net w r)) (sym e) (chain_back net s p r (partial-chain net s (p ++ r) f.is-partial))))
              (end_of-append net.arcs s x r ∙ ap (λ w. end_of net.arcs w r) e ∙ sym (end_of-append net.arcs s p r) ∙ f.ends))
              (precedes-extend net.arcs positive x p r k));
        }

    pub first-ending : (v : ℕ) (p r : List ℕ) → FirstRoute net s v (p ++ r) → FirstRoute net (end_of net.arcs s p) v r
    first-ending v p r f =
        record {
          is-partial = partial-back s p r f.is-partial;
          ends = sym (end_of-append net.arcs s p r) ∙ f.ends;
          leads = λ x h e. not_after (length_of net.arcs) r x (λ k.
              not-both (length_of net.arcs) (p ++ r) (p ++ x)
              (first-chains v (p ++ r) (p ++ x) f
              (chain-join net s p x (chain-front net s p r (partial-chain net s (p ++ r) f.is-partial)) (partial-chain net (end_of net.arcs s p) x h))
              (end_of-append net.arcs s p x ∙ e))
              (precedes-common p x r k));
        }
