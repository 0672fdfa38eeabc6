-- The first route from v to t by rule 3, from the distances D to t: at each node the lowest arc that is just as long as what it brings nearer.
use mathlib.Core.Path.{◌≡◌, refl, sym, ap, subst, ◌∙◌}
use mathlib.Core.Logic.{◌⊎◌, inl, inr, ⊎_elim}
use mathlib.Core.List.{List, [], ◌∷◌, ◌++◌, Memᴰ}
use mathlib.Core.Bool.{Bool, true, not, ◌&&◌}
use Prim.Native.Nat.{ℕ, zero, suc, ◌+◌, ◌-◌, ◌<◌, ◌≤◌}
use native.Mathlib.Omega.{arith}
use native.Mathlib.Decide.{ℕ_discrete}
use lib.Dec.{T, eqb, eqb→eq, T_not}
use lib.ListN.{length}
use Rattle.lists.specs.Tests.{lex, distinct}
use Rattle.lists.proofs.TestLaws.{and_i, and_l, and_r, eq→eqb, lex-lt, lex-eq}
use Rattle.lists.proofs.MemberLaws.{last_of}
use Rattle.lists.proofs.Cases.{either, order, three_ways}
use Rattle.net.specs.Net.{Net, arc}
use Rattle.net.specs.Route.{leaves, visited, end_of, chain, partial, length_of, numbers_first, before}
use Rattle.net.proofs.Order.{AtMost, before-less}
use Rattle.net.proofs.Chains.{leaves-e, leaves-i, chain-cons, cons-chain, end_of-more, partial-chain}
use Rattle.distances.specs.Turned.{reversed}
use Rattle.distances.specs.Distance.{FirstRoute}
use Rattle.distances.specs.Search.{Open, Found}
use Rattle.distances.specs.Greedy.{Pick, Nearer, Greedy}
use Rattle.distances.proofs.Walks.{open-arcs, rising-simple}
use Rattle.distances.proofs.Dijkstra.{along-tight}
use Rattle.distances.proofs.Turned.{rev-from, rev-to, rev-len, rev-open, open-rev}

module _ (net : Net) (t : ℕ) (D : ℕ → ℕ) where
  pub greedy-chain : (v : ℕ) (p : List ℕ) → Greedy net t D v p → T (chain net v p) × (end_of net.arcs v p ≡ t) × (D t ≡ 0 → length_of net.arcs p ≡ D v)
  unfolding Greedy end_of length_of chain
  greedy-chain v [] g = (tt, g, λ z. omega (arith, ap D g))
  greedy-chain v (a ∷ p) g =
      let k = greedy-chain (arc net.arcs a).to p g.1 in
      (cons-chain net v a p g.0.nearer.is-leaving k.0, k.1, λ z. omega (arith, k.2 z, g.0.nearer.just))

  module _ (zero-t : D t ≡ 0) (relaxed : (a : ℕ) → Open net a → D (arc net.arcs a).from ≤ D (arc net.arcs a).to + (arc net.arcs a).len) where
    pub far-at-most : (v : ℕ) (q : List ℕ) → T (chain net v q) → end_of net.arcs v q ≡ t → D v ≤ length_of net.arcs q
    unfolding end_of length_of
    far-at-most v [] h e = omega (arith, ap D e)
    far-at-most v (a ∷ q) h e =
        let c = chain-cons net v a q h in
        let l = leaves-e net v a c.0 in
        omega (arith, far-at-most (arc net.arcs a).to q c.1 e, relaxed a (l.is-arc, l.is-usable), ap D l.starts)

    module _ (positive : (a : ℕ) → 0 < (arc net.arcs a).len) where
      -- arc by arc, where both are equally long
      greedy-numbers : (v : ℕ) (p q : List ℕ) → Greedy net t D v p → T (chain net v q) → end_of net.arcs v q ≡ t → length_of net.arcs p ≡ length_of net.arcs q → (p ≡ q) ⊎ T (numbers_first p q)
      unfolding Greedy end_of length_of numbers_first
      greedy-numbers v [] [] g c e l = inl refl
      greedy-numbers v [] (b ∷ q) g c e l = inr tt
      greedy-numbers v (a ∷ p) [] g c e l = absurd (omega (arith, positive a))
      greedy-numbers v (a ∷ p) (b ∷ q) g c e l =
          let k = chain-cons net v b q c in
          let y = leaves-e net v b k.0 in
          let h = (greedy-chain (arc net.arcs a).to p g.1).2 zero-t in
          let j : (arc net.arcs b).len + D (arc net.arcs b).to ≡ D v =
          omega (arith, g.0.nearer.just, relaxed b (y.is-arc, y.is-usable), ap D y.starts, far-at-most (arc net.arcs b).to q k.1 e) in
          go (g.0.lowest b (record { is-leaving = k.0; just = j }))
          (λ z. greedy-numbers (arc net.arcs a).to p q g.1 (subst (λ x. T (chain net (arc net.arcs x).to q)) (sym z) k.1) (ap (λ x. end_of net.arcs (arc net.arcs x).to q) z ∙ e) (omega (arith, ap (λ x. (arc net.arcs x).len) z)))
          (three_ways a b)
        where
          same : a ≡ b → (p ≡ q) ⊎ T (numbers_first p q) → (a ∷ p ≡ b ∷ q) ⊎ T (lex a b (numbers_first p q))
          same z (inl k) = inl (cc)
          same z (inr k) = inr (lex-eq a b (numbers_first p q) z k)

          go : a ≤ b → (a ≡ b → (p ≡ q) ⊎ T (numbers_first p q)) → (a < b) ⊎ (a ≡ b) ⊎ (b < a) → (a ∷ p ≡ b ∷ q) ⊎ T (lex a b (numbers_first p q))
          go h below (inl k) = inr (lex-lt a b (numbers_first p q) k)
          go h below (inr (inl k)) = same k (below k)
          go h below (inr (inr k)) = absurd (omega arith)

      pub greedy-first : (v : ℕ) (p q : List ℕ) → Greedy net t D v p → T (chain net v q) → end_of net.arcs v q ≡ t → AtMost (length_of net.arcs) p q
      unfolding before
      greedy-first v p q g c e = go (three_ways (length_of net.arcs p) (length_of net.arcs q))
        where
          same : length_of net.arcs p ≡ length_of net.arcs q → (p ≡ q) ⊎ T (numbers_first p q) → AtMost (length_of net.arcs) p q
          same l (inl k) = inl k
          same l (inr k) = inr (lex-eq (length_of net.arcs p) (length_of net.arcs q) (numbers_first p q) l k)

          go : (length_of net.arcs p < length_of net.arcs q) ⊎ (length_of net.arcs p ≡ length_of net.arcs q) ⊎ (length_of net.arcs q < length_of net.arcs p) → AtMost (length_of net.arcs) p q
          go (inl l) = inr (before-less (length_of net.arcs) p q l)
          go (inr (inl l)) = same l (greedy-numbers v p q g c e l)
          go (inr (inr l)) = absurd (omega (arith, (greedy-chain v p g).2 zero-t, far-at-most v q c e))

      module _ (far : ℕ) (most : (v : ℕ) → D v ≤ far) where
        -- along it D falls, so it visits no node twice
        falls : (v : ℕ) (p : List ℕ) → Greedy net t D v p → (a : ℕ) → Memᴰ a p → far - D (arc net.arcs a).from < far - D (arc net.arcs a).to
        unfolding Greedy
        falls v [] g a m = absurd (mathlib.Core.List.Memᴰ.not-nil m)
        falls v (b ∷ p) g a m = go (falls (arc net.arcs b).to p g.1 a) (mathlib.Core.List.Memᴰ.cases_cons m)
          where
            go : (Memᴰ a p → far - D (arc net.arcs a).from < far - D (arc net.arcs a).to) → (a ≡ b) ⊎ Memᴰ a p → far - D (arc net.arcs a).from < far - D (arc net.arcs a).to
            go below (inl e) =
                subst (λ x. far - D (arc net.arcs x).from < far - D (arc net.arcs x).to) (sym e)
                (omega (arith, positive b, g.0.nearer.just, ap D (leaves-e net v b g.0.nearer.is-leaving).starts, most (arc net.arcs b).from))
            go below (inr k) = below k

        pub greedy-route : (v : ℕ) (p : List ℕ) → Greedy net t D v p → FirstRoute net v t p
        unfolding partial
        greedy-route v p g =
            let k = greedy-chain v p g in
            record {
              is-partial = and_i (chain net v p) (distinct (visited net.arcs v p)) k.0 (rising-simple net (λ x. far - D x) v p k.0 (falls v p g));
              ends = k.1;
              leads = λ r h e. greedy-first v p r g (partial-chain net v r h) e;
            }

-- ---- a search from t over the reversed net gives such D

-- the lowest number that passes a test, where one does
lowest-from : (f : ℕ → Bool) (n i : ℕ) → ((j : ℕ) → j < i → T (f j) → ⊥) → T (f (i + n)) → (m : ℕ) × T (f m) × ((j : ℕ) → T (f j) → m ≤ j)
lowest-from f zero i low h =
    (i, subst (λ x. T (f x)) (let e : i + 0 ≡ i = omega arith in e) h, λ j k. ⊎_elim (λ l. l) (λ l. absurd (low j l k)) (order i j))
lowest-from f (suc n) i low h =
    go (λ l k. lowest-from f n (suc i) l k) (either (f i))
  where
    go : (((j : ℕ) → j < suc i → T (f j) → ⊥) → T (f (suc i + n)) → (m : ℕ) × T (f m) × ((j : ℕ) → T (f j) → m ≤ j)) → T (f i) ⊎ T (not (f i))
        → (m : ℕ) × T (f m) × ((j : ℕ) → T (f j) → m ≤ j)
    go below (inl k) = (i, k, λ j l. ⊎_elim (λ z. z) (λ z. absurd (low j z l)) (order i j))
    go below (inr k) =
        let e : i + suc n ≡ suc i + n = omega arith in
        below (λ j l z. ⊎_elim (λ y. let d : j ≡ i = omega arith in T_not (f i) k (subst (λ x. T (f x)) d z)) (λ y. low j y z) (order i j)) (subst (λ x. T (f x)) e h)

module _ (net : Net) (t far : ℕ) (D parent : ℕ → ℕ) (f : Found (reversed net) t far D parent) where
  pub to-t-relaxed : (a : ℕ) → Open net a → D (arc net.arcs a).from ≤ D (arc net.arcs a).to + (arc net.arcs a).len
  to-t-relaxed a o = omega (arith, f.relaxed a (rev-open net a o), ap D (rev-from net a o.0), ap D (rev-to net a o.0), rev-len net a o.0)

  -- from a node that reaches t and is not t, there is an arc to go on by
  pub goes_on : (v : ℕ) → D v < far → (v ≡ t → ⊥) → (a : ℕ) × Nearer net D v a × (D (arc net.arcs a).to < far)
  unfolding partial end_of
  goes_on v h n =
      let w = f.real v h in
      let c : T (chain (reversed net) t w.0) = partial-chain (reversed net) t w.0 w.1 in
      go w.0 c w.2 w.3 (last_of w.0)
    where
      go : (p : List ℕ) → T (chain (reversed net) t p) → end_of (reversed net).arcs t p ≡ v → length_of (reversed net).arcs p ≡ D v → (p ≡ []) ⊎ ((x : List ℕ) × (a : ℕ) × (p ≡ x ++ (a ∷ [])))
          → (a : ℕ) × Nearer net D v a × (D (arc net.arcs a).to < far)
      go p c e l (inl z) = absurd (n (sym e ∙ ap (end_of (reversed net).arcs t) z))
      go p c e l (inr k) =
          let a = k.1 in
          let m : Memᴰ a p = subst (Memᴰ a) (sym k.2) (mathlib.Core.List.Memᴰ.append_right k.0 (mathlib.Core.List.Memᴰ.head refl)) in
          let o = open-rev net a (open-arcs (reversed net) t p c a m) in
          let j = along-tight (reversed net) D f.relaxed t p c (omega (arith, f.zero-s, l, ap D e)) a m in
          let b : (arc net.arcs a).from ≡ v = sym (rev-to net a o.0) ∙ sym (end_of-more (reversed net).arcs t k.0 a) ∙ ap (end_of (reversed net).arcs t) (sym k.2) ∙ e in
          let i : (arc net.arcs a).len + D (arc net.arcs a).to ≡ D v = omega (arith, ap D (rev-from net a o.0), ap D (rev-to net a o.0), rev-len net a o.0, ap D b) in
          (a, record { is-leaving = leaves-i net v a (record { is-arc = o.0; is-usable = o.1; starts = b }); just = i }, omega arith)

  -- and a lowest one
  pub pick-found : (v : ℕ) → D v < far → (v ≡ t → ⊥) → (a : ℕ) × Pick net D v a × (D (arc net.arcs a).to < far)
  pick-found v h n = go (goes_on v h n)
    where
      test : ℕ → Bool
      test a = leaves net v a && eqb ((arc net.arcs a).len + D (arc net.arcs a).to) (D v)

      test-e : (a : ℕ) → T (test a) → Nearer net D v a
      test-e a k =
          let x = leaves net v a in
          let y = eqb ((arc net.arcs a).len + D (arc net.arcs a).to) (D v) in
          record { is-leaving = and_l x y k; just = eqb→eq _ _ (and_r x y k) }

      test-i : (a : ℕ) → Nearer net D v a → T (test a)
      test-i a k =
          and_i (leaves net v a) (eqb ((arc net.arcs a).len + D (arc net.arcs a).to) (D v)) k.is-leaving (eq→eqb _ _ k.just)

      go : (a : ℕ) × Nearer net D v a × (D (arc net.arcs a).to < far) → (a : ℕ) × Pick net D v a × (D (arc net.arcs a).to < far)
      go w =
          let l = lowest-from test w.0 0 (λ j z k. absurd (omega arith)) (subst (λ x. T (test x)) (let e : w.0 ≡ 0 + w.0 = omega arith in e) (test-i w.0 w.1)) in
          let k = test-e l.0 l.1 in
          (l.0, record { nearer = k; lowest = λ b j. l.2 b (test-i b j) }, omega (arith, k.just))

  module _ (positive : (a : ℕ) → 0 < (arc net.arcs a).len) where
    greedy-below : (n v : ℕ) → D v < n → D v < far → (p : List ℕ) × Greedy net t D v p
    unfolding Greedy
    greedy-below zero v l h = absurd (omega arith)
    greedy-below (suc n) v l h = go (λ w k z. greedy-below n w k z) (ℕ_discrete v t)
      where
        go : ((w : ℕ) → D w < n → D w < far → (p : List ℕ) × Greedy net t D w p) → Dec (v ≡ t) → (p : List ℕ) × Greedy net t D v p
        go below (yes e) = ([], e)
        go below (no k) =
            let w = pick-found v h k in
            let r = below (arc net.arcs w.0).to (omega (arith, w.1.nearer.just, positive w.0)) w.2 in
            (w.0 ∷ r.0, (w.1, r.1))

    -- a node that reaches t has its first route there, found so
    pub to-t-first : (v : ℕ) → D v < far → (p : List ℕ) × Greedy net t D v p × FirstRoute net v t p × (length_of net.arcs p ≡ D v)
    to-t-first v h =
        let w = greedy-below (suc (D v)) v (omega arith) h in
        (w.0, w.1, greedy-route net t D f.zero-s to-t-relaxed positive far f.most v w.0 w.1, (greedy-chain net t D v w.0 w.1).2 f.zero-s)
