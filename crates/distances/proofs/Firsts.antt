-- The first routes from s to all nodes, from the distances π, without a comparison of chains: go deeper first, at each node by the arcs on shortest chains from
-- the lowest number up, to nodes not yet seen. `p` is the chain gone down by, `c` the next arc to try at its end. What comes before p and c has been tried.
use mathlib.Core.Path.{◌≡◌, refl, sym, ap, subst, ◌∙◌}
use mathlib.Core.Logic.{◌⊎◌, inl, inr, ⊎_elim}
use mathlib.Core.List.Memᴰ
use mathlib.Core.List.{List, [], ◌∷◌, ◌++◌, append_assoc, append-nil, Memᴰ}
use mathlib.Core.Bool.{Bool, not}
use Prim.Native.Nat.{ℕ, zero, suc, ◌+◌, ◌<◌, ◌≤◌}
use native.Mathlib.Omega.{arith}
use native.Mathlib.Decide.{ℕ_discrete}
use lib.Dec.{T, T_not, not_T}
use lib.ListN.{length}
use Rattle.lists.specs.Tests.{has, distinct, up_from}
use Rattle.lists.proofs.TestLaws.{has→mem, and_i, lex-eq}
use Rattle.lists.proofs.MemberLaws.{up_from-i, length-up_from, parts_at, last_of, distinct-length}
use Rattle.lists.proofs.Cases.{three_ways}
use Rattle.net.specs.Net.{Net, arc}
use Rattle.net.specs.Route.{visited, end_of, leaves, chain, partial, length_of, numbers_first, before}
use Rattle.net.proofs.Order.{AtMost, numbers-irrefl, numbers-trans, numbers-total, numbers-front, numbers-extend, before-less}
use Rattle.net.proofs.Chains.{leaves-e, chain-cons, chain-front, chain_next, chain_more, end_of-more, partial-chain}
use Rattle.net.proofs.Listing.{end_below}
use Rattle.distances.specs.Distance.{FirstRoute}
use Rattle.distances.specs.Search.{Steady, Found}
use Rattle.distances.specs.Deep.{Just, Short, Branch, Deep}
use Rattle.distances.proofs.Walks.{end_of-append, chain-join, cut-rest, cut-end, open-arcs, rising-simple}
use Rattle.distances.proofs.Dijkstra.{along-at-most, along-tight}
use Rattle.distances.proofs.Lex.{lower-first, before_more, before-zero}

module _ (net : Net) (s : ℕ) (π : ℕ → ℕ) (steady : Steady net s π) (positive : (a : ℕ) → 0 < (arc net.arcs a).len) where
  long-from : (v : ℕ) (q : List ℕ) → T (chain net v q) → ((a : ℕ) → Memᴰ a q → Just net π a) → π v + length_of net.arcs q ≡ π (end_of net.arcs v q)
  unfolding end_of length_of
  long-from v [] h f = omega arith
  long-from v (a ∷ q) h f =
      let c = chain-cons net v a q h in
      omega (arith, long-from (arc net.arcs a).to q c.1 (λ b m. f b (Memᴰ.tail m)), f a (Memᴰ.head refl), ap π (leaves-e net v a c.0).starts)

  pub short-length : (q : List ℕ) → Short net s π q → length_of net.arcs q ≡ π (end_of net.arcs s q)
  short-length q h = omega (arith, long-from s q h.is-chain h.is-just, steady.zero-s)

  pub short-partial : (q : List ℕ) → Short net s π q → T (partial net s q)
  unfolding partial
  short-partial q h =
      and_i (chain net s q) (distinct (visited net.arcs s q)) h.is-chain (rising-simple net π s q h.is-chain (λ a m. omega (arith, h.is-just a m, positive a)))

  short-front : (p r : List ℕ) → Short net s π (p ++ r) → Short net s π p
  short-front p r h = record { is-chain = chain-front net s p r h.is-chain; is-just = λ a m. h.is-just a (Memᴰ.append_left r m) }

  short-join : (p r : List ℕ) → Short net s π p → T (chain net (end_of net.arcs s p) r) → ((a : ℕ) → Memᴰ a r → Just net π a) → Short net s π (p ++ r)
  short-join p r h c f = record { is-chain = chain-join net s p r h.is-chain c; is-just = λ a m. go a (Memᴰ.append_cases p m) }
    where
      go : (a : ℕ) → Memᴰ a p ⊎ Memᴰ a r → Just net π a
      go a (inl m) = h.is-just a m
      go a (inr m) = f a m

  nil-short : Short net s π []
  unfolding chain
  nil-short = record { is-chain = tt; is-just = λ a m. absurd (Memᴰ.not-nil m) }

  -- a shortest chain that comes back to s is empty
  to-s : (q : List ℕ) → Short net s π q → end_of net.arcs s q ≡ s → q ≡ []
  unfolding length_of
  to-s [] h e = refl
  to-s (a ∷ q) h e = absurd (omega (arith, short-length (a ∷ q) h, ap π e, steady.zero-s, positive a))

  -- to a node there is one such chain
  branch_one : (parent parent' : ℕ → ℕ) (v : ℕ) (x y : List ℕ) → Branch net s π parent v x → Branch net s π parent' v y → x ≡ y
  branch_one parent parent' v x y b d = go (b.first y d.is-short d.ends) (d.first x b.is-short b.ends)
    where
      go : (x ≡ y) ⊎ T (numbers_first x y) → (y ≡ x) ⊎ T (numbers_first y x) → x ≡ y
      go (inl e) k = e
      go (inr h) (inl e) = sym e
      go (inr h) (inr k) = absurd (numbers-irrefl x (numbers-trans x y x h k))

  -- only s is seen, the first entered
  pub deep-start : (seen : ℕ → Bool) (parent rank : ℕ → ℕ) → T (seen s) → ((v : ℕ) → T (seen v) → v ≡ s) → rank s ≡ 0 → Deep net s π seen parent rank 1 [] 0
  unfolding numbers_first end_of
  deep-start seen parent rank h only zero-s =
      record {
        stack = nil-short;
        stack-follows = λ a m. absurd (Memᴰ.not-nil m);
        tried = λ q k l. start q (before-zero q [] l);
        branch = λ v k. (
          [],
          record {
            is-short = nil-short;
            ends = sym (only v k);
            follows = λ a m. absurd (Memᴰ.not-nil m);
            first = λ q l e. inl (sym (to-s q l (e ∙ only v k)));
          },
          tt,
        );
        ranked = λ v k. omega (arith, ap rank (only v k));
        entered = λ r l. (s, h, omega arith);
        apart = λ v w k l e. only v k ∙ sym (only w l);
        ordered = λ v w k l e. absurd (omega (arith, ap rank (only v k), ap rank (only w l)));
      }
    where
      start : (q : List ℕ) → T (numbers_first q []) ⊎ (q ≡ []) → T (seen (end_of net.arcs s q))
      start q (inl k) = absurd k
      start q (inr e) = subst (λ x. T (seen (end_of net.arcs s x))) (sym e) h

  module _ (seen : ℕ → Bool) (parent rank : ℕ → ℕ) (m : ℕ) (p : List ℕ) (c : ℕ) (st : Deep net s π seen parent rank m p c) where
    -- arc c leads nowhere new
    pub deep-pass : (T (leaves net (end_of net.arcs s p) c) → Just net π c → T (seen (arc net.arcs c).to)) → Deep net s π seen parent rank m p (suc c)
    deep-pass known =
        record {
          stack = st.stack;
          stack-follows = st.stack-follows;
          tried = λ q h l. tried q h (before_more q p c l);
          branch = λ v h. let k = st.branch v h in (k.0, k.1, numbers-trans k.0 (p ++ (c ∷ [])) (p ++ (suc c ∷ [])) k.2 (lower-first p c (suc c) [] (omega arith)));
          ranked = st.ranked;
          entered = st.entered;
          apart = st.apart;
          ordered = st.ordered;
        }
      where
        tried : (q : List ℕ) → Short net s π q → T (numbers_first q (p ++ (c ∷ []))) ⊎ ((r : List ℕ) × (q ≡ p ++ (c ∷ r))) → T (seen (end_of net.arcs s q))
        tried q h (inl k) = st.tried q h k
        tried q h (inr k) =
            let r = k.0 in
            let e = k.1 in
            let ch : T (chain net s (p ++ (c ∷ r))) = subst (λ l. T (chain net s l)) e h.is-chain in
            let j : (a : ℕ) → Memᴰ a (c ∷ r) → Just net π a = λ a m. h.is-just a (subst (Memᴰ a) (sym e) (Memᴰ.append_right p m)) in
            let l = chain_next net s p c r ch in
            let w = st.branch (arc net.arcs c).to (known l (j c (Memᴰ.head refl))) in
            let x = w.0 in
            let t = w.1 in
            let pc : Short net s π (p ++ (c ∷ [])) = record {
              is-chain = chain_more net s p c st.stack.is-chain l;
              is-just = λ a m. h.is-just a (subst (Memᴰ a) (sym (e ∙ sym (append_assoc p (c ∷ []) r))) (Memᴰ.append_left r m));
            } in
            let n : length_of net.arcs x ≡ length_of net.arcs (p ++ (c ∷ [])) = short-length x t.is-short ∙ ap π (t.ends ∙ sym (end_of-more net.arcs s p c)) ∙ sym (short-length (p ++ (c ∷ [])) pc) in
            let xr : Short net s π (x ++ r) = short-join x r t.is-short (subst (λ v. T (chain net v r)) (sym t.ends) (cut-rest net s p c r ch)) (λ a m. j a (Memᴰ.tail m)) in
            let f : T (numbers_first (x ++ r) (p ++ (c ∷ []))) = subst (λ l. T (numbers_first (x ++ r) l)) (append-nil (p ++ (c ∷ []))) (numbers-extend net.arcs positive x (p ++ (c ∷ [])) r [] n w.2) in
            let g : end_of net.arcs s (x ++ r) ≡ end_of net.arcs s q = end_of-append net.arcs s x r ∙ ap (λ v. end_of net.arcs v r) t.ends ∙ sym (cut-end net s p c r ch) ∙ ap (end_of net.arcs s) (sym e) in
            subst (λ v. T (seen v)) g (st.tried (x ++ r) xr f)

    -- at s the chain gone down by is empty; elsewhere its last arc is the parent of its end
    pub deep-at-s : end_of net.arcs s p ≡ s → p ≡ []
    deep-at-s e = to-s p st.stack e

    pub deep_back : (end_of net.arcs s p ≡ s → ⊥)
        → (p' : List ℕ) × (p ≡ p' ++ (parent (end_of net.arcs s p) ∷ [])) × (end_of net.arcs s p' ≡ (arc net.arcs (parent (end_of net.arcs s p))).from)
    unfolding end_of
    deep_back n = go (last_of p)
      where
        go : (p ≡ []) ⊎ ((x : List ℕ) × (a : ℕ) × (p ≡ x ++ (a ∷ [])))
            → (p' : List ℕ) × (p ≡ p' ++ (parent (end_of net.arcs s p) ∷ [])) × (end_of net.arcs s p' ≡ (arc net.arcs (parent (end_of net.arcs s p))).from)
        go (inl e) = absurd (n (ap (end_of net.arcs s) e))
        go (inr k) =
            let x = k.0 in
            let a = k.1 in
            let e : a ≡ parent (end_of net.arcs s p) =
            sym (st.stack-follows a (subst (Memᴰ a) (sym k.2) (Memᴰ.append_right x (Memᴰ.head refl)))) ∙ ap parent (sym (ap (end_of net.arcs s) k.2 ∙ end_of-more net.arcs s x a)) in
            let f : (arc net.arcs a).from ≡ end_of net.arcs s x = (leaves-e net (end_of net.arcs s x) a (chain_next net s x a [] (subst (λ l. T (chain net s l)) k.2 st.stack.is-chain))).starts in
            (x, k.2 ∙ ap (λ b. x ++ (b ∷ [])) e, sym f ∙ ap (λ b. (arc net.arcs b).from) e)

    -- what a shortest chain already tried goes by has been seen
    by-seen : (r : List ℕ) → Short net s π r → (r ≡ p) ⊎ T (numbers_first r (p ++ (c ∷ []))) → (a : ℕ) → Memᴰ a r → T (seen (arc net.arcs a).to)
    by-seen r h b a m = go b (parts_at m)
      where
        at : (x y : List ℕ) → r ≡ (x ++ (a ∷ [])) ++ y → (r ≡ p) ⊎ T (numbers_first r (p ++ (c ∷ []))) → T (numbers_first (x ++ (a ∷ [])) (p ++ (c ∷ [])))
        at x [] e (inl k) = subst (λ l. T (numbers_first l (p ++ (c ∷ [])))) (sym k ∙ e ∙ append-nil (x ++ (a ∷ []))) (numbers-front p c [])
        at x (b ∷ y) e (inl k) = numbers-trans (x ++ (a ∷ [])) p (p ++ (c ∷ [])) (subst (λ l. T (numbers_first (x ++ (a ∷ [])) l)) (sym e ∙ k) (numbers-front (x ++ (a ∷ [])) b y)) (numbers-front p c [])
        at x [] e (inr k) = subst (λ l. T (numbers_first l (p ++ (c ∷ [])))) (e ∙ append-nil (x ++ (a ∷ []))) k
        at x (b ∷ y) e (inr k) = numbers-trans (x ++ (a ∷ [])) r (p ++ (c ∷ [])) (subst (λ l. T (numbers_first (x ++ (a ∷ [])) l)) (sym e) (numbers-front (x ++ (a ∷ [])) b y)) k

        go : (r ≡ p) ⊎ T (numbers_first r (p ++ (c ∷ []))) → (x : List ℕ) × (y : List ℕ) × (r ≡ x ++ (a ∷ y)) → T (seen (arc net.arcs a).to)
        go b k =
            let x = k.0 in
            let y = k.1 in
            let e : r ≡ (x ++ (a ∷ [])) ++ y = k.2 ∙ sym (append_assoc x (a ∷ []) y) in
            subst (λ v. T (seen v)) (end_of-more net.arcs s x a) (st.tried (x ++ (a ∷ [])) (short-front (x ++ (a ∷ [])) y (subst (Short net s π) e h)) (at x y e b))

    -- arc c leads to a node not yet seen: go down by it
    module _ (l : T (leaves net (end_of net.arcs s p) c)) (j : Just net π c) (n : T (not (seen (arc net.arcs c).to)))
        (seen' : ℕ → Bool) (parent' rank' : ℕ → ℕ) (new : T (seen' (arc net.arcs c).to)) (same : (v : ℕ) → (v ≡ (arc net.arcs c).to → ⊥) → seen' v ≡ seen v)
        (p-new : parent' (arc net.arcs c).to ≡ c) (p-same : (v : ℕ) → (v ≡ (arc net.arcs c).to → ⊥) → parent' v ≡ parent v)
        (r-new : rank' (arc net.arcs c).to ≡ m) (r-same : (v : ℕ) → (v ≡ (arc net.arcs c).to → ⊥) → rank' v ≡ rank v) where
      unseen : T (seen (arc net.arcs c).to) → ⊥
      unseen h = T_not (seen (arc net.arcs c).to) n h

      more : (v : ℕ) → T (seen v) → T (seen' v)
      more v h = subst T (sym (same v (λ e. unseen (subst (λ x. T (seen x)) e h)))) h

      down : Short net s π (p ++ (c ∷ []))
      down = record {
        is-chain = chain_more net s p c st.stack.is-chain l;
        is-just = λ a m. go a (Memᴰ.append_cases p m);
      }
        where
          go : (a : ℕ) → Memᴰ a p ⊎ Memᴰ a (c ∷ []) → Just net π a
          go a (inl m) = st.stack.is-just a m
          go a (inr m) = subst (Just net π) (sym (Memᴰ.eq_of_singleton m)) j

      follows' : (r : List ℕ) → Short net s π r → (r ≡ p) ⊎ T (numbers_first r (p ++ (c ∷ []))) → ((a : ℕ) → Memᴰ a r → parent (arc net.arcs a).to ≡ a) → (a : ℕ) → Memᴰ a r → parent' (arc net.arcs a).to ≡ a
      follows' r h b f a m = p-same (arc net.arcs a).to (λ e. unseen (subst (λ x. T (seen x)) e (by-seen r h b a m))) ∙ f a m

      down-follows : (a : ℕ) → Memᴰ a (p ++ (c ∷ [])) → parent' (arc net.arcs a).to ≡ a
      down-follows a m = go (Memᴰ.append_cases p m)
        where
          go : Memᴰ a p ⊎ Memᴰ a (c ∷ []) → parent' (arc net.arcs a).to ≡ a
          go (inl k) = follows' p st.stack (inl refl) st.stack-follows a k
          go (inr k) = subst (λ x. parent' (arc net.arcs x).to ≡ x) (sym (Memᴰ.eq_of_singleton k)) p-new

      -- it is the first to its end: what comes before it would have been seen
      down-first : (q : List ℕ) → Short net s π q → end_of net.arcs s q ≡ (arc net.arcs c).to → (p ++ (c ∷ []) ≡ q) ⊎ T (numbers_first (p ++ (c ∷ [])) q)
      down-first q h e = go (numbers-total (p ++ (c ∷ [])) q)
        where
          go : T (numbers_first (p ++ (c ∷ [])) q) ⊎ T (numbers_first q (p ++ (c ∷ []))) ⊎ (p ++ (c ∷ []) ≡ q) → (p ++ (c ∷ []) ≡ q) ⊎ T (numbers_first (p ++ (c ∷ [])) q)
          go (inl k) = inr k
          go (inr (inl k)) = absurd (unseen (subst (λ x. T (seen x)) e (st.tried q h k)))
          go (inr (inr k)) = inl k

      -- what was seen before, and the branch it has
      old : (v : ℕ) → T (seen' v) → (v ≡ (arc net.arcs c).to → ⊥) → T (seen v)
      old v h k = subst T (same v k) h

      down-branch : Branch net s π parent' (arc net.arcs c).to (p ++ (c ∷ []))
      down-branch = record { is-short = down; ends = end_of-more net.arcs s p c; follows = down-follows; first = down-first }

      old-ranked : (v : ℕ) → T (seen' v) → (v ≡ (arc net.arcs c).to → ⊥) → rank' v < m
      old-ranked v h k = omega (arith, r-same v k, st.ranked v (old v h k))

      -- the branch of what was seen before is as it was
      old-branch : (v : ℕ) (h : T (seen v)) (x : List ℕ) → Branch net s π parent' v x → (st.branch v h).0 ≡ x
      old-branch v h x b = branch_one parent parent' v (st.branch v h).0 x (st.branch v h).1 b

      pub deep-down : Deep net s π seen' parent' rank' (suc m) (p ++ (c ∷ [])) 0
      deep-down =
          record {
            stack = down;
            stack-follows = down-follows;
            tried = λ q h k. tried q h (before-zero q (p ++ (c ∷ [])) k);
            branch = λ v h. branch v h (ℕ_discrete v (arc net.arcs c).to);
            ranked = λ v h. ranked v h (ℕ_discrete v (arc net.arcs c).to);
            entered = λ r h. entered r (ℕ_discrete r m) h;
            apart = λ v w h k e. apart v w h k e (ℕ_discrete v (arc net.arcs c).to) (ℕ_discrete w (arc net.arcs c).to);
            ordered = λ v w h k e x y. ordered v w h k e x y (ℕ_discrete v (arc net.arcs c).to) (ℕ_discrete w (arc net.arcs c).to);
          }
        where
          tried : (q : List ℕ) → Short net s π q → T (numbers_first q (p ++ (c ∷ []))) ⊎ (q ≡ p ++ (c ∷ [])) → T (seen' (end_of net.arcs s q))
          tried q h (inl k) = more (end_of net.arcs s q) (st.tried q h k)
          tried q h (inr e) = subst (λ v. T (seen' v)) (sym (ap (end_of net.arcs s) e ∙ end_of-more net.arcs s p c)) new

          branch : (v : ℕ) → T (seen' v) → Dec (v ≡ (arc net.arcs c).to) → (r : List ℕ) × Branch net s π parent' v r × T (numbers_first r ((p ++ (c ∷ [])) ++ (0 ∷ [])))
          branch v h (yes e) = (p ++ (c ∷ []), subst (λ x. Branch net s π parent' x (p ++ (c ∷ []))) (sym e) down-branch, numbers-front (p ++ (c ∷ [])) 0 [])
          branch v h (no k) =
              let w = st.branch v (old v h k) in (
                w.0,
                record { is-short = w.1.is-short; ends = w.1.ends; follows = follows' w.0 w.1.is-short (inr w.2) w.1.follows; first = w.1.first },
                numbers-trans w.0 (p ++ (c ∷ [])) ((p ++ (c ∷ [])) ++ (0 ∷ [])) w.2 (numbers-front (p ++ (c ∷ [])) 0 []),
              )

          ranked : (v : ℕ) → T (seen' v) → Dec (v ≡ (arc net.arcs c).to) → rank' v < suc m
          ranked v h (yes e) = omega (arith, ap rank' e)
          ranked v h (no k) = omega (arith, old-ranked v h k)

          entered : (r : ℕ) → Dec (r ≡ m) → r < suc m → (v : ℕ) × T (seen' v) × (rank' v ≡ r)
          entered r (yes e) h = ((arc net.arcs c).to, new, r-new ∙ sym e)
          entered r (no k) h =
              let w = st.entered r (omega arith) in
              (w.0, more w.0 w.1, r-same w.0 (λ e. unseen (subst (λ x. T (seen x)) e w.1)) ∙ w.2)

          apart : (v w : ℕ) → T (seen' v) → T (seen' w) → rank' v ≡ rank' w → Dec (v ≡ (arc net.arcs c).to) → Dec (w ≡ (arc net.arcs c).to) → v ≡ w
          apart v w h k e (yes i) (yes j) = i ∙ sym j
          apart v w h k e (yes i) (no j) = absurd (omega (arith, ap rank' i, old-ranked w k j))
          apart v w h k e (no i) (yes j) = absurd (omega (arith, ap rank' j, old-ranked v h i))
          apart v w h k e (no i) (no j) = st.apart v w (old v h i) (old w k j) (omega (arith, r-same v i, r-same w j))

          -- what was seen before comes before p and c
          ordered : (v w : ℕ) → T (seen' v) → T (seen' w) → rank' v < rank' w → (x y : List ℕ) → Dec (v ≡ (arc net.arcs c).to) → Dec (w ≡ (arc net.arcs c).to)
              → Branch net s π parent' v x → Branch net s π parent' w y → T (numbers_first x y)
          ordered v w h k e x y (yes i) (yes j) b d = absurd (omega (arith, ap rank' i, ap rank' j))
          ordered v w h k e x y (yes i) (no j) b d = absurd (omega (arith, ap rank' i, old-ranked w k j))
          ordered v w h k e x y (no i) (yes j) b d =
              let z : p ++ (c ∷ []) ≡ y = branch_one parent' parent' (arc net.arcs c).to (p ++ (c ∷ [])) y down-branch (subst (λ u. Branch net s π parent' u y) j d) in
              subst (λ l. T (numbers_first x l)) z
              (subst (λ l. T (numbers_first l (p ++ (c ∷ [])))) (old-branch v (old v h i) x b) (st.branch v (old v h i)).2)
          ordered v w h k e x y (no i) (no j) b d =
              let f = st.branch v (old v h i) in
              let g = st.branch w (old w k j) in
              subst (λ l. T (numbers_first x l)) (old-branch w (old w k j) y d)
              (subst (λ l. T (numbers_first l g.0)) (old-branch v (old v h i) x b)
              (st.ordered v w (old v h i) (old w k j) (omega (arith, r-same v i, r-same w j)) f.0 g.0 f.1 g.1))

  -- arcs that do not leave the node lead nowhere
  pub deep-skip : (seen : ℕ → Bool) (parent rank : ℕ → ℕ) (m : ℕ) (p : List ℕ) (n c : ℕ) → ((a : ℕ) → c ≤ a → a < c + n → T (leaves net (end_of net.arcs s p) a) → ⊥)
      → Deep net s π seen parent rank m p c → Deep net s π seen parent rank m p (c + n)
  deep-skip seen parent rank m p zero c none st = let e : c ≡ c + 0 = omega arith in subst (Deep net s π seen parent rank m p) e st
  deep-skip seen parent rank m p (suc n) c none st =
      let e : suc c + n ≡ c + suc n = omega arith in
      subst (Deep net s π seen parent rank m p) e
      (deep-skip seen parent rank m p n (suc c) (λ a h k. none a (omega arith) (omega arith)) (deep-pass seen parent rank m p c st (λ l j. absurd (none c (omega arith) (omega arith) l))))

  -- no more nodes are entered than there are
  module _ (seen : ℕ → Bool) (parent rank : ℕ → ℕ) (m : ℕ) (p : List ℕ) (c : ℕ) (st : Deep net s π seen parent rank m p c) where
    nodes-entered : (n : ℕ) → n ≤ m → (l : List ℕ) × T (distinct l) × (length l ≡ n) × ((v : ℕ) → Memᴰ v l → T (seen v) × (rank v < n))
    unfolding distinct
    nodes-entered zero h = ([], tt, refl, λ v k. absurd (Memᴰ.not-nil k))
    nodes-entered (suc n) h =
        let w = st.entered n (omega arith) in
        let r = nodes-entered n (omega arith) in (
          w.0 ∷ r.0,
          and_i (not (has w.0 r.0)) (distinct r.0) (not_T (has w.0 r.0) (λ k. absurd (omega (arith, (r.3 w.0 (has→mem w.0 r.0 k)).1, w.2)))) r.1,
          ap suc r.2,
          λ v k. ⊎_elim (λ e. (subst (λ x. T (seen x)) (sym e) w.1, omega (arith, ap rank e, w.2))) (λ i. let z = r.3 v i in (z.0, omega (arith, z.1))) (Memᴰ.cases_cons k),
        )

    pub deep-few : s < net.nodes → ((a : ℕ) → (arc net.arcs a).to < net.nodes) → m ≤ net.nodes
    deep-few s-below to_below =
        let r = nodes-entered m (omega arith) in
        let l = distinct-length r.0 (up_from 0 net.nodes) r.1 (λ v k.
        let b = st.branch v (r.3 v k).0 in
        up_from-i 0 net.nodes v (omega arith) (omega (arith, b.1.ends, end_below net s s-below to_below b.0))) in
        omega (arith, r.2, length-up_from 0 net.nodes)

  -- no arc is left to try: back up
  module _ (seen : ℕ → Bool) (parent rank : ℕ → ℕ) (m : ℕ) (p : List ℕ) (a c : ℕ) (st : Deep net s π seen parent rank m (p ++ (a ∷ [])) c) (over : length net.arcs ≤ c) where
    pub deep-up : Deep net s π seen parent rank m p (suc a)
    deep-up =
        record {
          stack = short-front p (a ∷ []) st.stack;
          stack-follows = λ b m. st.stack-follows b (Memᴰ.append_left (a ∷ []) m);
          tried = λ q h k. tried q h (before_more q p a k);
          branch = λ v h.
              let w = st.branch v h in (
                w.0,
                w.1,
                numbers-trans w.0 ((p ++ (a ∷ [])) ++ (c ∷ [])) (p ++ (suc a ∷ [])) w.2
                    (subst (λ l. T (numbers_first l (p ++ (suc a ∷ [])))) (sym (append_assoc p (a ∷ []) (c ∷ []))) (lower-first p a (suc a) (c ∷ []) (omega arith))),
              );
          ranked = st.ranked;
          entered = st.entered;
          apart = st.apart;
          ordered = st.ordered;
        }
      where
        within : (q r : List ℕ) → Short net s π q → q ≡ p ++ (a ∷ r) → T (numbers_first q ((p ++ (a ∷ [])) ++ (c ∷ [])))
        within q [] h e = subst (λ l. T (numbers_first l ((p ++ (a ∷ [])) ++ (c ∷ [])))) (sym e) (numbers-front (p ++ (a ∷ [])) c [])
        within q (x ∷ r) h e =
            let o = open-arcs net s q h.is-chain x (subst (Memᴰ x) (sym e) (Memᴰ.append_right p (Memᴰ.tail (Memᴰ.head refl)))) in
            subst (λ l. T (numbers_first l ((p ++ (a ∷ [])) ++ (c ∷ [])))) (sym (e ∙ sym (append_assoc p (a ∷ []) (x ∷ r)))) (lower-first (p ++ (a ∷ [])) x c r (omega (arith, o.0)))

        tried : (q : List ℕ) → Short net s π q → T (numbers_first q (p ++ (a ∷ []))) ⊎ ((r : List ℕ) × (q ≡ p ++ (a ∷ r))) → T (seen (end_of net.arcs s q))
        tried q h (inl k) = st.tried q h (numbers-trans q (p ++ (a ∷ [])) ((p ++ (a ∷ [])) ++ (c ∷ [])) k (numbers-front (p ++ (a ∷ [])) c []))
        tried q h (inr k) = st.tried q h (within q k.0 h k.1)

  -- at s and no arc left: every node that a shortest chain comes to has been seen, and its chain by parents is its first route
  module _ (seen : ℕ → Bool) (parent rank : ℕ → ℕ) (m c : ℕ) (st : Deep net s π seen parent rank m [] c) (over : length net.arcs ≤ c) where
    pub deep-seen : (q : List ℕ) → Short net s π q → T (seen (end_of net.arcs s q))
    unfolding numbers_first
    deep-seen [] h = st.tried [] h tt
    deep-seen (a ∷ q) h = st.tried (a ∷ q) h (lower-first [] a c q (omega (arith, (open-arcs net s (a ∷ q) h.is-chain a (Memᴰ.head refl)).0)))

    pub near-seen : (far : ℕ) (last : ℕ → ℕ) → Found net s far π last → (v : ℕ) → π v < far → T (seen v)
    near-seen far last f v h =
        let r = f.real v h in
        let k = partial-chain net s r.0 r.1 in
        subst (λ x. T (seen x)) r.2
        (deep-seen r.0 (record { is-chain = k; is-just = along-tight net π f.relaxed s r.0 k (omega (arith, f.zero-s, r.3, ap π r.2)) }))

  pub branch-length : (parent : ℕ → ℕ) (v : ℕ) (r : List ℕ) → Branch net s π parent v r → length_of net.arcs r ≡ π v
  branch-length parent v r t = short-length r t.is-short ∙ ap π t.ends

  pub branch-first : (parent : ℕ → ℕ) (v : ℕ) (r : List ℕ) → Branch net s π parent v r → FirstRoute net s v r
  unfolding before
  branch-first parent v r t =
      let h = t.is-short in
      record {
        is-partial = short-partial r h;
        ends = t.ends;
        leads = λ q k e. go q (partial-chain net s q k) e (three_ways (length_of net.arcs r) (length_of net.arcs q));
      }
    where
      same : (q : List ℕ) → length_of net.arcs r ≡ length_of net.arcs q → (r ≡ q) ⊎ T (numbers_first r q) → AtMost (length_of net.arcs) r q
      same q l (inl k) = inl k
      same q l (inr k) = inr (lex-eq (length_of net.arcs r) (length_of net.arcs q) (numbers_first r q) l k)

      go : (q : List ℕ) → T (chain net s q) → end_of net.arcs s q ≡ v → (length_of net.arcs r < length_of net.arcs q) ⊎ (length_of net.arcs r ≡ length_of net.arcs q) ⊎ (length_of net.arcs q < length_of net.arcs r) → AtMost (length_of net.arcs) r q
      go q k e (inl l) = inr (before-less (length_of net.arcs) r q l)
      go q k e (inr (inl l)) =
          same q l (t.first q (record { is-chain = k; is-just = along-tight net π steady.relaxed s q k (omega (arith, short-length r t.is-short, ap π t.ends, ap π e, steady.zero-s)) }) e)
      go q k e (inr (inr l)) =
          absurd (omega (arith, along-at-most net π steady.relaxed s q k, short-length r t.is-short, ap π t.ends, ap π e, steady.zero-s))
