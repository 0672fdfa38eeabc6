-- The second search goes on through the residual net that the room tells: the first search's distances, its last arcs and the marks. None of its steps touches these,
-- so what holds for the net that the room told before a step holds for the net that it tells after it (`moved`). An arc of u's run that is open and not its mark
-- leads forth at its detour, the marked arc that comes to u leads back at no cost, and no other arc leaves u.
use mathlib.Core.Path.{◌≡◌, refl, sym, ap, subst, ◌∙◌}
use mathlib.Core.Logic.{◌⊎◌, inl, inr, ⊎_elim}
use mathlib.Core.Bool.{true, false, ◌&&◌}
use mathlib.Core.List.{List}
use Prim.Native.Nat.{ℕ, ◌+◌, ◌-◌, ◌≤◌, ◌<◌}
use native.Mathlib.Omega.{arith}
use native.Mathlib.Decide.{ℕ_discrete}
use lib.Dec.{T, eqb}
use lib.ListN.{length}
use borrow.Author.Tests.{lt-ltb, le-ltb, eq-eqb, ne_eqb}
use Rattle.lists.proofs.Cases.{order}
use Rattle.net.specs.Net.{Net, arc}
use Rattle.net.specs.Route.{leaves}
use Rattle.net.proofs.Chains.{leaves-e, leaves-i}
use Rattle.distances.specs.Search.{Found, Nothing}
use Rattle.distances.specs.Turned.{turned, residual}
use Rattle.table.specs.Table.{records, from_at, to_at, len_at, arcs_of, is_open_at, net_of}
use Rattle.table.specs.Fault.{table_fault, good}
use Rattle.table.specs.Run.{run_start}
use Rattle.table.proofs.FaultLaws.{all-good, good-size}
use Rattle.table.proofs.NetLaws.{arcs-length, arc-is, from-below}
use Rattle.table.proofs.RunLaws.{run_is, run-has}
use Rattle.working_room.specs.Field.{long_at, word_at}
use Rattle.node_queue.specs.Queue.{key_at, Queue, KeySet}
use Rattle.reach.specs.declared.Stand.{Stand}
use Rattle.reach.specs.Stand.{dist_in, done_in, last_in, Elsewhere}
use Rattle.reach.specs.Steps.{Begun, Looked}
use Rattle.reach.specs.Turn.{Since, Turning}
use Rattle.reach.proofs.StandLaws.{else_same, else-queue}
use Rattle.reach.proofs.LookingLaws.{dist-node, ready-start, ready-found, turning-begin, turning-anew, turning-far, turning-fewer, turning-over, turning-look, over-since, since-less, left}
use Rattle.reach.proofs.ForwardLaws.{open-arc, arc-open}
use Rattle.pair.specs.Walked.{Leads, comes_back, Backward, Waits}
use Rattle.pair.proofs.Whole.{residual-nodes}
use Rattle.pair.proofs.Steps.{residual-forth, residual-back}
use Rattle.pair.proofs.Around.{waits-first, waits-on, waits_back}
use Rattle.pair_room.specs.Room.{far, further, first, again, none, kept_in}
use Rattle.pair_room.specs.Stages.{dist_of, last_of, Marked, Searched}
use Rattle.pair_room.proofs.RoomLaws.{again-stands, mark-node, again-dist, again-last, again_kept, again-marked}
use Rattle.pair_search.specs.Turn.{Passed, Between, At, Left}

-- ---- the residual net has the nodes of the net

module _ (net : Net) (π : ℕ → ℕ) (P : List ℕ) where
  nodes-queue : (l : List ℕ) (root : ℕ) → Queue (residual net π P).nodes l root → Queue net.nodes l root
  nodes-queue l root q = subst (λ n. Queue n l root) (residual-nodes net π P) q

  nodes-since : (π' : ℕ → ℕ) (P' l m : List ℕ) → Since (residual net π' P') again l m → Since (residual net π P) again l m
  unfolding residual turned
  nodes-since π' P' l m e = record { elsewhere = e.elsewhere; stays = e.stays }

-- ---- what a step leaves

looked-else : (n : ℕ) (l : List ℕ) (root w a d : ℕ) (m : List ℕ) (r : ℕ) → Looked again n l root w a d m r → Elsewhere again l m
looked-else n l root w a d m r (inl k) = subst (λ (y : List ℕ). Elsewhere again l y) (sym k.1) (else_same again l)
looked-else n l root w a d m r (inr k) = k.1.elsewhere

-- told by the numbers that code has
pub looked-is : (n : ℕ) (l : List ℕ) (root a : ℕ) (m : List ℕ) (r : ℕ) (x : Stand) → x ≡ again → (w v : ℕ) → w ≡ v → (d c : ℕ) → d ≡ c → Looked x n l root w a d m r → Looked again n l root v a c m r
looked-is n l root a m r x ex w v ew d c ed k =
    subst (λ y. Looked again n l root v a y m r) ed (subst (λ y. Looked again n l root y a d m r) ew (subst (λ (y : Stand). Looked y n l root w a d m r) ex k))

module _ (net : Net) (l m : List ℕ) (e : Elsewhere again l m) (F : (ℕ → ℕ) → (ℕ → ℕ) → (ℕ → ℕ) → Type 0) where
  moved : F (dist_of net l) (kept_in net.nodes l) (last_of l) → F (dist_of net m) (kept_in net.nodes m) (last_of m)
  moved f =
      subst (λ (π : ℕ → ℕ). F π (kept_in net.nodes m) (last_of m)) (sym (again-dist net e))
      (subst (λ (out : ℕ → ℕ). F (dist_of net l) out (last_of m)) (sym (again_kept net e)) (subst (λ (parent : ℕ → ℕ). F (dist_of net l) (kept_in net.nodes l) parent) (sym (again-last net e)) f))

module _ (net : Net) (s t : ℕ) where
  -- ---- between two nodes

  pub between_start : (l m : List ℕ) (root : ℕ) → s < net.nodes → Marked net s t l → Begun again net.nodes s l m root → Between net s t m root
  unfolding again-marked
  between_start l m root h k b =
      let π = dist_of net m in
      record {
        marked = again-marked net b.elsewhere s t k;
        ready = ready-start (residual net π k.P) s again l m root again-stands (omega (arith, residual-nodes net π k.P))
            (subst (λ n. Begun again n s l m root) (sym (residual-nodes net π k.P)) b);
      }

  module _ (l : List ℕ) (root : ℕ) (b : Between net s t l root) where
    pub between-queue : Queue net.nodes l root
    between-queue = nodes-queue net (dist_of net l) b.marked.P l root b.ready.looking.queue

    pub between-found : further ≤ key_at l root → Searched net s t l
    between-found h =
        let N = residual net (dist_of net l) b.marked.P in
        record {
          marked = b.marked;
          again = subst (λ n. Found N s further (dist_in again n l) (last_in again l)) (residual-nodes net (dist_of net l) b.marked.P) (ready-found N s again l root b.ready h);
        }

  -- ---- in a node's turn

  module _ (l m : List ℕ) (root u d : ℕ) (Pending : ℕ → Type 0) (k : At net s t l m root u d Pending) where
    pub at-queue : Queue net.nodes m root
    at-queue = nodes-queue net (dist_of net m) k.marked.P m root k.turning.looking.queue

    pub at-far : d ≤ further
    at-far = turning-far (residual net (dist_of net m) k.marked.P) s again l m root u d Pending k.turning

    pub at_anew : At net s t m m root u d Pending
    at_anew = record { marked = k.marked; turning = turning-anew (residual net (dist_of net m) k.marked.P) s again l m root u d Pending k.turning }

    pub at-fewer : (Pending' : ℕ → Type 0) → ((e : ℕ) → (Pending' e → ⊥) → Pending e → ⊥) → At net s t l m root u d Pending'
    at-fewer Pending' fewer =
        record { marked = k.marked; turning = turning-fewer (residual net (dist_of net m) k.marked.P) s again l m root u d Pending k.turning Pending' (λ e o. fewer e) }

    pub at-over : ((e : ℕ) → Pending e → ⊥) → Left net s t l m root u
    at-over nothing =
        record { marked = k.marked; over = turning-over (residual net (dist_of net m) k.marked.P) s again l m root u d Pending k.turning (λ e o. nothing e) }

    -- the end of a turn, seen from its beginning
    pub at-since : (m' : List ℕ) (r : ℕ) → Left net s t m m' r u → Left net s t l m' r u
    at-since m' r o =
        let N = residual net (dist_of net m') o.marked.P in
        record {
          marked = o.marked;
          over = over-since N s again l m m' r u (nodes-since net (dist_of net m') o.marked.P (dist_of net m) k.marked.P l m k.turning.since) o.over;
        }

    -- one arc looked at, number b, which leads from u to w at length c; the others that were pending are still
    module _ (Pending' : (ℕ → ℕ) → (ℕ → ℕ) → ℕ → Type 0) (b w c : ℕ) (rest : (e : ℕ) → (e ≡ b → ⊥) → (Pending' (kept_in net.nodes m) (last_of m) e → ⊥) → Pending e → ⊥)
        (leads : Leads (residual net (dist_of net m) k.marked.P) u b w c) (h : w < net.nodes) where
      pub at-look : (x : ℕ) → x ≡ d + c → (m' : List ℕ) (r : ℕ) → Looked again net.nodes m root w b x m' r → At net s t l m' r u d (Pending' (kept_in net.nodes m') (last_of m'))
      unfolding again-marked
      at-look x ex m' r y =
          let P = k.marked.P in
          let N = residual net (dist_of net m) P in
          let same = residual-nodes net (dist_of net m) P in
          let e = looked-else net.nodes m root w b x m' r y in
          record {
            marked = again-marked net e s t k.marked;
            turning = moved net m m' e (λ π out parent. Turning (residual net π P) s again l m' r u d (Pending' out parent))
                (turning-look N s again l m root u d Pending k.turning b (Pending' (kept_in net.nodes m) (last_of m)) rest leads.is_open leads.from_is w leads.to_is (omega (arith, same))
                x (omega (arith, leads.is-long)) m' r (subst (λ n. Looked again n m root w b x m' r) (sym same) y));
          }

  -- its beginning: what leaves u in the residual net waits
  pub at-begin : length net.arcs ≤ none → (l : List ℕ) (u : ℕ) → Between net s t l u → key_at l u < further → (m : List ℕ) (root : ℕ) → KeySet net.nodes l u further m root
      → (d : ℕ) → d ≡ long_at 24 l u → At net s t l m root u d (Waits net (kept_in net.nodes m) (last_of m) u 0)
  unfolding again-marked
  at-begin past l u b near m root k d is =
      let P = b.marked.P in
      let N = residual net (dist_of net l) P in
      let e = else-queue again k.within in
      record {
        marked = again-marked net e s t b.marked;
        turning = moved net l m e (λ π out parent. Turning (residual net π P) s again l m root u d (Waits net out parent u 0))
            (turning-fewer N s again l m root u d (λ x. (arc N.arcs x).from ≡ u)
            (turning-begin N s again l u b.ready near m root (subst (λ n. KeySet n l u further m root) (sym (residual-nodes net (dist_of net l) P)) k) d is)
            (Waits net (kept_in net.nodes l) (last_of l) u 0)
            (λ x o n starts. n (waits-first net s t (dist_of net l) (last_of l) P b.marked.short none past (kept_in net.nodes l) b.marked.marks u x o starts)));
      }

  pub left-between : (l m : List ℕ) (root u : ℕ) → Left net s t l m root u → Between net s t m root
  left-between l m root u o = record { marked = o.marked; ready = o.over.ready }

  -- one node more is done
  pub left_less : (l m : List ℕ) (u root : ℕ) → Between net s t l u → key_at l u < further → Left net s t l m root u
      → left (done_in again net.nodes m) net.nodes < left (done_in again net.nodes l) net.nodes
  unfolding residual turned
  left_less l m u root b near o =
      since-less (residual net (dist_of net l) b.marked.P) s again l m u b.ready near
      (nodes-since net (dist_of net l) b.marked.P (dist_of net m) o.marked.P l m o.over.since) o.over.is-done

-- ---- whether the residual net leads back from u over arc b

module _ (t : List ℕ) (out : ℕ → ℕ) (u b : ℕ) where
  pub comes-past : records t ≤ b → false ≡ comes_back (arcs_of t) out u b
  unfolding comes_back
  comes-past h = rw (le-ltb b (length (arcs_of t)) (omega (arith, arcs-length t)))

  -- then b is an arc
  pub comes-arc : comes_back (arcs_of t) out u b ≡ true → b < records t
  comes-arc h = ⊎_elim (λ w. absurd (subst T (sym h ∙ sym (comes-past w)) tt)) (λ w. w) (order (records t) b)

  module _ (h : b < records t) where
    comes-is : comes_back (arcs_of t) out u b ≡ (eqb (to_at t b) u && eqb (out (from_at t b)) b)
    unfolding comes_back
    comes-is = rw (lt-ltb b (length (arcs_of t)) (omega (arith, arcs-length t)), arc-is t b h)

    pub comes-other : (to_at t b ≡ u → ⊥) → false ≡ comes_back (arcs_of t) out u b
    comes-other ne = rw (comes-is, ne_eqb (to_at t b) u ne)

    pub comes-mark : to_at t b ≡ u → (q : ℕ) → q ≡ out (from_at t b) → eqb q b ≡ comes_back (arcs_of t) out u b
    comes-mark e q eq = rw (comes-is, eq-eqb (to_at t b) u e, eq)

-- ---- the arcs of a table

pub arcs-few : (nodes : ℕ) (t : List ℕ) → table_fault nodes t ≡ good → length (arcs_of t) ≤ none
arcs-few nodes t ok = omega (arith, arcs-length t, (good-size nodes t ok).3)

module _ (nodes : ℕ) (t closed : List ℕ) (ok : table_fault nodes t ≡ good) where
  -- an open arc that leaves u is one of its run
  in-run : (u x : ℕ) → T (leaves (net_of nodes t closed) u x) → (x < records t) × (run_start t u ≤ x) × (x < run_start t (u + 1)) × (is_open_at closed x ≡ true)
  in-run u x h =
      let l = leaves-e (net_of nodes t closed) u x h in
      let o = arc-open nodes t closed x (l.is-arc, l.is-usable) in
      let w = run-has nodes t ok u x o.0 (sym (ap (λ y. y.from) (arc-is t x o.0)) ∙ l.starts) in
      (o.0, w.0, w.1, o.1)

  module _ (s goal : ℕ) (m : List ℕ) (k : Marked (net_of nodes t closed) s goal m) (u : ℕ) (u-in : u < nodes) where
    pub near-far : long_at 12 m u ≤ far
    near-far = omega (arith, dist-node first nodes m u u-in, k.reached.most u)

    -- no open arc is shorter than what it brings nearer
    pub detour-fits : (a : ℕ) → a < records t → from_at t a ≡ u → is_open_at closed a ≡ true → long_at 12 m (to_at t a) ≤ len_at t a + long_at 12 m u
    detour-fits a h starts o =
        let π = dist_of (net_of nodes t closed) m in
        let e = arc-is t a h in
        let r : π (to_at t a) ≤ π (from_at t a) + len_at t a = subst (λ x. π x.to ≤ π x.from + x.len) e (k.reached.relaxed a (open-arc nodes t closed a h o)) in
        omega (arith, r, ap π starts, dist-node first nodes m u u-in, dist-node first nodes m (to_at t a) (all-good nodes t ok a h).end)

    -- it leads to its end at its detour, if it is not u's mark
    forth : (a : ℕ) → a < records t → from_at t a ≡ u → is_open_at closed a ≡ true → (word_at 36 m u ≡ a → ⊥)
        → Leads (residual (net_of nodes t closed) (dist_of (net_of nodes t closed) m) k.P) u a (to_at t a) (len_at t a + long_at 12 m u - long_at 12 m (to_at t a))
    forth a h starts o other =
        let net = net_of nodes t closed in
        let π = dist_of net m in
        let e = arc-is t a h in
        let w = open-arc nodes t closed a h o in
        let l = residual-forth net s goal π (last_of m) k.P k.short none (arcs-few nodes t ok) (kept_in nodes m) k.marks u a
        (leaves-i net u a (record { is-arc = w.0; is-usable = w.1; starts = ap (λ y. y.from) e ∙ starts })) (λ y. other (sym (mark-node 36 nodes m u u-in) ∙ y)) in
        record {
          is_open = l.is_open;
          from_is = l.from_is;
          to_is = l.to_is ∙ ap (λ y. y.to) e;
          is-long = omega (arith, l.is-long, ap (λ y. y.len) e, ap (λ y. π y.to) e, dist-node first nodes m u u-in, dist-node first nodes m (to_at t a) (all-good nodes t ok a h).end);
        }

  module _ (s goal : ℕ) (l m : List ℕ) (root u d : ℕ) where
    -- its own arcs start with its run
    pub own_first : (a : ℕ) → a ≡ run_start t u → At (net_of nodes t closed) s goal l m root u d (Waits (net_of nodes t closed) (kept_in nodes m) (last_of m) u 0)
        → At (net_of nodes t closed) s goal l m root u d (Waits (net_of nodes t closed) (kept_in nodes m) (last_of m) u a)
    own_first a is k =
        let net = net_of nodes t closed in
        at-fewer net s goal l m root u d (Waits net (kept_in nodes m) (last_of m) u 0) k (Waits net (kept_in nodes m) (last_of m) u a)
        (λ x. waits-on net (kept_in nodes m) (last_of m) u 0 x a (λ h n g. omega (arith, (in-run u x h).1)))

    module _ (a : ℕ) (k : At (net_of nodes t closed) s goal l m root u d (Waits (net_of nodes t closed) (kept_in nodes m) (last_of m) u a)) where
      module _ (low : run_start t u ≤ a) where
        -- they are over where the table is, and at a record of another node
        pub own-end : records t ≤ a → At (net_of nodes t closed) s goal l m root u d (Backward (arcs_of t) (kept_in nodes m) (last_of m) u)
        own-end h =
            let net = net_of nodes t closed in
            at-fewer net s goal l m root u d (Waits net (kept_in nodes m) (last_of m) u a) k (Backward (arcs_of t) (kept_in nodes m) (last_of m) u)
            (λ x. waits_back net (kept_in nodes m) (last_of m) u a x (λ w g. absurd (omega (arith, (in-run u x w).0))))

        pub own-over : (from_at t a ≡ u → ⊥) → At (net_of nodes t closed) s goal l m root u d (Backward (arcs_of t) (kept_in nodes m) (last_of m) u)
        own-over h =
            let net = net_of nodes t closed in
            at-fewer net s goal l m root u d (Waits net (kept_in nodes m) (last_of m) u a) k (Backward (arcs_of t) (kept_in nodes m) (last_of m) u)
            (λ x. waits_back net (kept_in nodes m) (last_of m) u a x
            (λ w g. ⊎_elim (λ z. absurd (omega (arith, (in-run u x w).2))) (λ z. h (run_is nodes t ok u a low z)) (order (run_start t (u + 1)) a)))

      module _ (u-in : u < nodes) (high : a < records t) (starts : from_at t a ≡ u) where
        -- one that is closed, or is u's mark, does not wait
        skips : (is_open_at closed a ≡ false) ⊎ (word_at 36 m u ≡ a) → (x : ℕ) → T (leaves (net_of nodes t closed) u x) → (kept_in nodes m u ≡ x → ⊥) → a ≤ x → a + 1 ≤ x
        skips y x h n g = go (ℕ_discrete a x)
          where
            at : (is_open_at closed a ≡ false) ⊎ (word_at 36 m u ≡ a) → a ≡ x → ⊥
            at (inl z) e = subst T (sym (in-run u x h).3 ∙ sym (ap (is_open_at closed) e) ∙ z) tt
            at (inr z) e = n (mark-node 36 nodes m u u-in ∙ z ∙ e)

            go : Dec (a ≡ x) → a + 1 ≤ x
            go (yes e) = absurd (at y e)
            go (no ne) = omega arith

        pub own-pass : (m' : List ℕ) (r : ℕ) → Passed t closed nodes m root u d a m' r
            → At (net_of nodes t closed) s goal l m' r u d (Waits (net_of nodes t closed) (kept_in nodes m') (last_of m') u (a + 1))
        own-pass m' r (inl y) =
            let net = net_of nodes t closed in
            subst (λ (q : List ℕ). At net s goal l q r u d (Waits net (kept_in nodes q) (last_of q) u (a + 1))) (sym y.1)
            (subst (λ q. At net s goal l m q u d (Waits net (kept_in nodes m) (last_of m) u (a + 1))) (sym y.2)
            (at-fewer net s goal l m root u d (Waits net (kept_in nodes m) (last_of m) u a) k (Waits net (kept_in nodes m) (last_of m) u (a + 1))
            (λ x. waits-on net (kept_in nodes m) (last_of m) u a x (a + 1) (skips y.0 x))))
        own-pass m' r (inr y) =
            let net = net_of nodes t closed in
            at-look net s goal l m root u d (Waits net (kept_in nodes m) (last_of m) u a) k (λ out parent. Waits net out parent u (a + 1)) a (to_at t a) (len_at t a + long_at 12 m u - long_at 12 m (to_at t a))
            (λ x ne. waits-on net (kept_in nodes m) (last_of m) u a x (a + 1) (λ h n g. omega arith))
            (forth s goal m k.marked u u-in a high starts y.0 y.1) (all-good nodes t ok a high).end (d + (len_at t a + long_at 12 m u - long_at 12 m (to_at t a))) refl m' r y.2

    -- ---- back

    module _ (k : At (net_of nodes t closed) s goal l m root u d (Backward (arcs_of t) (kept_in nodes m) (last_of m) u)) where
      pub back_none : comes_back (arcs_of t) (kept_in nodes m) u (last_of m u) ≡ false → Left (net_of nodes t closed) s goal l m root u
      back_none h =
          at-over (net_of nodes t closed) s goal l m root u d (Backward (arcs_of t) (kept_in nodes m) (last_of m) u) k
          (λ x w. subst T (ap (comes_back (arcs_of t) (kept_in nodes m) u) (sym w.0) ∙ h) w.1)

      module _ (h : comes_back (arcs_of t) (kept_in nodes m) u (last_of m u) ≡ true) (b : ℕ) (is : b ≡ last_of m u) where
        pub back-look : (w : ℕ) → w ≡ from_at t b → (m' : List ℕ) (r : ℕ) → Looked again nodes m root w b d m' r → Left (net_of nodes t closed) s goal l m' r u
        back-look w ew m' r y =
            let net = net_of nodes t closed in
            let leads = residual-back net s goal (dist_of net m) (last_of m) k.marked.P k.marked.short none (arcs-few nodes t ok) (kept_in nodes m) k.marked.marks u b
            (subst T (sym h ∙ ap (comes_back (arcs_of t) (kept_in nodes m) u) (sym is)) tt) in
            let starts = ap (λ y. y.from) (arc-is t b (comes-arc t (kept_in nodes m) u b (ap (comes_back (arcs_of t) (kept_in nodes m) u) is ∙ h))) in
            at-over net s goal l m' r u d Nothing
            (at-look net s goal l m root u d (Backward (arcs_of t) (kept_in nodes m) (last_of m) u) k (λ out parent. Nothing) b w 0 (λ x ne n z. ne (sym z.0 ∙ sym is))
            (record { is_open = leads.is_open; from_is = leads.from_is; to_is = leads.to_is ∙ starts ∙ sym ew; is-long = leads.is-long })
            (omega (arith, ew, starts, from-below nodes t ok b)) d (omega arith) m' r y)
            (λ x z. z)
