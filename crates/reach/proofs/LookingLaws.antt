-- A search over the working room, from its start to its end. A node's key is its distance, or `far` once it is done; so the first of the queue is the nearest node
-- that is not done, and when its key is `far` every node near is done. One arc looked at lowers its end's distance and key alike, so no node's being done changes.
use mathlib.Core.Path.{◌≡◌, refl, sym, ap, ap₂, subst, fun_ext, ◌∙◌}
use mathlib.Core.Logic.{◌≢◌, ◌⊎◌, inl, inr, ⊎_elim}
use mathlib.Core.Bool.{Bool, true, false, not, cond}
use mathlib.Core.List.{List}
use Prim.Native.Nat.{ℕ, zero, suc, ◌+◌, ◌≤◌, ◌<◌}
use native.Mathlib.Omega.{arith}
use native.Mathlib.Decide.{ℕ_discrete}
use lib.Dec.{T, T_not, not_T, ltb, ltb→lt, lt→ltb}
use borrow.Author.Tests.{lt-ltb, le-ltb}
use Rattle.lists.proofs.Cases.{order}
use Rattle.net.specs.Net.{Net, arc}
use Rattle.distances.specs.Search.{Open, Nothing, Found, Search}
use Rattle.distances.proofs.Dijkstra.{search-start, search-same, search-settle, search-keep, search-lower, search-fewer, search-looked, search-found}
use Rattle.working_room.specs.Field.{long_at}
use Rattle.node_queue.specs.Queue.{key_at, KeySet}
use Rattle.reach.specs.declared.Stand.{Stand}
use Rattle.reach.specs.Stand.{Stands, dist_in, key_in, done_in, last_in}
use Rattle.reach.specs.Steps.{Begun, Lowered, Looked}
use Rattle.reach.specs.Turn.{Waiting, Ready, Since, Turning, Turn, Over}
use Rattle.reach.proofs.StandLaws.{else_same, else-trans, else-queue, queue-dist, queue-last}

-- ---- a node's distance and key, and those of a number past the nodes

module _ (x : Stand) (n : ℕ) (l : List ℕ) (v : ℕ) where
  pub dist-node : v < n → dist_in x n l v ≡ long_at x.dist l v
  dist-node h = rw (lt-ltb v n h)

  dist-past : n ≤ v → dist_in x n l v ≡ x.far
  dist-past h = rw (le-ltb v n h)

  key-node : v < n → key_in x n l v ≡ key_at l v
  key-node h = rw (lt-ltb v n h)

  key-past : n ≤ v → key_in x n l v ≡ x.far
  key-past h = rw (le-ltb v n h)

-- ---- the start

module _ (net : Net) (s : ℕ) (x : Stand) (l m : List ℕ) (root : ℕ) (z : Stands x) (h : s < net.nodes) (b : Begun x net.nodes s l m root) where
  begin-zero : dist_in x net.nodes m s ≡ 0
  begin-zero = dist-node x net.nodes m s h ∙ b.dist-new

  begin-far : (v : ℕ) → v ≢ s → dist_in x net.nodes m v ≡ x.far
  begin-far v ne = ⊎_elim (λ w. dist-past x net.nodes m v w) (λ w. dist-node x net.nodes m v w ∙ b.dists v w ne) (order net.nodes v)

  begin-key : (v : ℕ) → key_in x net.nodes m v ≡ dist_in x net.nodes m v
  begin-key v = go (ℕ_discrete v s)
    where
      go : Dec (v ≡ s) → key_in x net.nodes m v ≡ dist_in x net.nodes m v
      go (yes e) = subst (λ y. key_in x net.nodes m y ≡ dist_in x net.nodes m y) (sym e) (key-node x net.nodes m s h ∙ b.key-new ∙ sym begin-zero)
      go (no ne) =
          ⊎_elim (λ w. key-past x net.nodes m v w ∙ sym (dist-past x net.nodes m v w)) (λ w. key-node x net.nodes m v w ∙ b.keys v w ne ∙ sym (begin-far v ne))
          (order net.nodes v)

  pub ready-start : Ready net s x m root
  ready-start =
      record {
        level = 0;
        looking = record {
          stands = z;
          queue = b.queue;
          search = search-same net s x.far (λ v. false) (done_in x net.nodes m) (dist_in x net.nodes m) (last_in x m) 0 Nothing
              (λ v. le-ltb (dist_in x net.nodes m v) (key_in x net.nodes m v) (omega (arith, begin-key v)))
              (search-start net s x.far (dist_in x net.nodes m) (last_in x m) begin-zero begin-far);
          keys = λ v w. inl (sym (key-node x net.nodes m v w) ∙ begin-key v);
        };
      }

-- ---- between two nodes

module _ (net : Net) (s : ℕ) (x : Stand) (l : List ℕ) (root : ℕ) (r : Ready net s x l root) where
  -- the key of a node that is not done is its distance
  open-key : (v : ℕ) → v < net.nodes → T (not (done_in x net.nodes l v)) → key_at l v ≡ dist_in x net.nodes l v
  open-key v h nd = go (r.looking.keys v h)
    where
      go : (key_at l v ≡ dist_in x net.nodes l v) ⊎ ((key_at l v ≡ x.far) × (dist_in x net.nodes l v < x.far)) → key_at l v ≡ dist_in x net.nodes l v
      go (inl e) = e
      go (inr w) =
          absurd (T_not (done_in x net.nodes l v) nd
          (lt→ltb (dist_in x net.nodes l v) (key_in x net.nodes l v) (omega (arith, w.0, w.1, key-node x net.nodes l v h))))

  -- no node that is not done is nearer than the first of the queue
  root-least : (v : ℕ) → T (not (done_in x net.nodes l v)) → (x.far ≤ dist_in x net.nodes l v) ⊎ (key_at l root ≤ dist_in x net.nodes l v)
  root-least v nd =
      ⊎_elim (λ w. inl (omega (arith, dist-past x net.nodes l v w))) (λ w. inr (omega (arith, r.looking.queue.root.least v (omega arith) w w, open-key v w nd)))
      (order net.nodes v)

  -- the end: no node is near
  pub ready-found : x.far ≤ key_at l root → Found net s x.far (dist_in x net.nodes l) (last_in x l)
  ready-found h =
      search-found net s x.far (done_in x net.nodes l) (dist_in x net.nodes l) (last_in x l) r.level r.looking.search
      (λ v nd. ⊎_elim (λ w. w) (λ w. omega arith) (root-least v nd))

  module _ (near : key_at l root < x.far) where
    root-key : key_at l root ≡ dist_in x net.nodes l root
    root-key = go (r.looking.keys root r.looking.queue.root.used)
      where
        go : (key_at l root ≡ dist_in x net.nodes l root) ⊎ ((key_at l root ≡ x.far) × (dist_in x net.nodes l root < x.far)) → key_at l root ≡ dist_in x net.nodes l root
        go (inl e) = e
        go (inr w) = absurd (omega (arith, w.0))

    root-open : T (not (done_in x net.nodes l root))
    root-open =
        not_T (done_in x net.nodes l root)
        (λ t. absurd (omega (arith, ltb→lt (dist_in x net.nodes l root) (key_in x net.nodes l root) t, root-key, key-node x net.nodes l root r.looking.queue.root.used)))

    -- the first of the queue is done now: its turn begins
    module _ (m : List ℕ) (first : ℕ) (k : KeySet net.nodes l root x.far m first) where
      dist_same : (v : ℕ) → dist_in x net.nodes m v ≡ dist_in x net.nodes l v
      dist_same v = ap (λ y. cond (ltb v net.nodes) y x.far) (queue-dist x r.looking.stands k.within v)

      key-other : (v : ℕ) → v ≢ root → key_in x net.nodes m v ≡ key_in x net.nodes l v
      key-other v ne =
          ⊎_elim (λ w. key-past x net.nodes m v w ∙ sym (key-past x net.nodes l v w))
          (λ w. key-node x net.nodes m v w ∙ k.others v w ne ∙ sym (key-node x net.nodes l v w)) (order net.nodes v)

      near-now : dist_in x net.nodes m root < x.far
      near-now = omega (arith, dist_same root, root-key)

      done-now : T (done_in x net.nodes m root)
      done-now =
          lt→ltb (dist_in x net.nodes m root) (key_in x net.nodes m root)
          (omega (arith, near-now, key-node x net.nodes m root r.looking.queue.root.used, k.own))

      done-other : (v : ℕ) → v ≢ root → done_in x net.nodes m v ≡ done_in x net.nodes l v
      done-other v ne = ap₂ ltb (dist_same v) (key-other v ne)

      settled : Search net s x.far (done_in x net.nodes m) (dist_in x net.nodes l) (last_in x l) (dist_in x net.nodes l root) (λ a. (arc net.arcs a).from ≡ root)
      settled =
          search-settle net s x.far (done_in x net.nodes l) (dist_in x net.nodes l) (last_in x l) r.level r.looking.search root root-open
          (λ v nd. ⊎_elim (λ w. omega (arith, root-key)) (λ w. omega (arith, root-key)) (root-least v nd)) (done_in x net.nodes m) done-now done-other

      moved : Search net s x.far (done_in x net.nodes m) (dist_in x net.nodes m) (last_in x m) (dist_in x net.nodes l root) (λ a. (arc net.arcs a).from ≡ root)
      moved =
          subst (λ (d : ℕ → ℕ). Search net s x.far (done_in x net.nodes m) d (last_in x m) (dist_in x net.nodes l root) (λ a. (arc net.arcs a).from ≡ root)) (sym (fun_ext dist_same))
          (subst (λ (p : ℕ → ℕ). Search net s x.far (done_in x net.nodes m) (dist_in x net.nodes l) p (dist_in x net.nodes l root) (λ a. (arc net.arcs a).from ≡ root))
          (sym (fun_ext (queue-last x r.looking.stands k.within))) settled)

      pub turning-begin : (d : ℕ) → d ≡ long_at x.dist l root → Turning net s x l m first root d (λ a. (arc net.arcs a).from ≡ root)
      turning-begin d e =
          record {
            looking = record {
              stands = r.looking.stands;
              queue = k.queue;
              search = subst (λ y. Search net s x.far (done_in x net.nodes m) (dist_in x net.nodes m) (last_in x m) y (λ a. (arc net.arcs a).from ≡ root)) level-is moved;
              keys = λ v w. keys v w (ℕ_discrete v root);
            };
            since = record { elsewhere = else-queue x k.within; stays = λ v t. stays v t (ℕ_discrete v root) };
            is-done = done-now;
            is-level = dist_same root ∙ level-is;
          }
        where
          level-is : dist_in x net.nodes l root ≡ d
          level-is = dist-node x net.nodes l root r.looking.queue.root.used ∙ sym e

          stays : (v : ℕ) → T (done_in x net.nodes l v) → Dec (v ≡ root) → T (done_in x net.nodes m v)
          stays v t (yes y) = subst (λ y. T (done_in x net.nodes m y)) (sym y) done-now
          stays v t (no ne) = subst T (sym (done-other v ne)) t

          keys : (v : ℕ) → v < net.nodes → Dec (v ≡ root) → (key_at m v ≡ dist_in x net.nodes m v) ⊎ ((key_at m v ≡ x.far) × (dist_in x net.nodes m v < x.far))
          keys v w (yes y) = subst (λ y. (key_at m y ≡ dist_in x net.nodes m y) ⊎ ((key_at m y ≡ x.far) × (dist_in x net.nodes m y < x.far))) (sym y) (inr (k.own, near-now))
          keys v w (no ne) =
              ⊎_elim (λ c. inl (k.others v w ne ∙ c ∙ sym (dist_same v))) (λ c. inr (k.others v w ne ∙ c.0, omega (arith, c.1, dist_same v))) (r.looking.keys v w)

-- ---- a node's turn

module _ (net : Net) (s : ℕ) (x : Stand) (l m : List ℕ) (root u d : ℕ) (Pending : ℕ → Type 0) (t : Turning net s x l m root u d Pending) where
  -- seen from here on
  pub turning-anew : Turning net s x m m root u d Pending
  turning-anew =
      record { looking = t.looking; since = record { elsewhere = else_same x m; stays = λ v y. y }; is-done = t.is-done; is-level = t.is-level }

  -- there is room for one arc more
  pub turning-far : d ≤ 4611686018427387904
  turning-far = omega (arith, t.looking.search.most u, t.is-level, t.looking.stands.far-most)

  -- others are pending, if none that may be used is pending and not among them
  pub turning-fewer : (Pending' : ℕ → Type 0) → ((e : ℕ) → Open net e → (Pending' e → ⊥) → Pending e → ⊥) → Turning net s x l m root u d Pending'
  turning-fewer Pending' none =
      record {
        looking = record {
          stands = t.looking.stands;
          queue = t.looking.queue;
          search = search-fewer net s x.far (done_in x net.nodes m) (dist_in x net.nodes m) (last_in x m) d Pending Pending' t.looking.search none;
          keys = t.looking.keys;
        };
        since = t.since;
        is-done = t.is-done;
        is-level = t.is-level;
      }

  -- its end, if none that may be used is pending
  pub turning-over : ((e : ℕ) → Open net e → Pending e → ⊥) → Over net s x l m root u
  turning-over none =
      record {
        ready = record {
          level = d;
          looking = record {
            stands = t.looking.stands;
            queue = t.looking.queue;
            search = search-looked net s x.far (done_in x net.nodes m) (dist_in x net.nodes m) (last_in x m) d Pending t.looking.search none;
            keys = t.looking.keys;
          };
        };
        since = t.since;
        is-done = t.is-done;
      }

  -- one arc looked at, number b; the others that were pending are still
  module _ (b : ℕ) (Pending' : ℕ → Type 0) (rest : (e : ℕ) → (e ≡ b → ⊥) → (Pending' e → ⊥) → Pending e → ⊥) (o : Open net b) (starts : (arc net.arcs b).from ≡ u) where
    from-done : T (done_in x net.nodes m (arc net.arcs b).from)
    from-done = subst (λ y. T (done_in x net.nodes m y)) (sym starts) t.is-done

    from-level : dist_in x net.nodes m (arc net.arcs b).from ≡ d
    from-level = ap (dist_in x net.nodes m) starts ∙ t.is-level

    turn-keep : dist_in x net.nodes m (arc net.arcs b).to ≤ d + (arc net.arcs b).len → Turning net s x l m root u d Pending'
    turn-keep h =
        record {
          looking = record {
            stands = t.looking.stands;
            queue = t.looking.queue;
            search = search-keep net s x.far (done_in x net.nodes m) (dist_in x net.nodes m) (last_in x m) d Pending Pending' t.looking.search b o from-done from-level rest
                (omega (arith, from-level));
            keys = t.looking.keys;
          };
          since = t.since;
          is-done = t.is-done;
          is-level = t.is-level;
        }

    module _ (w : ℕ) (ends : (arc net.arcs b).to ≡ w) (h : w < net.nodes) (m' : List ℕ) (r : ℕ) (far : d + (arc net.arcs b).len < long_at x.dist m w)
        (k : Lowered x net.nodes m w b (d + (arc net.arcs b).len) m' r) where
      new-dist : dist_in x net.nodes m' w ≡ d + (arc net.arcs b).len
      new-dist = dist-node x net.nodes m' w h ∙ k.dist-new

      old-dist : (v : ℕ) → v ≢ w → dist_in x net.nodes m' v ≡ dist_in x net.nodes m v
      old-dist v ne = ap (λ y. cond (ltb v net.nodes) y x.far) (k.dists v ne)

      old-key : (v : ℕ) → v ≢ w → key_in x net.nodes m' v ≡ key_in x net.nodes m v
      old-key v ne =
          ⊎_elim (λ y. key-past x net.nodes m' v y ∙ sym (key-past x net.nodes m v y))
          (λ y. key-node x net.nodes m' v y ∙ k.keys v y ne ∙ sym (key-node x net.nodes m v y)) (order net.nodes v)

      -- w was further than the level, so it is not done
      w-open : T (done_in x net.nodes m w) → ⊥
      w-open y = absurd (omega (arith, t.looking.search.below w y, dist-node x net.nodes m w h))

      done-same : (v : ℕ) → done_in x net.nodes m' v ≡ done_in x net.nodes m v
      done-same v = go (ℕ_discrete v w)
        where
          old : (q : Bool) → done_in x net.nodes m w ≡ q → false ≡ q
          old true e = absurd (w-open (subst T (sym e) tt))
          old false e = refl

          go : Dec (v ≡ w) → done_in x net.nodes m' v ≡ done_in x net.nodes m v
          go (yes e) =
              subst (λ y. done_in x net.nodes m' y ≡ done_in x net.nodes m y) (sym e)
              (le-ltb (dist_in x net.nodes m' w) (key_in x net.nodes m' w) (omega (arith, new-dist, key-node x net.nodes m' w h, k.key-new)) ∙ old (done_in x net.nodes m w) refl)
          go (no ne) = ap₂ ltb (old-dist v ne) (old-key v ne)

      not-w : (v : ℕ) → (v ≡ (arc net.arcs b).to → ⊥) → v ≢ w
      not-w v ne e = ne (e ∙ sym ends)

      turn-lower : Turning net s x l m' r u d Pending'
      turn-lower =
          record {
            looking = record {
              stands = t.looking.stands;
              queue = k.queue;
              search = search-same net s x.far (done_in x net.nodes m) (done_in x net.nodes m') (dist_in x net.nodes m') (last_in x m') d Pending' done-same
                  (search-lower net s x.far (done_in x net.nodes m) (dist_in x net.nodes m) (last_in x m) d Pending Pending' t.looking.search b o from-done from-level rest
                  (omega (arith, from-level, ap (dist_in x net.nodes m) ends, dist-node x net.nodes m w h)) (dist_in x net.nodes m') (last_in x m')
                  (omega (arith, ap (dist_in x net.nodes m') ends, new-dist, from-level)) (λ v ne. old-dist v (not-w v ne))
                  (ap (last_in x m') ends ∙ k.last-new) (λ v ne. k.lasts v (not-w v ne)));
              keys = λ v y. keys v y (ℕ_discrete v w);
            };
            since = record {
              elsewhere = else-trans x t.since.elsewhere k.elsewhere;
              stays = λ v y. subst T (sym (done-same v)) (t.since.stays v y);
            };
            is-done = subst T (sym (done-same u)) t.is-done;
            is-level = old-dist u (λ e. w-open (subst (λ y. T (done_in x net.nodes m y)) e t.is-done)) ∙ t.is-level;
          }
        where
          keys : (v : ℕ) → v < net.nodes → Dec (v ≡ w) → (key_at m' v ≡ dist_in x net.nodes m' v) ⊎ ((key_at m' v ≡ x.far) × (dist_in x net.nodes m' v < x.far))
          keys v y (yes e) =
              subst (λ q. (key_at m' q ≡ dist_in x net.nodes m' q) ⊎ ((key_at m' q ≡ x.far) × (dist_in x net.nodes m' q < x.far))) (sym e) (inl (k.key-new ∙ sym new-dist))
          keys v y (no ne) =
              ⊎_elim (λ c. inl (k.keys v y ne ∙ c ∙ sym (old-dist v ne))) (λ c. inr (k.keys v y ne ∙ c.0, omega (arith, c.1, old-dist v ne))) (t.looking.keys v y)

    pub turning-look : (w : ℕ) → (arc net.arcs b).to ≡ w → w < net.nodes → (c : ℕ) → c ≡ d + (arc net.arcs b).len → (m' : List ℕ) (r : ℕ) → Looked x net.nodes m root w b c m' r → Turning net s x l m' r u d Pending'
    turning-look w ends h c ec m' r (inl k) =
        subst (λ (y : List ℕ). Turning net s x l y r u d Pending') (sym k.1)
        (subst (λ y. Turning net s x l m y u d Pending') (sym k.2) (turn-keep (omega (arith, k.0, ec, ap (dist_in x net.nodes m) ends, dist-node x net.nodes m w h))))
    turning-look w ends h c ec m' r (inr k) =
        turn-lower w ends h m' r (omega (arith, k.0, ec)) (subst (λ y. Lowered x net.nodes m w b y m' r) ec k.1)

-- the arcs of u from number a on are pending
module _ (net : Net) (s : ℕ) (x : Stand) (l m : List ℕ) (root u d a : ℕ) (t : Turn net s x l m root u d a) where
  pub turn-anew : Turn net s x m m root u d a
  turn-anew = turning-anew net s x l m root u d (Waiting net u a) t

  -- on to a later arc, if none that may be used leaves u in between
  pub turn-skip : (b : ℕ) → ((e : ℕ) → Open net e → (arc net.arcs e).from ≡ u → a ≤ e → e < b → ⊥) → Turn net s x l m root u d b
  turn-skip b none =
      turning-fewer net s x l m root u d (Waiting net u a) t (Waiting net u b)
      (λ e o f w. ⊎_elim (λ h. f (w.0, h)) (λ h. none e o w.0 w.1 h) (order b e))

  -- its end, if none that may be used leaves u from here on
  pub turn-over : ((e : ℕ) → Open net e → (arc net.arcs e).from ≡ u → a ≤ e → ⊥) → Over net s x l m root u
  turn-over none = turning-over net s x l m root u d (Waiting net u a) t (λ e o w. none e o w.0 w.1)

  -- the next one
  pub turn-look : Open net a → (arc net.arcs a).from ≡ u → (w : ℕ) → (arc net.arcs a).to ≡ w → w < net.nodes → (c : ℕ) → c ≡ d + (arc net.arcs a).len → (m' : List ℕ) (r : ℕ) → Looked x net.nodes m root w a c m' r → Turn net s x l m' r u d (a + 1)
  turn-look = turning-look net s x l m root u d (Waiting net u a) t a (Waiting net u (a + 1)) (λ e ne f w. f (w.0, omega arith))

  -- any one, which may be looked at again
  pub turn-again : (b : ℕ) → Open net b → (arc net.arcs b).from ≡ u → (w : ℕ) → (arc net.arcs b).to ≡ w → w < net.nodes → (c : ℕ) → c ≡ d + (arc net.arcs b).len → (m' : List ℕ) (r : ℕ) → Looked x net.nodes m root w b c m' r → Turn net s x l m' r u d a
  turn-again b = turning-look net s x l m root u d (Waiting net u a) t b (Waiting net u a) (λ e ne f w. f w)

-- as it begins: all of them
pub turn-begin : (net : Net) (s : ℕ) (x : Stand) (l : List ℕ) (root : ℕ) (r : Ready net s x l root) → key_at l root < x.far → (m : List ℕ) (first : ℕ) → KeySet net.nodes l root x.far m first
    → (d : ℕ) → d ≡ long_at x.dist l root → Turn net s x l m first root d 0
turn-begin net s x l root r near m first k d e =
    turning-fewer net s x l m first root d (λ a. (arc net.arcs a).from ≡ root) (turning-begin net s x l root r near m first k d e) (Waiting net root 0) (λ a o n w. n (w, omega arith))

-- the end of a turn, seen from its beginning
pub over-since : (net : Net) (s : ℕ) (x : Stand) (l m m' : List ℕ) (root u : ℕ) → Since net x l m → Over net s x m m' root u → Over net s x l m' root u
over-since net s x l m m' root u e o =
    record {
      ready = o.ready;
      since = record { elsewhere = else-trans x e.elsewhere o.since.elsewhere; stays = λ v y. o.since.stays v (e.stays v y) };
      is-done = o.is-done;
    }

-- a turn that goes on, seen from an earlier room
pub turn-since : (net : Net) (s : ℕ) (x : Stand) (l m m' : List ℕ) (root u d a : ℕ) → Since net x l m → Turn net s x m m' root u d a → Turn net s x l m' root u d a
turn-since net s x l m m' root u d a e t =
    record {
      looking = t.looking;
      since = record { elsewhere = else-trans x e.elsewhere t.since.elsewhere; stays = λ v y. t.since.stays v (e.stays v y) };
      is-done = t.is-done;
      is-level = t.is-level;
    }

-- ---- how many nodes are not done: at each turn one less

unfoldable pub left : (ℕ → Bool) → ℕ → ℕ
left f zero = 0
left f (suc n) = cond (f n) 0 1 + left f n

module _ (f g : ℕ → Bool) (stays : (v : ℕ) → T (f v) → T (g v)) where
  left_one : (v : ℕ) (a b : Bool) → a ≡ f v → b ≡ g v → cond b 0 1 ≤ cond a 0 1
  left_one v a true e k = omega arith
  left_one v false false e k = omega arith
  left_one v true false e k = absurd (subst T (sym k) (stays v (subst T e tt)))

  left_le : (n : ℕ) → left g n ≤ left f n
  unfolding left
  left_le zero = omega arith
  left_le (suc n) = omega (arith, left_le n, left_one n (f n) (g n) refl refl)

  left-gone : (a b : Bool) → T (not a) → T b → cond b 0 1 < cond a 0 1
  left-gone false true p q = omega arith
  left-gone true b p q = absurd p
  left-gone false false p q = absurd q

  left_less : (u n : ℕ) → u < n → T (not (f u)) → T (g u) → left g n < left f n
  unfolding left
  left_less u zero h p q = absurd (omega arith)
  left_less u (suc n) h p q =
      ⊎_elim
      (λ w. let e : u ≡ n = omega arith in omega (arith, left_le n, left-gone (f n) (g n) (subst (λ v. T (not (f v))) e p) (subst (λ v. T (g v)) e q)))
      (λ w. omega (arith, left_less u n w p q, left_one n (f n) (g n) refl refl))
      (order n u)

-- the first of the queue is done since, and what was done still is
pub since-less : (net : Net) (s : ℕ) (x : Stand) (l m : List ℕ) (root : ℕ) → Ready net s x l root → key_at l root < x.far → Since net x l m → T (done_in x net.nodes m root)
    → left (done_in x net.nodes m) net.nodes < left (done_in x net.nodes l) net.nodes
since-less net s x l m root r near since done =
    left_less (done_in x net.nodes l) (done_in x net.nodes m) since.stays root net.nodes r.looking.queue.root.used (root-open net s x l root r near) done

pub over-less : (net : Net) (s : ℕ) (x : Stand) (l m : List ℕ) (root first : ℕ) → Ready net s x l root → key_at l root < x.far → Over net s x l m first root
    → left (done_in x net.nodes m) net.nodes < left (done_in x net.nodes l) net.nodes
over-less net s x l m root first r near o = since-less net s x l m root r near o.since o.is-done
