-- A mark is a word of a node's record, so a mark put is read back and every other mark, and what the two searches left, is as it was. Hence the steps of the theory are
-- steps of the room: at first no node has a mark; on the way back along the first route each arc is marked where it starts; on the way back along the second route the
-- mark at v goes where it is the arc followed, and else that arc is marked where it starts. The arcs followed are records of the table, and their ends nodes.
use mathlib.Core.Path.{◌≡◌, refl, sym, ap, subst, fun_ext, ◌∙◌}
use mathlib.Core.Logic.{◌≢◌, inl, inr, ⊎_elim}
use mathlib.Core.Bool.{true, cond}
use mathlib.Core.List.{List}
use Prim.Native.Nat.{ℕ, suc, pred, ◌+◌, ◌^◌, ◌≤◌, ◌<◌}
use native.Mathlib.Decide.{ℕ_discrete}
use native.Mathlib.Numerals.{add-one}
use native.Mathlib.Omega.{arith}
use lib.Dec.{ltb, leb}
use lib.ListN.{length}
use Rattle.lists.proofs.Cases.{order}
use Rattle.net.specs.Net.{Net, arc}
use Rattle.distances.specs.Search.{Open, Found}
use Rattle.table.specs.Table.{records, from_at, to_at, arcs_of, net_of}
use Rattle.table.specs.Fault.{table_fault, good}
use Rattle.table.proofs.FaultLaws.{all-good, good-size}
use Rattle.table.proofs.NetLaws.{arcs-length, arc-is, table-sound, from-below}
use Rattle.working_room.specs.Field.{room_bytes, word_at, put_word, Within}
use Rattle.working_room.proofs.RoomLaws.{word-put, word-put-node, within_word, within-word_at, within_same, within-trans, within_wider}
use Rattle.node_queue.specs.Queue.{Roomy}
use Rattle.node_queue.proofs.WinnerLaws.{room_at, roomy-kept}
use Rattle.reach.specs.Stand.{dist_in, last_in}
use Rattle.reach.proofs.ForwardLaws.{arc-open}
use Rattle.pair.specs.Walked.{Shortest, Both, Marking, Undoing}
use Rattle.pair.proofs.Steps.{found-shortest, found-both, marks-start, marks-arc, marks-room, marks-step, marks-end, undo-start, undo-arc, undo-room, undo-back, undo-forth, undo-end}
use Rattle.pair_room.specs.Room.{far, further, again, none, mark_in, kept_in, added_in}
use Rattle.pair_room.specs.Stages.{dist_of, last_of, Reached, Marked, Searched, Settled}
use Rattle.pair_room.proofs.RoomLaws.{mark-node, mark-past, marks-dist, marks-last, marks-again, marks-last-again}
use Rattle.pair_marks.specs.Step.{Stepped}
use Rattle.pair_marks.specs.Way.{Blank, Traced, Undone}

-- ---- a mark put

module _ (o n : ℕ) (l : List ℕ) (u x : ℕ) (inside : leb (o + 4) room_bytes ≡ true) where
  mark-put : Roomy n l → u < n → x < 2 ^ 32 → mark_in o n (put_word o l u x) u ≡ x
  mark-put r h f = mark-node o n (put_word o l u x) u h ∙ word-put o l u x inside (room_at r u h) f

  mark-put-node : (w : ℕ) → (w ≡ u → ⊥) → mark_in o n (put_word o l u x) w ≡ mark_in o n l w
  mark-put-node w ne = ap (λ y. cond (ltb w n) y none) (word-put-node o l u x inside w ne)

pub kept_put : (l : List ℕ) (u x : ℕ) → Within 36 8 l (put_word 36 l u x)
kept_put l u x = within_wider 36 8 (within_word 36 l u x refl) refl refl

added-put : (l : List ℕ) (u x : ℕ) → Within 36 8 l (put_word 40 l u x)
added-put l u x = within_wider 36 8 (within_word 40 l u x refl) refl refl

added-kept : (n : ℕ) (l : List ℕ) (u x w : ℕ) → added_in n (put_word 36 l u x) w ≡ added_in n l w
added-kept n l u x w = ap (λ y. cond (ltb w n) y none) (within-word_at (within_word 36 l u x refl) 40 w refl refl)

kept-added : (n : ℕ) (l : List ℕ) (u x w : ℕ) → kept_in n (put_word 40 l u x) w ≡ kept_in n l w
kept-added n l u x w = ap (λ y. cond (ltb w n) y none) (within-word_at (within_word 40 l u x refl) 36 w refl refl)

-- ---- no marks

pub blank_none : (l : List ℕ) → Blank l l 0
blank_none l = record { within = within_same 36 8 l; kept = λ u h. absurd (omega arith); added = λ u h. absurd (omega arith) }

pub blank-more : (n : ℕ) (l m : List ℕ) (v : ℕ) → Roomy n l → v < n → Blank l m v
    → (m₁ m₂ : List ℕ) → m₁ ≡ put_word 36 m v none → m₂ ≡ put_word 40 m₁ v none → Blank l m₂ (v + 1)
blank-more n l m v r h b m₁ m₂ e₁ e₂ =
    subst (λ (q : List ℕ). Blank l q (v + 1)) (sym (e₂ ∙ ap (λ (q : List ℕ). put_word 40 q v none) e₁))
    (record {
      within = within-trans b.within (within-trans (kept_put m v none) (added-put m' v none));
      kept = λ u i. within-word_at (within_word 40 m' v none refl) 36 u refl refl ∙ first u i (ℕ_discrete u v);
      added = λ u i. second u i (ℕ_discrete u v);
    })
  where
    m' : List ℕ
    m' = put_word 36 m v none

    roomy : Roomy n m
    roomy = roomy-kept b.within r

    first : (u : ℕ) → u < v + 1 → Dec (u ≡ v) → word_at 36 m' u ≡ none
    first u i (yes e) = subst (λ y. word_at 36 m' y ≡ none) (sym e) (word-put 36 m v none refl (room_at roomy v h) (omega arith))
    first u i (no ne) = word-put-node 36 m v none refl u ne ∙ b.kept u (omega arith)

    second : (u : ℕ) → u < v + 1 → Dec (u ≡ v) → word_at 40 (put_word 40 m' v none) u ≡ none
    second u i (yes e) = subst (λ y. word_at 40 (put_word 40 m' v none) y ≡ none) (sym e) (word-put 40 m' v none refl (room_at (roomy-kept (kept_put m v none) roomy) v h) (omega arith))
    second u i (no ne) = word-put-node 40 m' v none refl u ne ∙ within-word_at (within_word 36 m v none refl) 40 u refl refl ∙ b.added u (omega arith)

module _ (n : ℕ) (l m : List ℕ) (v : ℕ) (all : n ≤ v) (b : Blank l m v) where
  pub blank-kept : (u : ℕ) → kept_in n m u ≡ none
  blank-kept u = ⊎_elim (λ h. mark-past 36 n m u h) (λ h. mark-node 36 n m u h ∙ b.kept u (omega arith)) (order n u)

  pub blank-added : (u : ℕ) → added_in n m u ≡ none
  blank-added u = ⊎_elim (λ h. mark-past 40 n m u h) (λ h. mark-node 40 n m u h ∙ b.added u (omega arith)) (order n u)

-- ---- the searches' numbers, with other marks

module _ (net : Net) {l m : List ℕ} (w : Within 36 8 l m) where
  found-same : (F : (ℕ → ℕ) → (ℕ → ℕ) → Type 0) → F (dist_of net l) (last_of l) → F (dist_of net m) (last_of m)
  found-same F h = subst (λ (d : ℕ → ℕ). F d (last_of m)) (sym (marks-dist net w)) (subst (λ (p : ℕ → ℕ). F (dist_of net l) p) (sym (marks-last net w)) h)

  again-same : (F : (ℕ → ℕ) → (ℕ → ℕ) → Type 0) → F (dist_in again net.nodes l) (last_in again l) → F (dist_in again net.nodes m) (last_in again m)
  again-same F h =
      subst (λ (d : ℕ → ℕ). F d (last_in again m)) (sym (marks-again net w)) (subst (λ (p : ℕ → ℕ). F (dist_in again net.nodes l) p) (sym (marks-last-again net w)) h)

-- ---- the steps

module _ (nodes : ℕ) (t closed : List ℕ) (ok : table_fault nodes t ≡ good) (s goal : ℕ) where
  -- the arcs are fewer than the mark of none
  few : length (arcs_of t) ≤ none
  few = omega (arith, arcs-length t, (good-size nodes t ok).3)

  module _ (a : ℕ) (o : Open (net_of nodes t closed) a) where
    is-record : a < records t
    is-record = (arc-open nodes t closed a o).0

    is_word : a < 2 ^ 32
    is_word = omega (arith, is-record, (good-size nodes t ok).3)

    starts : (arc (arcs_of t) a).from ≡ from_at t a
    starts = ap (λ y. y.from) (arc-is t a is-record)

    ends : (arc (arcs_of t) a).to ≡ to_at t a
    ends = ap (λ y. y.to) (arc-is t a is-record)

  -- ---- along the first route

  pub trace-start : (l m : List ℕ) → Roomy nodes l → goal < nodes → Reached (net_of nodes t closed) s l → dist_of (net_of nodes t closed) l goal < far → Within 36 8 l m
      → ((v : ℕ) → kept_in nodes m v ≡ none) → ((v : ℕ) → added_in nodes m v ≡ none) → Traced (net_of nodes t closed) s goal m goal 0
  trace-start l m r below reached near w kept added =
      let net = net_of nodes t closed in
      let found : Reached net s m = found-same net w (λ d p. Found net s far d p) reached in
      let p = found-shortest net s goal far (dist_of net m) (last_of m) found (found-same net w (λ d p. d goal < far) near) in
      record {
        P = p.0;
        roomy = roomy-kept w r;
        below = below;
        reached = found;
        short = p.1;
        marking = marks-start net s goal (dist_of net m) (last_of m) p.0 p.1 none (kept_in nodes m) kept;
        blank = added;
      }

  module _ (l : List ℕ) (v k : ℕ) (x : Traced (net_of nodes t closed) s goal l v k) where
    module _ (away : v ≡ s → ⊥) where
      arc-at : Open (net_of nodes t closed) (word_at 20 l v)
      arc-at = (marks-arc (net_of nodes t closed) s goal (dist_of (net_of nodes t closed) l) (last_of l) x.P x.short none v k (kept_in nodes l) x.marking away).0

      pub trace-arc : word_at 20 l v < records t
      trace-arc = is-record (word_at 20 l v) arc-at

      pub trace-below : from_at t (word_at 20 l v) < nodes
      trace-below = (all-good nodes t ok (word_at 20 l v) trace-arc).start

      pub trace-room : s < nodes → k < pred nodes
      trace-room h =
          marks-room (net_of nodes t closed) s goal (dist_of (net_of nodes t closed) l) (last_of l) x.P x.short none v k (kept_in nodes l) x.marking away h
          (table-sound nodes t ok closed)

      traced : Traced (net_of nodes t closed) s goal (put_word 36 l (from_at t (word_at 20 l v)) (word_at 20 l v)) (from_at t (word_at 20 l v)) (k + 1)
      traced =
          let net = net_of nodes t closed in
          let a = word_at 20 l v in
          let u = from_at t a in
          let m = put_word 36 l u a in
          let from : (arc (arcs_of t) a).from ≡ u = starts a arc-at in
          let w = kept_put l u a in
          record {
            P = x.P;
            roomy = roomy-kept w x.roomy;
            below = trace-below;
            reached = found-same net w (λ d p. Found net s far d p) x.reached;
            short = found-same net w (λ d p. Shortest net s goal d p x.P) x.short;
            marking = subst (λ y. Marking net s none x.P y (k + 1) (kept_in nodes m)) from
                (subst (λ j. Marking net s none x.P (arc (arcs_of t) a).from j (kept_in nodes m)) (sym (add-one k))
                (marks-step net s goal (dist_of net l) (last_of l) x.P x.short none v k (kept_in nodes l) x.marking away (kept_in nodes m)
                (ap (kept_in nodes m) from ∙ mark-put 36 nodes l u a refl x.roomy trace-below (is_word a arc-at))
                (λ y ne. mark-put-node 36 nodes l u a refl y (λ e. ne (e ∙ sym from)))));
            blank = λ y. added-kept nodes l u a y ∙ x.blank y;
          }

      pub trace-step : (a w : ℕ) (m : List ℕ) → a ≡ word_at 20 l v → w ≡ from_at t a → m ≡ put_word 36 l w a → Traced (net_of nodes t closed) s goal m w (k + 1)
      trace-step a w m ea ew em =
          let net = net_of nodes t closed in
          subst (λ (q : List ℕ). Traced net s goal q w (k + 1)) (sym em)
          (subst (λ y. Traced net s goal (put_word 36 l w y) w (k + 1)) (sym ea)
          (subst (λ y. Traced net s goal (put_word 36 l y (word_at 20 l v)) y (k + 1)) (sym (ew ∙ ap (from_at t) ea)) traced))

    pub trace-end : v ≡ s → Marked (net_of nodes t closed) s goal l
    trace-end e =
        record {
          P = x.P;
          reached = x.reached;
          short = x.short;
          marks = marks-end (net_of nodes t closed) s goal (dist_of (net_of nodes t closed) l) (last_of l) x.P x.short none k (kept_in nodes l)
              (subst (λ y. Marking (net_of nodes t closed) s none x.P y k (kept_in nodes l)) e x.marking);
          blank = x.blank;
        }

  -- ---- along the second route

  pub follow-start : (l : List ℕ) → Roomy nodes l → goal < nodes → Searched (net_of nodes t closed) s goal l → dist_in again nodes l goal < further
      → Undone (net_of nodes t closed) s goal l goal 0
  follow-start l r below x near =
      let net = net_of nodes t closed in
      let y = x.marked in
      let d = dist_in again nodes l in
      let p = last_in again l in
      let b = found-both net s goal far (dist_of net l) (last_of l) y.P y.reached y.short further d p x.again near in
      record {
        P = y.P;
        R = b.0;
        roomy = r;
        below = below;
        both = b.1;
        undoing = undo-start net s goal (dist_of net l) (last_of l) y.P y.short none d p b.0 b.1.short₂ (kept_in nodes l) (added_in nodes l) y.marks y.blank;
      }

  module _ (l : List ℕ) (v k : ℕ) (x : Undone (net_of nodes t closed) s goal l v k) where
    -- the room with other marks, of which the theory's step is told
    undone : (m : List ℕ) (w : ℕ) → Within 36 8 l m → w < nodes
        → Undoing (net_of nodes t closed) s none (dist_of (net_of nodes t closed) l) x.P x.R w (suc k) (kept_in nodes m) (added_in nodes m)
        → Undone (net_of nodes t closed) s goal m w (k + 1)
    undone m w h below y =
        let net = net_of nodes t closed in
        record {
          P = x.P;
          R = x.R;
          roomy = roomy-kept h x.roomy;
          below = below;
          both = found-same net h (λ d p. Both net s goal d p x.P (dist_in again nodes m) (last_in again m) x.R)
              (again-same net h (λ d p. Both net s goal (dist_of net l) (last_of l) x.P d p x.R) x.both);
          undoing = found-same net h (λ d p. Undoing net s none d x.P x.R w (k + 1) (kept_in nodes m) (added_in nodes m))
              (subst (λ j. Undoing net s none (dist_of net l) x.P x.R w j (kept_in nodes m) (added_in nodes m)) (sym (add-one k)) y);
        }

    module _ (away : v ≡ s → ⊥) where
      arc-again : Open (net_of nodes t closed) (word_at 32 l v)
      arc-again =
          undo-arc (net_of nodes t closed) s goal (dist_of (net_of nodes t closed) l) (last_of l) x.P x.both.short none (dist_in again nodes l) (last_in again l) x.R x.both.short₂
          v k (kept_in nodes l) (added_in nodes l) x.undoing away

      pub follow-arc : word_at 32 l v < records t
      follow-arc = is-record (word_at 32 l v) arc-again

      pub follow-below : from_at t (word_at 32 l v) < nodes
      follow-below = (all-good nodes t ok (word_at 32 l v) follow-arc).start

      pub follow-room : s < nodes → k < pred nodes
      follow-room h =
          undo-room (net_of nodes t closed) s goal (dist_of (net_of nodes t closed) l) (last_of l) x.P x.both.short none (dist_in again nodes l) (last_in again l) x.R x.both.short₂
          v k (kept_in nodes l) (added_in nodes l) x.undoing away h (table-sound nodes t ok closed) (from-below nodes t ok)

      -- over the arc marked at v
      back-over : word_at 36 l v ≡ word_at 32 l v → Undone (net_of nodes t closed) s goal (put_word 36 l v none) (to_at t (word_at 32 l v)) (k + 1)
      back-over e =
          let net = net_of nodes t closed in
          let a = word_at 32 l v in
          let m = put_word 36 l v none in
          undone m (to_at t a) (kept_put l v none) (all-good nodes t ok a follow-arc).end
          (subst (λ y. Undoing net s none (dist_of net l) x.P x.R y (suc k) (kept_in nodes m) (added_in nodes m)) (ends a arc-again)
          (subst (λ (f : ℕ → ℕ). Undoing net s none (dist_of net l) x.P x.R (arc (arcs_of t) a).to (suc k) (kept_in nodes m) f) (sym (fun_ext (added-kept nodes l v none)))
          (undo-back net s goal (dist_of net l) (last_of l) x.P x.both.short none (dist_in again nodes l) (last_in again l) x.R x.both.short₂
          v k (kept_in nodes l) (added_in nodes l) x.undoing away few (mark-node 36 nodes l v x.below ∙ e) (kept_in nodes m)
          (mark-put 36 nodes l v none refl x.roomy x.below (omega arith)) (mark-put-node 36 nodes l v none refl))))

      -- over another
      forth-over : word_at 36 l v ≢ word_at 32 l v
          → Undone (net_of nodes t closed) s goal (put_word 40 l (from_at t (word_at 32 l v)) (word_at 32 l v)) (from_at t (word_at 32 l v)) (k + 1)
      forth-over ne =
          let net = net_of nodes t closed in
          let a = word_at 32 l v in
          let u = from_at t a in
          let m = put_word 40 l u a in
          let from : (arc (arcs_of t) a).from ≡ u = starts a arc-again in
          undone m u (added-put l u a) follow-below
          (subst (λ y. Undoing net s none (dist_of net l) x.P x.R y (suc k) (kept_in nodes m) (added_in nodes m)) from
          (subst (λ (f : ℕ → ℕ). Undoing net s none (dist_of net l) x.P x.R (arc (arcs_of t) a).from (suc k) f (added_in nodes m)) (sym (fun_ext (kept-added nodes l u a)))
          (undo-forth net s goal (dist_of net l) (last_of l) x.P x.both.short none (dist_in again nodes l) (last_in again l) x.R x.both.short₂
          v k (kept_in nodes l) (added_in nodes l) x.undoing away (λ e. ne (sym (mark-node 36 nodes l v x.below) ∙ e)) (added_in nodes m)
          (ap (added_in nodes m) from ∙ mark-put 40 nodes l u a refl x.roomy follow-below (is_word a arc-again))
          (λ y n. mark-put-node 40 nodes l u a refl y (λ e. n (e ∙ sym from))))))

      pub follow-step : (m : List ℕ) (w : ℕ) → Stepped t l v m w → Undone (net_of nodes t closed) s goal m w (k + 1)
      follow-step m w (inl h) =
          let net = net_of nodes t closed in
          subst (λ (q : List ℕ). Undone net s goal q w (k + 1)) (sym h.1) (subst (λ y. Undone net s goal (put_word 36 l v none) y (k + 1)) (sym h.2) (back-over h.0))
      follow-step m w (inr h) =
          let net = net_of nodes t closed in
          subst (λ (q : List ℕ). Undone net s goal q w (k + 1)) (sym h.1)
          (subst (λ y. Undone net s goal (put_word 40 l (from_at t (word_at 32 l v)) (word_at 32 l v)) y (k + 1)) (sym h.2) (forth-over h.0))

    pub follow-end : v ≡ s → Settled (net_of nodes t closed) s goal l
    follow-end e =
        let net = net_of nodes t closed in
        let w = undo-end net s goal (dist_of net l) (last_of l) x.P x.both.short none (dist_in again nodes l) (last_in again l) x.R x.both.short₂ k (kept_in nodes l) (added_in nodes l)
        (subst (λ y. Undoing net s none (dist_of net l) x.P x.R y k (kept_in nodes l) (added_in nodes l)) e x.undoing) in
        record { P = x.P; R = x.R; both = x.both; kept = w.0; added = w.1 }
