-- The root of the tree is the theory's first candidate: keys are lengths, and that of none is greater than any. A label's new candidate leaves the others and their
-- order, so the tree is right but for that label, and after the update right. When the root's candidate is looked at the other labels' stay right.
use mathlib.Core.Path.{◌≡◌, refl, sym, subst, ◌∙◌}
use mathlib.Core.Logic.{◌≢◌}
use mathlib.Core.List.{List, [], ◌∷◌, ◌++◌}
use mathlib.Core.Option.{none}
use Prim.Native.Nat.{ℕ, ◌+◌, ◌*◌, ◌^◌, ◌≤◌, ◌<◌}
use native.Mathlib.Omega.{arith}
use native.Mathlib.Decide.{ℕ_discrete}
use lib.Dec.{T, T_not}
use lib.ListN.{length}
use borrow.Author.Tests.{eq-eqb, ne_eqb}
use Rattle.lists.proofs.TestLaws.{lex-lt}
use Rattle.words.proofs.RecordLaws.{num-put-near, num-put-far}
use Rattle.net.specs.Net.{Arc, arc}
use Rattle.net.specs.Route.{end_of, leaves, before, precedes, length_of, numbers_first}
use Rattle.net.specs.Round.{Query}
use Rattle.net.specs.Limits.{most_length}
use Rattle.net.proofs.Order.{AtMost, not_after, length_of-append}
use Rattle.net.proofs.Sorted.{Increasing}
use Rattle.net.proofs.Candidates.{Candidate}
use Rattle.net.proofs.Step.{Fails, Foremost}
use Rattle.labels.specs.Field.{label_bytes, no_number}
use Rattle.labels.specs.Chain.{chain_at, chains_in}
use Rattle.labels.specs.Standing.{Standing, Comparable}
use Rattle.search_tree.specs.Tree.{First, Tree, TreeBut}
use Rattle.search_tree.proofs.TreeLaws.{side-pos, but-changed}
use Rattle.search_ahead.specs.Cursor.{Cursor, Cursors, Wins, taken_of}
use Rattle.search_ahead.proofs.CursorLaws.{wins-foremost, none_left, others-right}
use Rattle.search_queue.specs.Working.{cursor_at, winner_at, key_at, put_own}
use Rattle.search_queue.specs.Only.{Only}
use Rattle.search_queue.specs.Order.{own_at, sooner, NotAfter}
use Rattle.search_queue.proofs.OrderLaws.{not-after-same}
use Rattle.search_queue.proofs.OnlyLaws.{only-trans, chain-only, chains-only, comparable-only}
use Rattle.search_queue.proofs.WorkingLaws.{only-own, cursor-same, key-same, cursor-other, key-other, only-working, cursor-only, key-only}
use Rattle.search_queue.proofs.QueueLaws.{but-own, tree-before, first-before}
use Rattle.search_lists.specs.Link.{link_at}
use Rattle.search_lists.specs.Run.{run_at}
use Rattle.search_advance.specs.Own.{arc_in}
use Rattle.search_advance.proofs.OwnLaws.{arc-none, arc-some, arc-given}
use Rattle.search_cursor.specs.Queue.{no_key, key_for, SameLists, own_arc, Kept, Queued, QueuedBut}

-- ---- keys

module _ (arcs : List Arc) (p : List ℕ) (a : ℕ) where
  pub key-some : a ≢ no_number → key_for arcs p a ≡ length_of arcs (p ++ (a ∷ []))
  unfolding key_for
  key-some ne = rw (ne_eqb a no_number ne)

  pub key-none : a ≡ no_number → key_for arcs p a ≡ no_key
  unfolding key_for
  key-none e = rw (eq-eqb a no_number e)

-- ---- the root

module _ (q : Query) (earlier : List (List ℕ)) (last l : List ℕ) (n w : ℕ) (st : Standing q.net.arcs q.s l n) (most : (a : ℕ) → (arc q.net.arcs a).len ≤ most_length)
    (qu : Queued q earlier last l n w) where
  cursors : Cursors q earlier (length_of q.net.arcs) last (chain_at l) n (own_arc l)
  unfolding chains_in
  cursors = record { right = λ i h. (qu.kept i h).cursor }

  -- a candidate's key is below that of none
  key_below : (i : ℕ) → i < n → cursor_at l i ≢ no_number → key_at l i < no_key
  unfolding length_of
  key_below i h ne =
      omega (
        arith,
        (qu.kept i h).key ∙ key-some q.net.arcs (chain_at l i) (cursor_at l i) ne,
        length_of-append q.net.arcs (chain_at l i) (cursor_at l i ∷ []),
        st.lengths i h,
        st.most i h,
        most (cursor_at l i),
      )

  key-at : (i : ℕ) → i < n → cursor_at l i ≢ no_number → key_at l i ≡ length_of q.net.arcs (own_at l i)
  unfolding own_at
  key-at i h ne = (qu.kept i h).key ∙ key-some q.net.arcs (chain_at l i) (cursor_at l i) ne

  sooner-is : (i j : ℕ) → i < n → j < n → cursor_at l i ≢ no_number → cursor_at l j ≢ no_number → sooner l i j ≡ precedes q.net.arcs (own_at l i) (own_at l j)
  unfolding sooner before
  sooner-is i j h k a b = rw (key-at i h a, key-at j k b)

  root-wins : cursor_at l w ≢ no_number → Wins (length_of q.net.arcs) (chain_at l) n (own_arc l) w (cursor_at l w)
  unfolding own_at NotAfter
  root-wins ne =
      record {
        below = qu.root.used;
        has-it = arc-some (cursor_at l w) ne;
        first = λ j b h e.
            let k = arc-given (cursor_at l j) b e in
            subst (λ z. AtMost (length_of q.net.arcs) (chain_at l w ++ (cursor_at l w ∷ [])) (chain_at l j ++ (z ∷ []))) k.1
            (not_after (length_of q.net.arcs) (own_at l w) (own_at l j)
            (λ x. T_not (sooner l j w) (qu.root.least j (omega arith) h h) (subst T (sym (sooner-is j w h qu.root.used k.0 ne)) x)));
      }

  root_none : cursor_at l w ≡ no_number → (i : ℕ) → i < n → own_arc l i ≡ none
  unfolding NotAfter sooner
  root_none e i h = go (ℕ_discrete (cursor_at l i) no_number)
    where
      go : Dec (cursor_at l i ≡ no_number) → own_arc l i ≡ none
      go (yes z) = arc-none (cursor_at l i) z
      go (no z) =
          absurd (T_not (sooner l i w) (qu.root.least i (omega arith) h h)
          (lex-lt (key_at l i) (key_at l w) (numbers_first (own_at l i) (own_at l w))
          (omega (arith, key_below i h z, (qu.kept w qu.root.used).key ∙ key-none q.net.arcs (chain_at l w) (cursor_at l w) e))))

  -- a turn may take it
  pub root-foremost : cursor_at l w ≢ no_number → Foremost q earlier (length_of q.net.arcs) (chains_in l n) last (chain_at l w ++ (cursor_at l w ∷ []))
  unfolding chains_in
  root-foremost ne = wins-foremost q earlier (length_of q.net.arcs) last (chain_at l) n (own_arc l) cursors w (cursor_at l w) (root-wins ne)

  pub root-leaves : cursor_at l w ≢ no_number → T (leaves q.net (end_of q.net.arcs q.s (chain_at l w)) (cursor_at l w))
  root-leaves ne =
      (subst (Cursor q earlier (length_of q.net.arcs) (chains_in l n) last (chain_at l w) (length q.net.arcs)) (arc-some (cursor_at l w) ne) (qu.kept w qu.root.used).cursor).0.leaves-end

  -- or nothing is left
  pub root-last : cursor_at l w ≡ no_number → (c : List ℕ) → Candidate (length_of q.net.arcs) q.net q.s (chains_in l n) last c → Fails q earlier (chains_in l n) c
  unfolding chains_in
  root-last e = none_left q earlier (length_of q.net.arcs) last (chain_at l) n (own_arc l) cursors (root_none e)

  -- it is looked at
  pub queued-looked : Increasing (length_of q.net.arcs) (chains_in l n) → cursor_at l w ≢ no_number → QueuedBut q earlier (chain_at l w ++ (cursor_at l w ∷ [])) l n w
  unfolding chains_in
  queued-looked inc ne =
      record {
        kept = λ i h d. record {
          cursor = others-right q earlier (length_of q.net.arcs) last (chain_at l) n (own_arc l) cursors w (cursor_at l w) (root-wins ne) inc (taken_of (chain_at l) n) (λ r m. m) i h d;
          key = (qu.kept i h).key;
        };
        tree = but-changed (NotAfter l) (NotAfter l) (winner_at l) (winner_at l) n w (λ a b x y z. z) (λ j. refl) qu.tree;
      }

-- ---- carried over a change of bytes

pub kept-carried : (q : Query) (earlier taken : List (List ℕ)) (last l m : List ℕ) (i : ℕ) → chain_at m i ≡ chain_at l i → cursor_at m i ≡ cursor_at l i → key_at m i ≡ key_at l i
    → Kept q earlier taken last l i → Kept q earlier taken last m i
kept-carried q earlier taken last l m i c a k h = record { cursor = rw (c, a) h.cursor; key = rw (k, c, a) h.key }

-- ---- one label alone

pub tree-alone : (l : List ℕ) → Tree (NotAfter l) (winner_at l) 1
tree-alone l = record { joins = λ k i u. absurd (omega (arith, side-pos k, u)) }

pub first_alone : (l : List ℕ) → First (NotAfter l) 1 0 1 0
first_alone l =
    record {
      low = omega arith;
      high = omega arith;
      used = omega arith;
      least = λ j a b d.
          let z : 0 ≡ j = omega arith in
          subst (NotAfter l 0) z (not-after-same l 0);
    }

-- ---- a label's new candidate stored

module _ (q : Query) (l : List ℕ) (n x a : ℕ) (st : Standing q.net.arcs q.s l n) (most : (a : ℕ) → (arc q.net.arcs a).len ≤ most_length) (below : x < n) (fits : a < 2 ^ 32) (m : List ℕ) (put : m ≡ put_own l x a (key_for q.net.arcs (chain_at l x) a)) where
  stored : Only 20 20 n l m
  stored = rw put (only-own l x a (key_for q.net.arcs (chain_at l x) a) n below)

  room : x * label_bytes + label_bytes ≤ length l
  room = omega (arith, st.down.room)

  key_fits : key_for q.net.arcs (chain_at l x) a < 2 ^ 64
  unfolding length_of
  key_fits = go (ℕ_discrete a no_number)
    where
      go : Dec (a ≡ no_number) → key_for q.net.arcs (chain_at l x) a < 2 ^ 64
      go (yes e) = omega (arith, key-none q.net.arcs (chain_at l x) a e)
      go (no e) = omega (arith, key-some q.net.arcs (chain_at l x) a e, length_of-append q.net.arcs (chain_at l x) (a ∷ []), st.lengths x below, st.most x below, most a)

  cursor-new-is : cursor_at m x ≡ a
  cursor-new-is = rw put (cursor-same l x a (key_for q.net.arcs (chain_at l x) a) room fits)

  key-new-is : key_at m x ≡ key_for q.net.arcs (chain_at l x) a
  key-new-is = rw put (key-same l x a (key_for q.net.arcs (chain_at l x) a) room key_fits)

  cursor-old : (j : ℕ) → j ≢ x → cursor_at m j ≡ cursor_at l j
  cursor-old j ne = rw put (cursor-other l x a (key_for q.net.arcs (chain_at l x) a) j (λ e. ne (sym e)))

  key-old : (j : ℕ) → j ≢ x → key_at m j ≡ key_at l j
  key-old j ne = rw put (key-other l x a (key_for q.net.arcs (chain_at l x) a) j (λ e. ne (sym e)))

  -- a candidate's bytes are none of the link's, nor of the run's
  link-stored : (j : ℕ) → link_at m j ≡ link_at l j
  link-stored j = rw put (go (ℕ_discrete x j))
    where
      go : Dec (x ≡ j) → link_at (put_own l x a (key_for q.net.arcs (chain_at l x) a)) j ≡ link_at l j
      go (yes e) = rw (← e) (simp num-put-near)
      go (no ne) = simp num-put-far

  run-stored : (j : ℕ) → run_at m j ≡ run_at l j
  run-stored j = rw put (go (ℕ_discrete x j))
    where
      go : Dec (x ≡ j) → run_at (put_own l x a (key_for q.net.arcs (chain_at l x) a)) j ≡ run_at l j
      go (yes e) = rw (← e) (simp num-put-near)
      go (no ne) = simp num-put-far

  pub tree-stored : TreeBut (NotAfter l) (winner_at l) n x → TreeBut (NotAfter m) (winner_at m) n x
  tree-stored t = rw put (but-own l x a (key_for q.net.arcs (chain_at l x) a) t)

  -- of the labels before it
  pub tree-stored-before : Tree (NotAfter l) (winner_at l) x → Tree (NotAfter m) (winner_at m) x
  tree-stored-before t = rw put (tree-before l x a (key_for q.net.arcs (chain_at l x) a) t)

  pub first-stored-before : (w : ℕ) → First (NotAfter l) x 0 x w → First (NotAfter m) x 0 x w
  first-stored-before w f = rw put (first-before l x a (key_for q.net.arcs (chain_at l x) a) f)

  pub comparable-stored : Comparable l n → Comparable m n
  comparable-stored = comparable-only stored n

  -- then the tree made right
  module _ (earlier : List (List ℕ)) (last r : List ℕ) (o : Only 28 2 n m r) where
    pub settled_only : Only 20 20 n l r
    settled_only = only-trans stored (only-working o)

    pub settled-lists : SameLists l r
    settled-lists i = (o.field 2 i 30 refl refl ∙ link-stored i, o.field 4 i 20 refl refl ∙ run-stored i)

    pub settled : ((i : ℕ) → i < n → i ≢ x → Kept q earlier (chains_in l n) last l i) → Cursor q earlier (length_of q.net.arcs) (chains_in l n) last (chain_at l x) (length q.net.arcs) (arc_in a)
        → (w : ℕ) → Tree (NotAfter r) (winner_at r) n → First (NotAfter r) n 0 n w → Queued q earlier last r n w
    settled kept c w t f =
        record {
          kept = λ i h. subst (λ z. Kept q earlier z last r i) (sym (chains-only settled_only n)) (go i h (ℕ_discrete i x));
          tree = t;
          root = f;
        }
      where
        go : (i : ℕ) → i < n → Dec (i ≡ x) → Kept q earlier (chains_in l n) last r i
        go i h (yes e) =
            subst (Kept q earlier (chains_in l n) last r) (sym e)
            (record {
              cursor = rw (chain-only settled_only x, cursor-only o x, cursor-new-is) c;
              key = rw (key-only o x, key-new-is, chain-only settled_only x, cursor-only o x, cursor-new-is);
            })
        go i h (no ne) = kept-carried q earlier (chains_in l n) last l r i (chain-only settled_only i) (cursor-only o i ∙ cursor-old i ne) (key-only o i ∙ key-old i ne) (kept i h ne)
