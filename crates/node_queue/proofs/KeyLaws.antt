-- A key set: the order has changed for its node only and no winner has, so the tree is right but for that node. All keys set to one: every node is a first of any
-- range it is in, so it may be the winner that it has itself, of two blocks in the middle of which it stands.
use mathlib.Core.Path.{◌≡◌, refl, sym, subst, ◌∙◌}
use mathlib.Core.Logic.{◌≢◌, ⊎_elim}
use mathlib.Core.List.{List}
use Prim.Native.Nat.{ℕ, ◌+◌, ◌*◌, ◌^◌, ◌≤◌, ◌<◌}
use native.Mathlib.Omega.{arith}
use Rattle.lists.proofs.Cases.{order}
use Rattle.working_room.specs.Field.{put_long, put_word, Within}
use Rattle.working_room.proofs.RoomLaws.{long-put, long-put-node, within-long, word-put, word-put-node, within_word, within_same, within-trans, within_wider, within-word_at}
use Rattle.search_tree.specs.Tree.{side, First, Tree, TreeBut}
use Rattle.search_tree.proofs.TreeLaws.{side-pos, but-changed}
use Rattle.node_queue.specs.Queue.{key_at, winner_at, NotAfter, Roomy, KeySet, Filled}
use Rattle.node_queue.specs.Choice.{By, Fell}
use Rattle.node_queue.proofs.WinnerLaws.{room_at, key-kept, roomy-kept}

-- ---- one key

module _ (l : List ℕ) (v x : ℕ) (m : List ℕ) (put : m ≡ put_long 0 l v x) where
  pub key-within : Within 0 8 l m
  key-within = rw put (within-long 0 l v x refl)

  key-other : (w : ℕ) → w ≢ v → key_at m w ≡ key_at l w
  key-other w ne = rw put (long-put-node 0 l v x refl w ne)

  winner-kept : (w : ℕ) → winner_at m w ≡ winner_at l w
  winner-kept w = within-word_at key-within 8 w refl refl

  pub key-but : (n : ℕ) → Tree (NotAfter l) (winner_at l) n → TreeBut (NotAfter m) (winner_at m) n v
  key-but n t =
      but-changed (NotAfter l) (NotAfter m) (winner_at l) (winner_at m) n v (λ a b na nb h. rw (key-other a na, key-other b nb) h)
      winner-kept t

  module _ (n : ℕ) (r : Roomy n l) (used : v < n) (fits : x < 2 ^ 64) where
    own : key_at m v ≡ x
    own = rw put (long-put 0 l v x refl (room_at r v used) fits)

    pub key-fell : x ≤ key_at l v → Tree (NotAfter l) (winner_at l) n → (x ≡ key_at m v) × Fell n v m
    key-fell h t = (
      sym own,
      record {
        old = key_at l;
        others = λ w ne. sym (key-other w ne);
        less = rw own h;
        tree = record {
          joins = λ k i u. subst (First (By (key_at l)) n (2 * i * side k) ((2 * i + 2) * side k)) (sym (winner-kept ((2 * i + 1) * side k))) (t.joins k i u);
        };
      },
    )

    -- then the winners over it anew
    pub key_set : (p : List ℕ) → Within 8 4 m p → (root : ℕ) → Tree (NotAfter p) (winner_at p) n → First (NotAfter p) n 0 n root → KeySet n l v x p root
    key_set p f root t first =
        let w : Within 0 12 l p = within-trans (within_wider 0 12 key-within refl refl) (within_wider 0 12 f refl refl) in
        record {
          within = w;
          own = key-kept f v ∙ own;
          others = λ y h ne. key-kept f y ∙ key-other y ne;
          queue = record { roomy = roomy-kept w r; tree = t; root = first };
        }

-- ---- all keys

-- the nodes before i have the key x, and each is the winner that it has
pub record FilledTo (i : ℕ) (l : List ℕ) (x : ℕ) (m : List ℕ) : Type 0 where
  pub within : Within 0 12 l m
  pub keys : (v : ℕ) → v < i → key_at m v ≡ x
  pub winners : (v : ℕ) → v < i → winner_at m v ≡ v

pub filled_none : (l : List ℕ) (x : ℕ) → FilledTo 0 l x l
filled_none l x = record { within = within_same 0 12 l; keys = λ v h. absurd (omega arith); winners = λ v h. absurd (omega arith) }

module _ (l : List ℕ) (i x : ℕ) (m p : List ℕ) (n : ℕ) (r : Roomy n l) (used : i < n) (fits : x < 2 ^ 64) (d : FilledTo i l x m)
    (put : p ≡ put_word 8 (put_long 0 m i x) i i) where
  abbrev keyed : List ℕ
  keyed = put_long 0 m i x

  by_key : Within 0 8 m keyed
  by_key = within-long 0 m i x refl

  by-winner : Within 8 4 keyed p
  by-winner = rw put (within_word 8 keyed i i refl)

  pub filled_more : FilledTo (i + 1) l x p
  filled_more =
      record {
        within = within-trans d.within (within-trans (within_wider 0 12 by_key refl refl) (within_wider 0 12 by-winner refl refl));
        keys = λ v h. key-kept by-winner v ∙ ⊎_elim (λ z. key-new v (omega arith)) (λ z. key-old v z) (order i v);
        winners = λ v h. ⊎_elim (λ z. winner-new v (omega arith)) (λ z. winner-old v z) (order i v);
      }
    where
      roomy : Roomy n m
      roomy = roomy-kept d.within r

      key-old : (v : ℕ) → v < i → key_at keyed v ≡ x
      key-old v h = long-put-node 0 m i x refl v (λ e. omega arith) ∙ d.keys v h

      key-new : (v : ℕ) → v ≡ i → key_at keyed v ≡ x
      key-new v e = rw e (long-put 0 m i x refl (room_at roomy i used) fits)

      winner-old : (v : ℕ) → v < i → winner_at p v ≡ v
      winner-old v h =
          rw put (word-put-node 8 keyed i i refl v (λ e. omega arith)) ∙ within-word_at by_key 8 v refl refl ∙ d.winners v h

      winner-new : (v : ℕ) → v ≡ i → winner_at p v ≡ v
      winner-new v e = rw (put, e) (word-put 8 keyed i i refl (room_at (roomy-kept by_key roomy) i used) (omega (arith, r.few)))

pub filled-all : (n i : ℕ) (l : List ℕ) (x : ℕ) (m : List ℕ) → i ≡ n → FilledTo i l x m → Filled n l x m
filled-all n i l x m e d =
    record {
      within = d.within;
      keys = keys;
      tree = record { joins = λ k i u. rw (d.winners ((2 * i + 1) * side k) (omega (arith, u, e))) (alone k i u) };
    }
  where
    keys : (v : ℕ) → v < n → key_at m v ≡ x
    keys v h = d.keys v (omega arith)

    alone : (k i : ℕ) → (2 * i + 1) * side k < n → First (NotAfter m) n (2 * i * side k) ((2 * i + 2) * side k) ((2 * i + 1) * side k)
    alone k i u =
        record {
          low = omega arith;
          high = omega (arith, side-pos k);
          used = u;
          least = λ j a b h. omega (arith, keys ((2 * i + 1) * side k) u, keys j h);
        }
