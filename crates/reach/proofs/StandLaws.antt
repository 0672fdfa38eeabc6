-- A search's fields in the working room: the queue's bytes, the distance and the last arc lie apart, so a change to the one leaves the others.
use mathlib.Core.Path.{◌≡◌, refl, sym, subst, fun_ext, ◌∙◌}
use mathlib.Core.Logic.{◌≢◌, ◌⊎◌, inl, inr, ⊎_elim}
use mathlib.Core.Bool.{Bool, true, false, ◌||◌}
use mathlib.Core.List.{List}
use Prim.Native.Nat.{ℕ, ◌+◌, ◌*◌, ◌^◌, ◌≤◌, ◌<◌}
use native.Mathlib.Omega.{arith}
use native.Mathlib.Decide.{ℕ_discrete}
use lib.Dec.{leb}
use lib.ListN.{length}
use borrow.Author.Tests.{le-leb}
use Rattle.search_tree.specs.Tree.{Tree}
use Rattle.working_room.specs.Field.{room_bytes, long_at, put_long, put_word, Within}
use Rattle.working_room.proofs.RoomLaws.{long-put, long-put-node, within-long, word-put, word-put-node, within_word, within_same, within-trans}
use Rattle.node_queue.specs.Queue.{key_at, winner_at, NotAfter, Roomy, KeySet, Filled}
use Rattle.reach.specs.declared.Stand.{Stand}
use Rattle.reach.specs.Stand.{Stands, last_in, Elsewhere}
use Rattle.reach.specs.Steps.{Cleared, Begun, Lowered}

or_right : (a b : Bool) → b ≡ true → (a || b) ≡ true
or_right true b h = refl
or_right false b h = h

-- two fields apart, as the test that computes
apart-i : (o k p j : ℕ) → (p + j ≤ o) ⊎ (o + k ≤ p) → (leb (p + j) o || leb (o + k) p) ≡ true
apart-i o k p j (inl h) = rw (le-leb (p + j) o h)
apart-i o k p j (inr h) = or_right (leb (p + j) o) (leb (o + k) p) (le-leb (o + k) p h)

-- ---- nothing but the queue's bytes and the two fields

module _ (x : Stand) where
  pub else_same : (l : List ℕ) → Elsewhere x l l
  else_same l = record { long = refl; field = λ j v p a b f g. refl }

  pub else-trans : {l m r : List ℕ} → Elsewhere x l m → Elsewhere x m r → Elsewhere x l r
  else-trans e f = record { long = f.long ∙ e.long; field = λ j v p a b g h. f.field j v p a b g h ∙ e.field j v p a b g h }

  module _ {l m : List ℕ} where
    pub else-queue : Within 0 12 l m → Elsewhere x l m
    else-queue w = record { long = w.long; field = λ j v p a b f g. w.field j v p (apart-i 0 12 p j (inr (omega arith))) (le-leb (p + j) room_bytes b) }

    else-dist : Within x.dist 8 l m → Elsewhere x l m
    else-dist w = record { long = w.long; field = λ j v p a b f g. w.field j v p (apart-i x.dist 8 p j f) (le-leb (p + j) room_bytes b) }

    else-last : Within x.last 4 l m → Elsewhere x l m
    else-last w = record { long = w.long; field = λ j v p a b f g. w.field j v p (apart-i x.last 4 p j g) (le-leb (p + j) room_bytes b) }

-- ---- a change to the one field leaves the others

module _ (x : Stand) (z : Stands x) {l m : List ℕ} where
  module _ (w : Within 0 12 l m) (v : ℕ) where
    pub queue-dist : long_at x.dist m v ≡ long_at x.dist l v
    queue-dist = w.field 8 v x.dist (apart-i 0 12 x.dist 8 (inr (omega (arith, z.dist-after)))) (le-leb (x.dist + 8) room_bytes z.dist-in)

    pub queue-last : last_in x m v ≡ last_in x l v
    queue-last = w.field 4 v x.last (apart-i 0 12 x.last 4 (inr (omega (arith, z.last-after)))) (le-leb (x.last + 4) room_bytes z.last-in)

  module _ (w : Within x.dist 8 l m) (v : ℕ) where
    dist-key : key_at m v ≡ key_at l v
    dist-key = w.field 8 v 0 (apart-i x.dist 8 0 8 (inl (omega (arith, z.dist-after)))) (le-leb 8 room_bytes (omega arith))

    dist-winner : winner_at m v ≡ winner_at l v
    dist-winner = w.field 4 v 8 (apart-i x.dist 8 8 4 (inl (omega (arith, z.dist-after)))) (le-leb 12 room_bytes (omega arith))

    dist-last : last_in x m v ≡ last_in x l v
    dist-last = w.field 4 v x.last (apart-i x.dist 8 x.last 4 (⊎_elim (λ h. inr h) (λ h. inl h) z.apart)) (le-leb (x.last + 4) room_bytes z.last-in)

  module _ (w : Within x.last 4 l m) (v : ℕ) where
    last-key : key_at m v ≡ key_at l v
    last-key = w.field 8 v 0 (apart-i x.last 4 0 8 (inl (omega (arith, z.last-after)))) (le-leb 8 room_bytes (omega arith))

    last-winner : winner_at m v ≡ winner_at l v
    last-winner = w.field 4 v 8 (apart-i x.last 4 8 4 (inl (omega (arith, z.last-after)))) (le-leb 12 room_bytes (omega arith))

    last-dist : long_at x.dist m v ≡ long_at x.dist l v
    last-dist = w.field 8 v x.dist (apart-i x.last 4 x.dist 8 z.apart) (le-leb (x.dist + 8) room_bytes z.dist-in)

-- the tree stands by keys and winners alone
tree-same : (n : ℕ) (l m : List ℕ) → ((v : ℕ) → key_at m v ≡ key_at l v) → ((v : ℕ) → winner_at m v ≡ winner_at l v) → Tree (NotAfter l) (winner_at l) n → Tree (NotAfter m) (winner_at m) n
tree-same n l m keys winners t =
    subst (λ (w : ℕ → ℕ). Tree (NotAfter m) w n) (sym (fun_ext winners))
    (subst (λ (k : ℕ → ℕ). Tree (λ v w. k v ≤ k w) (winner_at l) n) (sym (fun_ext keys)) t)

module _ (n : ℕ) {l m : List ℕ} where
  pub roomy-same : length m ≡ length l → Roomy n l → Roomy n m
  roomy-same e r = record { few = r.few; enough = omega (arith, r.enough, e) }

-- a node's record lies in the room
pub record-in : (n : ℕ) (l : List ℕ) (v : ℕ) → Roomy n l → v < n → v * room_bytes + room_bytes ≤ length l
record-in n l v r h = omega (arith, r.enough)

-- ---- all nodes far

pub clear_none : (dist far : ℕ) (l : List ℕ) → Cleared dist far 0 l l
clear_none dist far l = record { within = within_same dist 8 l; dists = λ v h. absurd (omega arith) }

module _ (dist far n i : ℕ) (l m : List ℕ) (inside : dist + 8 ≤ room_bytes) (few : far ≤ 4611686018427387904) (k : Roomy n l) (h : i < n) (c : Cleared dist far i l m) where
  pub clear-record : i * room_bytes + room_bytes ≤ length m
  clear-record = record-in n m i (roomy-same n c.within.long k) h

  pub clear-more : (r : List ℕ) → r ≡ put_long dist m i far → Cleared dist far (i + 1) l r
  clear-more r e =
      rw e (record {
        within = within-trans c.within (within-long dist m i far (le-leb (dist + 8) room_bytes inside));
        dists = λ v g. go v g (ℕ_discrete v i);
      })
    where
      go : (v : ℕ) → v < i + 1 → Dec (v ≡ i) → long_at dist (put_long dist m i far) v ≡ far
      go v g (yes y) = subst (λ y. long_at dist (put_long dist m i far) y ≡ far) (sym y) (long-put dist m i far (le-leb (dist + 8) room_bytes inside) clear-record (omega arith))
      go v g (no ne) = long-put-node dist m i far (le-leb (dist + 8) room_bytes inside) v ne ∙ c.dists v (omega arith)

module _ (x : Stand) (z : Stands x) (n : ℕ) where
  dist-inside : leb (x.dist + 8) room_bytes ≡ true
  dist-inside = le-leb (x.dist + 8) room_bytes z.dist-in

  last-inside : leb (x.last + 4) room_bytes ≡ true
  last-inside = le-leb (x.last + 4) room_bytes z.last-in

  -- ---- the start: all far, filled, node s at 0, its key 0

  module _ (l l₁ l₂ l₃ : List ℕ) (s : ℕ) (c : Cleared x.dist x.far n l l₁) (f : Filled n l₁ x.far l₂) (e : l₃ ≡ put_long x.dist l₂ s 0) where
    s-within : Within x.dist 8 l₂ l₃
    s-within = rw e (within-long x.dist l₂ s 0 dist-inside)

    pub begin-roomy : Roomy n l → Roomy n l₃
    begin-roomy r = roomy-same n (s-within.long ∙ f.within.long ∙ c.within.long) r

    pub begin-tree : Tree (NotAfter l₃) (winner_at l₃) n
    begin-tree = tree-same n l₂ l₃ (dist-key x z s-within) (dist-winner x z s-within) f.tree

    pub begun : Roomy n l → s < n → (m : List ℕ) (root : ℕ) → KeySet n l₃ s 0 m root → Begun x n s l m root
    begun r h m root k =
        record {
          elsewhere = else-trans x (else-trans x (else-trans x (else-dist x c.within) (else-queue x f.within)) (else-dist x s-within)) (else-queue x k.within);
          queue = k.queue;
          key-new = k.own;
          dist-new = queue-dist x z k.within s ∙ new;
          keys = λ v g ne. k.others v g ne ∙ dist-key x z s-within v ∙ f.keys v g;
          dists = λ v g ne. queue-dist x z k.within v ∙ other v ne ∙ queue-dist x z f.within v ∙ c.dists v g;
        }
      where
        new : long_at x.dist l₃ s ≡ 0
        new = rw e (long-put x.dist l₂ s 0 dist-inside (record-in n l₂ s (roomy-same n (f.within.long ∙ c.within.long) r) h) (omega arith))

        other : (v : ℕ) → v ≢ s → long_at x.dist l₃ v ≡ long_at x.dist l₂ v
        other v ne = rw e (long-put-node x.dist l₂ s 0 dist-inside v ne)

  -- ---- node w lowered to d by arc a

  module _ (l l₁ l₂ : List ℕ) (w a d : ℕ) (e : l₁ ≡ put_long x.dist l w d) (g : l₂ ≡ put_word x.last l₁ w a) where
    d-within : Within x.dist 8 l l₁
    d-within = rw e (within-long x.dist l w d dist-inside)

    a-within : Within x.last 4 l₁ l₂
    a-within = rw g (within_word x.last l₁ w a last-inside)

    pub lower-roomy : Roomy n l → Roomy n l₂
    lower-roomy r = roomy-same n (a-within.long ∙ d-within.long) r

    pub lower-tree : Tree (NotAfter l) (winner_at l) n → Tree (NotAfter l₂) (winner_at l₂) n
    lower-tree t =
        tree-same n l₁ l₂ (last-key x z a-within) (last-winner x z a-within)
        (tree-same n l l₁ (dist-key x z d-within) (dist-winner x z d-within) t)

    pub lowered : Roomy n l → w < n → a < 2 ^ 32 → d < 2 ^ 64 → (m : List ℕ) (root : ℕ) → KeySet n l₂ w d m root → Lowered x n l w a d m root
    lowered r h fa fd m root k =
        record {
          elsewhere = else-trans x (else-trans x (else-dist x d-within) (else-last x a-within)) (else-queue x k.within);
          queue = k.queue;
          key-new = k.own;
          dist-new = queue-dist x z k.within w ∙ last-dist x z a-within w ∙ dist-new;
          last-new = queue-last x z k.within w ∙ last-new;
          keys = λ v i ne. k.others v i ne ∙ last-key x z a-within v ∙ dist-key x z d-within v;
          dists = λ v ne. queue-dist x z k.within v ∙ last-dist x z a-within v ∙ dist-old v ne;
          lasts = λ v ne. queue-last x z k.within v ∙ last-old v ne ∙ dist-last x z d-within v;
        }
      where
        dist-new : long_at x.dist l₁ w ≡ d
        dist-new = rw e (long-put x.dist l w d dist-inside (record-in n l w r h) fd)

        dist-old : (v : ℕ) → v ≢ w → long_at x.dist l₁ v ≡ long_at x.dist l v
        dist-old v ne = rw e (long-put-node x.dist l w d dist-inside v ne)

        last-new : last_in x l₂ w ≡ a
        last-new = rw g (word-put x.last l₁ w a last-inside (record-in n l₁ w (roomy-same n d-within.long r) h) fa)

        last-old : (v : ℕ) → v ≢ w → last_in x l₂ v ≡ last_in x l₁ v
        last-old v ne = rw g (word-put-node x.last l₁ w a last-inside v ne)
