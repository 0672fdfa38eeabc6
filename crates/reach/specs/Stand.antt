-- Where a search keeps what it knows of a node, in the node's record of the working room.
use Rattle.std.specs.Prelude.{◌≡◌, ◌⊎◌, Bool, cond, List, ℕ, ◌+◌, ◌*◌, ◌≤◌, ◌<◌, ltb, length}
use Rattle.words.specs.Number.{num}
use Rattle.working_room.specs.Field.{room_bytes, long_at, word_at}
use Rattle.node_queue.specs.Queue.{key_at}
use Rattle.reach.specs.declared.Stand.{Stand}

-- Bytes 0 to 11 are the queue's; the two fields lie behind them and apart, and `far` leaves room for one arc more.
pub record Stands (x : Stand) : Type 0 where
  pub dist-after : 12 ≤ x.dist
  pub dist-in : x.dist + 8 ≤ room_bytes
  pub last-after : 12 ≤ x.last
  pub last-in : x.last + 4 ≤ room_bytes
  pub apart : (x.dist + 8 ≤ x.last) ⊎ (x.last + 4 ≤ x.dist)
  pub some-way : 0 < x.far
  pub far-most : x.far ≤ 4611686018427387904

-- They lie before the notes of where runs start.
pub record BeforeNotes (x : Stand) : Type 0 where
  pub dist : x.dist + 8 ≤ 56
  pub last : x.last + 4 ≤ 56

-- The distance of node v, of n, and the key by which it stands in the queue. A number past the nodes is not reached.
abbrev pub dist_in : Stand → ℕ → List ℕ → ℕ → ℕ
dist_in x n l v = cond (ltb v n) (long_at x.dist l v) x.far

abbrev pub key_in : Stand → ℕ → List ℕ → ℕ → ℕ
key_in x n l v = cond (ltb v n) (key_at l v) x.far

-- A node is done when its key is above its distance.
abbrev pub done_in : Stand → ℕ → List ℕ → ℕ → Bool
done_in x n l v = ltb (dist_in x n l v) (key_in x n l v)

-- The last arc of the chain known to v.
abbrev pub last_in : Stand → List ℕ → ℕ → ℕ
last_in x l v = word_at x.last l v

-- Nothing but the queue's bytes and the two fields has changed.
pub record Elsewhere (x : Stand) (l m : List ℕ) : Type 0 where
  pub long : length m ≡ length l
  -- j bytes at offset p of node v
  pub field : (j v p : ℕ) → 12 ≤ p → p + j ≤ room_bytes → (p + j ≤ x.dist) ⊎ (x.dist + 8 ≤ p) → (p + j ≤ x.last) ⊎ (x.last + 4 ≤ p)
      → num j m (v * room_bytes + p) ≡ num j l (v * room_bytes + p)
