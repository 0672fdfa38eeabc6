-- A queue of nodes by key, in the working room: the key in bytes 0 to 7 of a node's record, a winner of the tree over the nodes in bytes 8 to 11.
use Rattle.std.specs.Prelude.{◌≡◌, ◌≢◌, List, ℕ, ◌*◌, ◌≤◌, ◌<◌, length}
use Rattle.net.specs.Limits.{most_nodes}
use Rattle.search_tree.specs.Tree.{First, Tree}
use Rattle.working_room.specs.Field.{room_bytes, long_at, word_at, Within}

abbrev pub key_at : List ℕ → ℕ → ℕ
key_at l v = long_at 0 l v

abbrev pub winner_at : List ℕ → ℕ → ℕ
winner_at l v = word_at 8 l v

-- Node v does not come after node w.
abbrev pub NotAfter : List ℕ → ℕ → ℕ → Type 0
NotAfter l v w = key_at l v ≤ key_at l w

-- The room has a record for each of n nodes.
pub record Roomy (n : ℕ) (l : List ℕ) : Type 0 where
  pub few : n ≤ most_nodes
  pub enough : n * room_bytes ≤ length l

-- The tree over n nodes is right, and node w has the least key of all.
pub record Queue (n : ℕ) (l : List ℕ) (w : ℕ) : Type 0 where
  pub roomy : Roomy n l
  pub tree : Tree (NotAfter l) (winner_at l) n
  pub root : First (NotAfter l) n 0 n w

-- The key of node v is x now; no other key, and nothing but keys and winners, has changed.
pub record KeySet (n : ℕ) (l : List ℕ) (v x : ℕ) (l' : List ℕ) (root : ℕ) : Type 0 where
  pub within : Within 0 12 l l'
  pub own : key_at l' v ≡ x
  pub others : (w : ℕ) → w < n → w ≢ v → key_at l' w ≡ key_at l w
  pub queue : Queue n l' root

-- Every key is x now; nothing but keys and winners has changed.
pub record Filled (n : ℕ) (l : List ℕ) (x : ℕ) (l' : List ℕ) : Type 0 where
  pub within : Within 0 12 l l'
  pub keys : (v : ℕ) → v < n → key_at l' v ≡ x
  pub tree : Tree (NotAfter l') (winner_at l') n
