-- What the way up the tree asks and gives, level by level.
use Rattle.std.specs.Prelude.{◌≡◌, ◌≢◌, ◌⊎◌, List, ℕ, ◌+◌, ◌*◌, ◌≤◌, ◌<◌}
use Rattle.search_tree.specs.Tree.{side, Joins, Tree}
use Rattle.node_queue.specs.Queue.{key_at, winner_at, NotAfter}

-- u is one of v and w whose key is not greater than the other's.
abbrev pub Chosen : List ℕ → ℕ → ℕ → ℕ → Type 0
Chosen l v w u = ((u ≡ v) × NotAfter l v w) ⊎ ((u ≡ w) × NotAfter l w v)

-- The winners within blocks of `size` nodes are right.
pub record Under (n size : ℕ) (l : List ℕ) : Type 0 where
  pub level : ℕ
  pub sized : size ≡ side level
  pub right : (k i : ℕ) → (2 * i + 1) * side k < n → k < level → Joins (NotAfter l) (winner_at l) n k i

-- By other keys.
abbrev pub By : (ℕ → ℕ) → ℕ → ℕ → Type 0
By key v w = key v ≤ key w

-- Node x's key fell: by the keys before that the tree is right.
pub record Fell (n x : ℕ) (l : List ℕ) : Type 0 where
  pub old : ℕ → ℕ
  pub others : (v : ℕ) → v ≢ x → old v ≡ key_at l v
  pub less : key_at l x ≤ old x
  pub tree : Tree (By old) (winner_at l) n
