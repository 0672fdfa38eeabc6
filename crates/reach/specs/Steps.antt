-- What a step of a search does to the working room, whatever the net.
use Rattle.std.specs.Prelude.{◌≡◌, ◌≢◌, ◌⊎◌, List, true, false, ℕ, ◌≤◌, ◌<◌}
use Rattle.table.specs.Table.{is_open_at}
use Rattle.working_room.specs.Field.{long_at, Within}
use Rattle.node_queue.specs.Queue.{key_at, Queue}
use Rattle.reach.specs.declared.Stand.{Stand}
use Rattle.reach.specs.Stand.{last_in, Elsewhere}

-- The numbers at offset `dist` of n nodes are `far`.
pub record Cleared (dist far n : ℕ) (l m : List ℕ) : Type 0 where
  pub within : Within dist 8 l m
  pub dists : (v : ℕ) → v < n → long_at dist m v ≡ far

-- Node s has distance 0 and every other is far; no node is done.
pub record Begun (x : Stand) (n s : ℕ) (l m : List ℕ) (root : ℕ) : Type 0 where
  pub elsewhere : Elsewhere x l m
  pub queue : Queue n m root
  pub key-new : key_at m s ≡ 0
  pub dist-new : long_at x.dist m s ≡ 0
  pub keys : (v : ℕ) → v < n → v ≢ s → key_at m v ≡ x.far
  pub dists : (v : ℕ) → v < n → v ≢ s → long_at x.dist m v ≡ x.far

-- Node w has distance d by arc a now, and key d; the other nodes stand as they stood.
pub record Lowered (x : Stand) (n : ℕ) (l : List ℕ) (w a d : ℕ) (m : List ℕ) (root : ℕ) : Type 0 where
  pub elsewhere : Elsewhere x l m
  pub queue : Queue n m root
  pub key-new : key_at m w ≡ d
  pub dist-new : long_at x.dist m w ≡ d
  pub last-new : last_in x m w ≡ a
  pub keys : (v : ℕ) → v < n → v ≢ w → key_at m v ≡ key_at l v
  pub dists : (v : ℕ) → v ≢ w → long_at x.dist m v ≡ long_at x.dist l v
  pub lasts : (v : ℕ) → v ≢ w → last_in x m v ≡ last_in x l v

-- Arc a brings w to d: nothing has changed where w is no further, and else w is lowered.
abbrev pub Looked : Stand → ℕ → List ℕ → ℕ → ℕ → ℕ → ℕ → List ℕ → ℕ → Type 0
Looked x n l root w a d m r =
    ((long_at x.dist l w ≤ d) × (m ≡ l) × (r ≡ root)) ⊎ ((d < long_at x.dist l w) × Lowered x n l w a d m r)

-- The same where arc a is open; nothing has changed where it is closed.
abbrev pub Passed : List ℕ → Stand → ℕ → List ℕ → ℕ → ℕ → ℕ → ℕ → List ℕ → ℕ → Type 0
Passed closed x n l root w a d m r = ((is_open_at closed a ≡ false) × (m ≡ l) × (r ≡ root)) ⊎ ((is_open_at closed a ≡ true) × Looked x n l root w a d m r)
