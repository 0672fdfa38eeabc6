-- A search that goes on, in the working room.
use Rattle.std.specs.Prelude.{◌≡◌, ◌⊎◌, List, ℕ, ◌<◌}
use Rattle.net.specs.Net.{Net}
use Rattle.distances.specs.Search.{Search}
use Rattle.node_queue.specs.Queue.{key_at, Queue}
use Rattle.reach.specs.declared.Stand.{Stand}
use Rattle.reach.specs.Stand.{Stands, dist_in, done_in, last_in}

-- The search from s over a net, with node `root` first in the queue. A node's key is its distance, or, once it is done, `far`.
pub record Looking (net : Net) (s : ℕ) (x : Stand) (l : List ℕ) (root level : ℕ) (Pending : ℕ → Type 0) : Type 0 where
  pub stands : Stands x
  pub queue : Queue net.nodes l root
  pub search : Search net s x.far (done_in x net.nodes l) (dist_in x net.nodes l) (last_in x l) level Pending
  pub keys : (v : ℕ) → v < net.nodes → (key_at l v ≡ dist_in x net.nodes l v) ⊎ ((key_at l v ≡ x.far) × (dist_in x net.nodes l v < x.far))
