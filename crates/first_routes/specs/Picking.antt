-- The first arcs to t picked node by node, while the distances to t stay.
use Rattle.std.specs.Prelude.{◌≡◌, ◌≢◌, List, ℕ, ◌<◌}
use Rattle.net.specs.Net.{Net}
use Rattle.distances.specs.Greedy.{Nearer, Pick}
use Rattle.working_room.specs.Field.{Within}
use Rattle.reach.specs.Stand.{dist_in, last_in}
use Rattle.first_routes.specs.Firsts.{far, back}

-- From each node that reaches t there is an arc to go on by.
pub record GoesOn (net : Net) (t : ℕ) (l : List ℕ) : Type 0 where
  pub on : (v : ℕ) → dist_in back net.nodes l v < far → v ≢ t → (a : ℕ) × Nearer net (dist_in back net.nodes l) v a

-- The nodes below n have their first arcs.
pub record PickedTo (net : Net) (t : ℕ) (l : List ℕ) (n : ℕ) : Type 0 where
  pub each : (v : ℕ) → v < n → v ≢ t → dist_in back net.nodes l v < far → Pick net (dist_in back net.nodes l) v (last_in back l v)

-- Node v has its first arc, and nothing else has changed.
pub record Chosen (net : Net) (t v : ℕ) (l m : List ℕ) : Type 0 where
  pub within : Within 28 4 l m
  pub own : v ≢ t → dist_in back net.nodes l v < far → Pick net (dist_in back net.nodes l) v (last_in back m v)
  pub others : (w : ℕ) → w ≢ v → last_in back m w ≡ last_in back l w
