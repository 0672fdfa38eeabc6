-- The first routes from s to all nodes and from all nodes to t, in the working room.
use Rattle.std.specs.Prelude.{◌≢◌, Bool, false, not, cond, List, [], ℕ, ◌<◌, ltb, eqb, length}
use Rattle.net.specs.Net.{Net}
use Rattle.distances.specs.Deep.{Deep}
use Rattle.distances.specs.Greedy.{Pick}
use Rattle.working_room.specs.Field.{word_at}
use Rattle.reach.specs.declared.Stand.{Stand}
use Rattle.reach.specs.Stand.{dist_in, last_in}

-- Beyond every length of a route.
abbrev pub far : ℕ
far = 1099511627776

-- What the two searches keep: the distance from s in bytes 12 to 19 and the last arc of the route in bytes 20 to 23; the distance to t in bytes 32 to 39 and the
-- first arc of the route in bytes 28 to 31.
abbrev pub forth : Stand
forth = record { dist = 12; last = 20; far = far }

abbrev pub back : Stand
back = record { dist = 32; last = 28; far = far }

-- When a node was entered, in bytes 24 to 27: 4,294,967,295 where it was not.
abbrev pub none : ℕ
none = 4294967295

abbrev pub rank_in : List ℕ → ℕ → ℕ
rank_in l v = word_at 24 l v

abbrev pub seen_in : ℕ → List ℕ → ℕ → Bool
seen_in n l v = cond (ltb v n) (not (eqb (rank_in l v) none)) false

-- The first routes from s, by their last arcs, and in which order they come.
pub record Ranked (net : Net) (s : ℕ) (l : List ℕ) : Type 0 where
  pub many : ℕ
  pub deep : Deep net s (dist_in forth net.nodes l) (seen_in net.nodes l) (last_in forth l) (rank_in l) many [] (length net.arcs)

-- The first routes to t, by their first arcs.
pub record Picked (net : Net) (t : ℕ) (l : List ℕ) : Type 0 where
  pub each : (v : ℕ) → v < net.nodes → v ≢ t → dist_in back net.nodes l v < far → Pick net (dist_in back net.nodes l) v (last_in back l v)
