-- How far the marks are, as the room is.
use Rattle.std.specs.Prelude.{◌≡◌, List, ℕ, ◌<◌}
use Rattle.net.specs.Net.{Net}
use Rattle.node_queue.specs.Queue.{Roomy}
use Rattle.reach.specs.Stand.{dist_in, last_in}
use Rattle.working_room.specs.Field.{word_at, Within}
use Rattle.pair.specs.Walked.{Shortest, Both, Marking, Undoing}
use Rattle.pair_room.specs.Room.{again, none, kept_in, added_in}
use Rattle.pair_room.specs.Stages.{dist_of, last_of, Reached}

-- The nodes before v have no mark, and nothing but marks has changed.
pub record Blank (l m : List ℕ) (v : ℕ) : Type 0 where
  pub within : Within 36 8 l m
  pub kept : (u : ℕ) → u < v → word_at 36 m u ≡ none
  pub added : (u : ℕ) → u < v → word_at 40 m u ≡ none

-- The way back from t along the first search's route has come to v, over k arcs, and these are marked.
pub record Traced (net : Net) (s t : ℕ) (l : List ℕ) (v k : ℕ) : Type 0 where
  pub P : List ℕ
  pub roomy : Roomy net.nodes l
  pub below : v < net.nodes
  pub reached : Reached net s l
  pub short : Shortest net s t (dist_of net l) (last_of l) P
  pub marking : Marking net s none P v k (kept_in net.nodes l)
  pub blank : (u : ℕ) → added_in net.nodes l u ≡ none

-- The way back from t along the second search's route has come to v, over k arcs: of the first route these have lost their marks, the others have theirs.
pub record Undone (net : Net) (s t : ℕ) (l : List ℕ) (v k : ℕ) : Type 0 where
  pub P : List ℕ
  pub R : List ℕ
  pub roomy : Roomy net.nodes l
  pub below : v < net.nodes
  pub both : Both net s t (dist_of net l) (last_of l) P (dist_in again net.nodes l) (last_in again l) R
  pub undoing : Undoing net s none (dist_of net l) P R v k (kept_in net.nodes l) (added_in net.nodes l)
