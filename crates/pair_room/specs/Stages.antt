-- The working room of the pair, stage after stage, for routes from s to t over a net.
use Rattle.std.specs.Prelude.{◌≡◌, List, ℕ}
use Rattle.net.specs.Net.{Net}
use Rattle.distances.specs.Search.{Found}
use Rattle.distances.specs.Turned.{residual}
use Rattle.reach.specs.Stand.{dist_in, last_in}
use Rattle.pair.specs.Walked.{Shortest, Both, Marks, On, Kept, Added}
use Rattle.pair_room.specs.Room.{far, further, first, again, none, kept_in, added_in}

-- The first search's distances and last arcs.
abbrev pub dist_of : Net → List ℕ → ℕ → ℕ
dist_of net l = dist_in first net.nodes l

abbrev pub last_of : List ℕ → ℕ → ℕ
last_of l = last_in first l

-- The first search is over.
abbrev pub Reached : Net → ℕ → List ℕ → Type 0
Reached net s l = Found net s far (dist_of net l) (last_of l)

-- Its route to t, P, is marked, and no other mark is set.
pub record Marked (net : Net) (s t : ℕ) (l : List ℕ) : Type 0 where
  pub P : List ℕ
  pub reached : Reached net s l
  pub short : Shortest net s t (dist_of net l) (last_of l) P
  pub marks : Marks net.arcs none (On P) (kept_in net.nodes l)
  pub blank : (v : ℕ) → added_in net.nodes l v ≡ none

-- The second search, through the residual net of P, is over.
pub record Searched (net : Net) (s t : ℕ) (l : List ℕ) : Type 0 where
  pub marked : Marked net s t l
  pub again : Found (residual net (dist_of net l) marked.P) s further (dist_in again net.nodes l) (last_in again l)

-- Its route to t, R, is followed back: the marks are those of the pair.
pub record Settled (net : Net) (s t : ℕ) (l : List ℕ) : Type 0 where
  pub P : List ℕ
  pub R : List ℕ
  pub both : Both net s t (dist_of net l) (last_of l) P (dist_in again net.nodes l) (last_in again l) R
  pub kept : Marks net.arcs none (Kept P R) (kept_in net.nodes l)
  pub added : Marks net.arcs none (Added P R) (added_in net.nodes l)
