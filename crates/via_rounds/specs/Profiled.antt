-- What the profile of a query leaves.
use Rattle.std.specs.Prelude.{◌≡◌, false, List, map, ℕ, ◌*◌, ◌≤◌, length, replicate}
use Rattle.net.specs.Limits.{most_routes}
use Rattle.net.specs.Round.{Query}
use Rattle.net.specs.Outcome.{told, answers, summaries}
use Rattle.summary.specs.Sums.{firsts}
use Rattle.search_ask.specs.declared.Ask.{Ask}
use Rattle.search_ask.specs.Ask.{Accepted, width}
use Rattle.second.specs.Second.{wrong_second}
use Rattle.node_queue.specs.Queue.{Roomy}
use Rattle.via.specs.Via.{via_rounds}
use Rattle.query_rounds.specs.Area.{area_with}
use Rattle.query_rounds.specs.Progress.{as_record}
use Rattle.query_rounds.specs.declared.Got.{Got}

-- What the profile asks: an accepted ask, a right second table, slots for the wanted routes, and working room.
pub record Profiling (ask : Ask) (table second : List ℕ) (k : ℕ) (area room : List ℕ) : Type 0 where
  pub accepted : Accepted ask table
  pub right : wrong_second ask.nodes table second ≡ false
  pub some-routes : 1 ≤ k
  pub few : k ≤ most_routes
  pub slots : k * width ask ≤ length area
  pub roomy : Roomy ask.nodes room

-- The profile of k routes, over an area and a room that were so: what is told, the routes in their slots of w words, the summaries of all k, and an empty room.
pub record Profiled (q : Query) (w k : ℕ) (area₀ room₀ : List ℕ) (g : Got) (area' room' : List ℕ) : Type 0 where
  pub told : g.told ≡ told 1 (via_rounds q k)
  pub area : area' ≡ area_with w k area₀ (answers (via_rounds q k))
  pub all : g.n ≡ k
  pub sums : firsts g.sums k ≡ map as_record (summaries q k (via_rounds q k))
  pub room : room' ≡ replicate (length room₀) 0
