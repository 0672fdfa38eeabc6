-- The two ways from a node, by the working room: against the arcs to s by last arcs (`false`), and along them to the goal by first arcs (`true`). Of each node the
-- overlap of its chain, on either way, with a route `e` is kept once it is known. An overlap depends on no closed arc.
--   number_at, put_number == the overlap kept
--   arc_by, next_by       == the arc by which the way goes on, and the node where it comes to
--   dist_by, end_by       == how far the way is, and where it ends
--   chain_by, total_by    == the chain of the way, and its overlap with e
--   Led, Known          == what the ways are; the overlaps that are kept are right
use Rattle.std.specs.Prelude.{◌≡◌, ◌≢◌, ◌⊎◌, Bool, true, false, cond, List, [], ◌∷◌, ℕ, ◌+◌, ◌≤◌, ◌<◌}
use Rattle.working_room.specs.Field.{long_at, put_long, Within}
use Rattle.net.specs.Route.{overlap, within}
use Rattle.table.specs.Table.{records, from_at, to_at}
use Rattle.search_ask.specs.declared.Ask.{Ask}
use Rattle.search_ask.specs.Ask.{Accepted, net_for}
use Rattle.search_ask.specs.Earlier.{route_in, Formed}
use Rattle.search_driven.specs.Marks.{Filter}
use Rattle.node_queue.specs.Queue.{key_at, Roomy, Queue}
use Rattle.reach.specs.Stand.{dist_in, last_in}
use Rattle.first_routes.specs.Firsts.{far, forth, back}
use Rattle.via_chains.specs.Chains.{to_in, on_in, joined_in, both_in, no_key}
use Rattle.via_drop.specs.Drop.{Beside}

-- What is kept where an overlap is not yet known.
abbrev pub unknown : ℕ
unknown = 18446744073709551615

-- Bytes 40 to 47 for the way to s, bytes 48 to 55 for that to the goal.
unfoldable pub number_at : Bool → List ℕ → ℕ → ℕ
number_at true l v = long_at 48 l v
number_at false l v = long_at 40 l v

unfoldable pub put_number : Bool → List ℕ → ℕ → ℕ → List ℕ
put_number true l v x = put_long 48 l v x
put_number false l v x = put_long 40 l v x

unfoldable pub arc_by : Bool → List ℕ → ℕ → ℕ
arc_by true l v = last_in back l v
arc_by false l v = last_in forth l v

unfoldable pub next_by : Bool → List ℕ → ℕ → ℕ
next_by true t a = to_at t a
next_by false t a = from_at t a

unfoldable pub dist_by : Bool → ℕ → List ℕ → ℕ → ℕ
dist_by true n l v = dist_in back n l v
dist_by false n l v = dist_in forth n l v

unfoldable pub end_by : Bool → Ask → ℕ
end_by true ask = ask.goal
end_by false ask = ask.s

unfoldable pub chain_by : Bool → Ask → List ℕ → List ℕ → ℕ → List ℕ
unfolding to_in on_in
chain_by true ask t l v = on_in (net_for ask t []) ask.goal l v
chain_by false ask t l v = to_in (net_for ask t []) ask.s l v

abbrev pub total_by : Bool → Ask → List ℕ → List ℕ → List ℕ → ℕ → ℕ
total_by on ask t e l v = overlap (net_for ask t []) (chain_by on ask t l v) e

abbrev pub share : Ask → List ℕ → List ℕ → ℕ → ℕ
share ask t e a = overlap (net_for ask t []) (a ∷ []) e

-- One arc on the way from v.
pub record Step (on : Bool) (ask : Ask) (t e l : List ℕ) (v : ℕ) : Type 0 where
  pub arc-below : arc_by on l v < records t
  pub next-below : next_by on t (arc_by on l v) < ask.nodes
  pub nearer : dist_by on ask.nodes l (next_by on t (arc_by on l v)) < dist_by on ask.nodes l v
  pub adds : total_by on ask t e l v ≡ share ask t e (arc_by on l v) + total_by on ask t e l (next_by on t (arc_by on l v))

pub record Led (ask : Ask) (t e l : List ℕ) : Type 0 where
  pub roomy : Roomy ask.nodes l
  pub step : (on : Bool) (v : ℕ) → v < ask.nodes → v ≢ end_by on ask → dist_by on ask.nodes l v < far → Step on ask t e l v
  pub small : (on : Bool) (v : ℕ) → v < ask.nodes → dist_by on ask.nodes l v < far → total_by on ask t e l v < far
  pub none : (on : Bool) → total_by on ask t e l (end_by on ask) ≡ 0

-- What m keeps, of the ways in l.
pub record Known (ask : Ask) (t e l m : List ℕ) : Type 0 where
  pub ends : (on : Bool) → number_at on m (end_by on ask) ≡ 0
  pub right : (on : Bool) (v : ℕ) → v < ask.nodes → dist_by on ask.nodes l v < far → (number_at on m v ≡ unknown) ⊎ (number_at on m v ≡ total_by on ask t e l v)

-- Nothing is known of the first n nodes.
pub record Blank (n : ℕ) (l m : List ℕ) : Type 0 where
  pub within : Within 40 16 l m
  pub all : (on : Bool) (v : ℕ) → v < n → number_at on m v ≡ unknown

-- Nothing is known but where a way ends.
pub record Begun (ask : Ask) (l m : List ℕ) : Type 0 where
  pub within : Within 40 16 l m
  pub ends : (on : Bool) → number_at on m (end_by on ask) ≡ 0
  pub others : (on : Bool) (v : ℕ) → v < ask.nodes → v ≢ end_by on ask → number_at on m v ≡ unknown

-- The slot is of a route that was kept; `marks` is the filter over it.
pub record Dropping (ask : Ask) (t slot marks l : List ℕ) : Type 0 where
  pub accepted : Accepted ask t
  pub filter : Filter t (route_in slot ∷ []) marks
  pub formed : Formed slot
  pub led : Led ask t (route_in slot) l
  pub known : Known ask t (route_in slot) l l

-- The key of node v after the route e was kept.
unfoldable pub key_after : Ask → List ℕ → List ℕ → List ℕ → ℕ → ℕ
unfolding within joined_in
key_after ask t e l v =
    cond (both_in ask.nodes l v) (cond (within (net_for ask t []) ask.a ask.b (joined_in (net_for ask t []) ask.s ask.goal l v) e) (key_at l v) no_key) (key_at l v)

-- Node v has been judged, and no other.
pub record Judged (ask : Ask) (t e l : List ℕ) (v : ℕ) (m : List ℕ) (root : ℕ) : Type 0 where
  pub beside : Beside l m
  pub queue : Queue ask.nodes m root
  pub own : key_at m v ≡ key_after ask t e l v
  pub others : (w : ℕ) → w < ask.nodes → w ≢ v → key_at m w ≡ key_at l w

-- The nodes below i have been judged.
pub record JudgedTo (ask : Ask) (t e l : List ℕ) (i : ℕ) (m : List ℕ) (root : ℕ) : Type 0 where
  pub beside : Beside l m
  pub queue : Queue ask.nodes m root
  pub past : (v : ℕ) → v < i → key_at m v ≡ key_after ask t e l v
  pub ahead : (v : ℕ) → i ≤ v → v < ask.nodes → key_at m v ≡ key_at l v
