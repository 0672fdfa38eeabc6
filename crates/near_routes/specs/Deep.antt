-- The listing in the buffers: the path gone by, the nodes visited, and the list.
use Rattle.std.specs.Prelude.{◌≡◌, Option, None, Some, List, Bool, not, ◌&&◌, ℕ, ◌+◌, ◌-◌, ◌*◌, ◌≤◌, ◌<◌, T, leb, eqb, length, take, drop}
use Rattle.lists.specs.Tests.{has}
use Rattle.net.specs.Route.{visited, end_of, partial, length_of}
use Rattle.table.specs.Table.{to_at, len_at, arcs_of, is_open_at, net_of}
use Rattle.table.specs.Fault.{table_fault, good}
use Rattle.search_ask.specs.Earlier.{earlier_in}
use Rattle.working_room.specs.Field.{long_at, word_at}
use Rattle.remaining.specs.Standing.{far, field, go_in, Roomy}
use Rattle.route_list.specs.Listed.{Listed}
use Rattle.variety.specs.Deeper.{insert_all}
use Rattle.net.specs.Limits.{most_d}
use Rattle.near_routes.specs.declared.Range.{Range}
use Rattle.near_routes.specs.Tries.{Trip, goes_on, left, Fresh, FreshFrom}

-- Offset 16 of a node's record is not 0 where the node is visited.
abbrev pub seen_field : ℕ
seen_field = 16

abbrev pub seen_at : List ℕ → ℕ → ℕ
seen_at l v = word_at seen_field l v

-- A slot's words.
abbrev pub wide : Range → ℕ
wide x = x.nodes - 1

-- The question of a range.
abbrev pub trip_of : Range → List ℕ → List ℕ → List ℕ → Trip
trip_of x t closed room = record { net = net_of x.nodes t closed; s = x.start; t = x.goal; D = go_in x.nodes room; d = x.d; most = x.most }

-- Arc a goes on, by the bytes.
unfoldable pub goes_by : List ℕ → List ℕ → Range → List ℕ → ℕ → ℕ → Bool
goes_by t closed x room a size =
    is_open_at closed a && (eqb (seen_at room (to_at t a)) 0 && leb ((size + len_at t a + long_at field room (to_at t a)) * x.d) x.most)

-- A path of `depth` arcs and this length leads to v, its nodes are marked, and n routes are listed, none of which begins with it.
pub record Deep (x : Range) (t closed list path room : List ℕ) (depth v size n : ℕ) : Type 0 where
  pub fine : table_fault x.nodes t ≡ good
  pub roomy : Roomy x.nodes room
  pub go-most : (u : ℕ) → go_in x.nodes room u ≤ far
  pub s-below : x.start < x.nodes
  pub d-most : x.d ≤ most_d
  pub path-long : length path ≡ wide x
  pub deep : depth ≤ wide x
  pub is-partial : T (partial (net_of x.nodes t closed) x.start (take depth path))
  pub ends : end_of (arcs_of t) x.start (take depth path) ≡ v
  pub is-long : length_of (arcs_of t) (take depth path) ≡ size
  pub seen : (u : ℕ) → u < x.nodes → has u (visited (arcs_of t) x.start (take depth path)) ≡ not (eqb (seen_at room u) 0)
  pub listed : Listed t (wide x) n list
  pub few : n ≤ x.slots
  pub slots : x.slots * wide x ≤ length list
  pub slots-few : x.slots < 4611686018427387904
  pub fresh : Fresh (take depth path) (earlier_in (wide x) n list)

-- The distances and the marks stand as they stood.
pub record Kept (l m : List ℕ) : Type 0 where
  pub long : length m ≡ length l
  pub dists : (v : ℕ) → long_at field m v ≡ long_at field l v
  pub seens : (v : ℕ) → seen_at m v ≡ seen_at l v

-- The routes rs are listed and what stands behind them is as it was in l; or they are more than the slots.
abbrev pub Found : Range → List ℕ → List ℕ → List (List ℕ) → List ℕ → Option ℕ → Type 0
Found x t l rs m (Some r) = (r ≤ x.slots) × Listed t (wide x) r m × (earlier_in (wide x) r m ≡ rs) × (drop (r * wide x) m ≡ drop (r * wide x) l)
Found x t l rs m None = x.slots < length rs

-- What the listing from a path of `depth` arcs leaves.
pub record Went (x : Range) (t closed l p b : List ℕ) (depth n : ℕ) (m q c : List ℕ) (r : Option ℕ) : Type 0 where
  pub list-long : length m ≡ length l
  pub path-long : length q ≡ length p
  pub path : take depth q ≡ take depth p
  pub room : Kept b c
  pub found : Found x t l (insert_all (arcs_of t) (earlier_in (wide x) n l) (goes_on (trip_of x t closed b) (wide x - depth) (take depth p))) m r

-- Between two arcs: those from a to e are left, and what they find makes the whole.
pub record Turning (x : Range) (t closed l p b : List ℕ) (depth n a e : ℕ) (m q c : List ℕ) (r : ℕ) : Type 0 where
  pub list-long : length m ≡ length l
  pub path-long : length q ≡ length p
  pub path : take depth q ≡ take depth p
  pub room : Kept b c
  pub few : r ≤ x.slots
  pub listed : Listed t (wide x) r m
  pub whole : insert_all (arcs_of t) (earlier_in (wide x) r m) (left (trip_of x t closed b) (wide x - depth - 1) (take depth p) a e)
      ≡ insert_all (arcs_of t) (earlier_in (wide x) n l) (goes_on (trip_of x t closed b) (wide x - depth) (take depth p))
  pub behind : drop (r * wide x) m ≡ drop (r * wide x) l
  pub fresh : FreshFrom a (take depth p) (earlier_in (wide x) r m)
