-- The distances to go in the working room.
use Rattle.std.specs.Prelude.{◌≡◌, ◌≢◌, ◌⊎◌, true, cond, List, ℕ, ◌+◌, ◌*◌, ◌≤◌, ◌<◌, ltb, length}
use Rattle.table.specs.Table.{from_at, to_at, len_at, is_open_at}
use Rattle.working_room.specs.Field.{room_bytes, long_at, put_long, Within}
use Rattle.net.specs.Net.{Net}
use Rattle.variety.specs.Deeper.{ToGo}
use Rattle.remaining.specs.Going.{Going, total}

-- What stands for no way to go: above every route's length, and every sum of it and an arc's length fits.
abbrev pub far : ℕ
far = 1099511627776

-- Offset 8 of a node's record has its distance.
abbrev pub field : ℕ
field = 8

-- Each of n nodes has its record.
abbrev pub Roomy : ℕ → List ℕ → Type 0
Roomy n l = n * room_bytes ≤ length l

-- The distance of node v, of n. A number past the nodes has none.
abbrev pub go_in : ℕ → List ℕ → ℕ → ℕ
go_in n l v = cond (ltb v n) (long_at field l v) far

abbrev pub sum_in : ℕ → List ℕ → ℕ
sum_in n l = total n (long_at field l)

-- The first n nodes are far.
pub record Cleared (n : ℕ) (l m : List ℕ) : Type 0 where
  pub within : Within field 8 l m
  pub fars : (v : ℕ) → v < n → long_at field m v ≡ far

-- The goal is at 0, and every other node is far.
pub record Begun (n goal : ℕ) (l m : List ℕ) : Type 0 where
  pub within : Within field 8 l m
  pub at-goal : long_at field m goal ≡ 0
  pub fars : (v : ℕ) → v < n → v ≢ goal → long_at field m v ≡ far

-- Arc a, looked at: r is 1 where it lowered the node that it leaves, and else 0.
abbrev pub Looked : List ℕ → List ℕ → ℕ → List ℕ → List ℕ → ℕ → Type 0
Looked t closed a l m r =
    ((r ≡ 0) × (m ≡ l) × (is_open_at closed a ≡ true → long_at field l (from_at t a) ≤ long_at field l (to_at t a) + len_at t a))
    ⊎ ((r ≡ 1) × (is_open_at closed a ≡ true) × (long_at field l (to_at t a) + len_at t a < long_at field l (from_at t a))
    × (m ≡ put_long field l (from_at t a) (long_at field l (to_at t a) + len_at t a)))

-- The arcs below a were looked at: none lowered a node, or some did and the sum has fallen.
pub record Passed (net : Net) (t closed : List ℕ) (goal a : ℕ) (l m : List ℕ) (r : ℕ) : Type 0 where
  pub within : Within field 8 l m
  pub going : Going net goal far (go_in net.nodes m)
  pub few : r ≤ a
  pub outcome : ((r ≡ 0) × (m ≡ l) × ((b : ℕ) → b < a → is_open_at closed b ≡ true → long_at field l (from_at t b) ≤ long_at field l (to_at t b) + len_at t b))
      ⊎ ((0 < r) × (sum_in net.nodes m < sum_in net.nodes l))

-- What is left in the end.
pub record Settled (net : Net) (goal : ℕ) (l m : List ℕ) : Type 0 where
  pub within : Within field 8 l m
  pub going : Going net goal far (go_in net.nodes m)
  pub to-go : ToGo net goal (go_in net.nodes m)
