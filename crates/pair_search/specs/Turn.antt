-- The second search between two nodes and within a node's turn: the first search's distances and the marks stand as they stood, and the search goes through the
-- residual net that they tell.
use Rattle.std.specs.Prelude.{◌≡◌, ◌≢◌, ◌⊎◌, true, false, List, ℕ, ◌+◌, ◌-◌}
use Rattle.net.specs.Net.{Net}
use Rattle.table.specs.Table.{to_at, len_at, is_open_at}
use Rattle.distances.specs.Turned.{residual}
use Rattle.working_room.specs.Field.{word_at, long_at}
use Rattle.reach.specs.Steps.{Looked}
use Rattle.reach.specs.Turn.{Ready, Turning, Over}
use Rattle.pair_room.specs.Room.{again}
use Rattle.pair_room.specs.Stages.{dist_of, Marked}

-- Arc a of node u, at distance d: nothing has changed where it is closed or u's mark, and else it is looked at, at its detour.
abbrev pub Passed : List ℕ → List ℕ → ℕ → List ℕ → ℕ → ℕ → ℕ → ℕ → List ℕ → ℕ → Type 0
Passed t closed n l root u d a m r =
    (((is_open_at closed a ≡ false) ⊎ (word_at 36 l u ≡ a)) × (m ≡ l) × (r ≡ root))
    ⊎ ((is_open_at closed a ≡ true) × (word_at 36 l u ≢ a) × Looked again n l root (to_at t a) a (d + (len_at t a + long_at 12 l u - long_at 12 l (to_at t a))) m r)

-- Between two nodes: node `root` comes first.
pub record Between (net : Net) (s t : ℕ) (l : List ℕ) (root : ℕ) : Type 0 where
  pub marked : Marked net s t l
  pub ready : Ready (residual net (dist_of net l) marked.P) s again l root

-- In the turn of node u at distance d, which began when the room was l.
pub record At (net : Net) (s t : ℕ) (l m : List ℕ) (root u d : ℕ) (Pending : ℕ → Type 0) : Type 0 where
  pub marked : Marked net s t m
  pub turning : Turning (residual net (dist_of net m) marked.P) s again l m root u d Pending

-- It is over.
pub record Left (net : Net) (s t : ℕ) (l m : List ℕ) (root u : ℕ) : Type 0 where
  pub marked : Marked net s t m
  pub over : Over (residual net (dist_of net m) marked.P) s again l m root u
