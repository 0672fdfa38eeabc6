-- The list in its slots.
use Rattle.std.specs.Prelude.{◌≡◌, ◌≢◌, Option, None, Some, List, ℕ, ◌-◌, ◌*◌, ◌≤◌, ◌<◌, length, drop}
use Rattle.table.specs.Fault.{table_fault, good}
use Rattle.search_ask.specs.Earlier.{earlier_in}
use Rattle.remaining.specs.Standing.{Roomy}
use Rattle.route_list.specs.Listed.{Listed}
use Rattle.net.specs.Limits.{most_d}

-- What the listing asks.
pub record Asks (t : List ℕ) (nodes s goal c d : ℕ) (path room : List ℕ) : Type 0 where
  pub fine : table_fault nodes t ≡ good
  pub s-below : s < nodes
  pub goal-below : goal < nodes
  pub apart : s ≢ goal
  pub d-most : d ≤ most_d
  pub c-most : c ≤ d
  pub path-long : length path ≡ nodes - 1
  pub roomy : Roomy nodes room

-- The routes rs stand in the first slots of w words, and "slots of the list past the routes listed are untouched"; or they are more than the slots.
abbrev pub Lists : List ℕ → ℕ → ℕ → List (List ℕ) → List ℕ → List ℕ → Option ℕ → Type 0
Lists t w slots rs l m (Some r) = (r ≤ slots) × Listed t w r m × (earlier_in w r m ≡ rs) × (drop (r * w) m ≡ drop (r * w) l)
Lists t w slots rs l m None = slots < length rs
