-- Routes in their slots, as a query leaves them.
use Rattle.std.specs.Prelude.{◌≡◌, List, ℕ, ◌*◌, ◌≤◌, ◌<◌, eqb, length, get_or, take}
use Rattle.lists.specs.Index.{first_at}
use Rattle.words.specs.Part.{slot}
use Rattle.net.specs.Route.{length_of}
use Rattle.net.specs.Limits.{most_nodes, most_length, most_routes}
use Rattle.table.specs.Table.{records, arcs_of}
use Rattle.summary.specs.declared.Sums.{Sums}
use Rattle.search_ask.specs.declared.Ask.{Ask}
use Rattle.search_ask.specs.Ask.{Accepted, width}
use Rattle.search_ask.specs.Earlier.{route_in}

-- The route of slot j.
abbrev pub route_at : Ask → List ℕ → ℕ → List ℕ
route_at ask area j = route_in (slot (width ask) j area)

-- Numbers of arcs of the table.
abbrev pub Arcs : List ℕ → List ℕ → Type 0
Arcs table p = (m : ℕ) → m < length p → get_or p m 0 < records table

-- n routes stand in their slots, arc numbers first; `lens` has their lengths, and `counts` their numbers of arcs.
pub record Routes (ask : Ask) (table area lens counts : List ℕ) (n : ℕ) : Type 0 where
  pub accepted : Accepted ask table
  pub few : n ≤ most_routes
  pub slots : n * width ask ≤ length area
  pub lens-enough : n ≤ length lens
  pub counts-enough : n ≤ length counts
  pub fits : (j : ℕ) → j < n → get_or counts j 0 ≤ width ask
  pub front : (j : ℕ) → j < n → take (get_or counts j 0) (slot (width ask) j area) ≡ route_at ask area j
  pub arcs : (j : ℕ) → j < n → Arcs table (route_at ask area j)
  pub lengths : (j : ℕ) → j < n → get_or lens j 0 ≡ length_of (arcs_of table) (route_at ask area j)
  pub positive : (j : ℕ) → j < n → 1 ≤ get_or lens j 0
  pub most : (j : ℕ) → j < n → get_or lens j 0 ≤ most_nodes * most_length

-- How many of n rounds have an answer: those before the first whose answer has no arcs.
unfoldable pub answered_in : List ℕ → ℕ → ℕ
unfolding first_at
answered_in counts n = first_at (λ j. eqb (get_or counts j 0) 0) n 0

-- The rounds of a query that was not refused: the answers stand in their slots, and the summaries are theirs.
pub record Answered (ask : Ask) (table area : List ℕ) (sums : Sums) (n : ℕ) : Type 0 where
  pub few : n ≤ most_routes
  pub routes : Routes ask table area sums.length sums.arcs (answered_in sums.arcs n)
