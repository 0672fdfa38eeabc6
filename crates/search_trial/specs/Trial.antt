-- A candidate on trial, and the two tests on it by numbers: its overlaps with the earlier answers, their lengths, and what the labels hold.
use Rattle.std.specs.Prelude.{Bool, not, ◌&&◌, List, [], ℕ, ◌+◌, ◌*◌, ◌≤◌, ◌<◌, leb, length, get_or}
use Rattle.lists.specs.Tests.{up_from, every}
use Rattle.net.specs.Limits.{most_nodes, most_length, most_b}
use Rattle.labels.specs.Field.{most_earlier}
use Rattle.labels.specs.Standing.{Holding}
use Rattle.search_ask.specs.declared.Ask.{Ask}
use Rattle.search_ask.specs.Ask.{Searching, Among, net_for, width}
use Rattle.words.specs.Part.{slot}
use Rattle.search_ask.specs.Earlier.{earlier_in, Formed}
use Rattle.search_lists.specs.Listed.{covered_at}
use Rattle.search_trial.specs.declared.Trial.{Trial}

-- The search goes on, its labels hold their overlaps, the candidate is one of its own, and the earlier answers have their slots. Which roads are closed does
-- not show in an overlap.
pub record Trying (ask : Ask) (table area labels : List ℕ) (x : Trial) : Type 0 where
  pub searching : Searching ask table labels x.n
  pub holding : Holding (net_for ask table []) (earlier_in (width ask) x.r area) labels x.n
  pub among : Among table x.n x.c
  pub slots : x.r * width ask ≤ length area
  pub formed : (j : ℕ) → j < x.r → Formed (slot (width ask) j area)

-- The numbers of a test lie within their limits, and there is a length for each overlap.
pub record Measured (ask : Ask) (lens own : List ℕ) : Type 0 where
  pub a-most : ask.a ≤ most_b
  pub b-most : ask.b ≤ most_b
  pub few : length own ≤ most_earlier
  pub enough : length own ≤ length lens
  pub lens-most : (j : ℕ) → j < length own → get_or lens j 0 ≤ most_nodes * most_length
  pub own-most : (j : ℕ) → j < length own → get_or own j 0 ≤ most_nodes * most_length + most_length

-- "within the threshold of every earlier answer"
unfoldable pub within_each : ℕ → ℕ → List ℕ → List ℕ → Bool
unfolding every up_from
within_each a b lens own = every (λ j. leb (b * get_or own j 0) (a * get_or lens j 0)) (up_from 0 (length own))

-- Both tests.
abbrev pub passes_at : Ask → List ℕ → List ℕ → ℕ → ℕ → List ℕ → Bool
passes_at ask lens labels n end own = within_each ask.a ask.b lens own && not (covered_at labels n end own)
