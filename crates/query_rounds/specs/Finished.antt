-- What the rounds of a query give.
use Rattle.std.specs.Prelude.{◌≡◌, List, [], map, ℕ, length, replicate}
use Rattle.net.specs.Round.{Query}
use Rattle.net.specs.Outcome.{told, rounds, answers, summaries}
use Rattle.summary.specs.Sums.{firsts}
use Rattle.query_rounds.specs.Area.{area_with}
use Rattle.query_rounds.specs.Progress.{as_record}
use Rattle.query_rounds.specs.declared.Got.{Got}

-- The rounds of a query for k routes, over labels and an area that were so: what is told, cleared labels, the answers in their slots of w words, and the
-- summaries of all k.
pub record Finished (q : Query) (w k : ℕ) (labels₀ area₀ : List ℕ) (g : Got) (labels' area' : List ℕ) : Type 0 where
  pub told : g.told ≡ told 1 (rounds q k [])
  pub labels : labels' ≡ replicate (length labels₀) 0
  pub area : area' ≡ area_with w k area₀ (answers (rounds q k []))
  pub all : g.n ≡ k
  pub sums : firsts g.sums k ≡ map as_record (summaries q k (rounds q k []))
