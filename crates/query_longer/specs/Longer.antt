-- What planners may be told about longer lists and looser thresholds (02.8), of two calls i and j. An `Input` is what any exported query is given, with closures or
-- without, and `Replied` is the contract of each.
use Rattle.std.specs.Prelude.{◌≡◌, List, ℕ, ◌<◌, take}
use Rattle.words.specs.Part.{slot}
use Rattle.net.specs.Outcome.{answers}
use Rattle.summary.specs.declared.Summary.{Summary}
use Rattle.query.specs.Query.{Input, query_of, rounds_of, width}

-- Both ask for the same trip over the same roads, of which the same are open.
pub record SameTrip (i j : Input) : Type 0 where
  pub net : (query_of i).net ≡ (query_of j).net
  pub s : (query_of i).s ≡ (query_of j).s
  pub t : (query_of i).t ≡ (query_of j).t

-- And at the same threshold, "with the same room". How many routes each asks for, and what else is lent, may differ.
pub record SameQuestion (i j : Input) : Type 0 where
  pub trip : SameTrip i j
  pub a : (query_of i).a ≡ (query_of j).a
  pub b : (query_of i).b ≡ (query_of j).b
  pub room : (query_of i).room ≡ (query_of j).room

-- "the answers for k are the first k of those for any greater k": the routes, the k slots of the route area, and the k summaries, as i and j left them.
pub record Begins (i j : Input) (areaᵢ areaⱼ : List ℕ) (sumsᵢ sumsⱼ : List Summary) : Type 0 where
  pub routes : answers (rounds_of i) ≡ take i.k (answers (rounds_of j))
  pub slots : (r : ℕ) → r < i.k → slot (width i) r areaᵢ ≡ slot (width i) r areaⱼ
  pub sums : take i.k sumsᵢ ≡ take i.k sumsⱼ
