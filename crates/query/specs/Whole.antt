-- Demands 2 and 3 of the memory that a query leaves. All of it is a function of the routes found, and rule 6 says which these are.
use Rattle.std.specs.Prelude.{◌≡◌, ◌⊎◌, ◌&&◌, cond, List, [], ◌∷◌, ◌++◌, map, ℕ, zero, suc, ◌+◌, ◌≤◌, ◌<◌, T, ltb, length, take, drop, get_or, replicate}
use Rattle.outcome.specs.declared.Told.{Told}
use Rattle.outcome.specs.Outcome.{found, fewer, room, plain, beside}
use Rattle.net.specs.Route.{route, length_of, precedes}
use Rattle.net.specs.Round.{Query, within_all, count_by, count}
use Rattle.net.specs.Outcome.{not_begun}
use Rattle.summary.specs.declared.Summary.{Summary}
use Rattle.query_rounds.specs.Area.{area_with}
use Rattle.query_rounds.specs.Progress.{as_record}
use Rattle.query.specs.Query.{Input, query_of, width}

-- "simple routes within the threshold of every earlier one"
abbrev pub Eligible : Query → List (List ℕ) → List ℕ → Type 0
Eligible q earlier p = T (route q.net q.s q.t p && within_all q earlier p)

-- Rule 6. "Each round answers the route that precedes all others among those within the threshold of every earlier answer."
pub record Answers (q : Query) (earlier : List (List ℕ)) (p : List ℕ) : Type 0 where
  pub eligible : Eligible q earlier p
  pub first : (r : List ℕ) → Eligible q earlier r → (r ≡ p) ⊎ T (precedes q.net.arcs p r)

-- What is told, after these routes: k were found; or no further one exists; or the label count of the next round exceeds the room. No two of them hold at once.
abbrev pub Ends : Query → ℕ → List (List ℕ) → Told → Type 0
Ends q k routes x =
    ((x ≡ plain found) × (length routes ≡ k))
    ⊎ (((x ≡ plain fewer) × (length routes < k) × ((p : List ℕ) → Eligible q routes p → ⊥) × (count q routes ≤ q.room))
    ⊎ ((x ≡ beside room (1 + length routes)) × (length routes < k) × (q.room < count q routes)))

-- k summaries: of each route, its length, its arcs and the label count after those before it; "a round without an answer has length 0 and arcs 0, and its label
-- count; under 11 that count is the room. Rounds not begun have three zeros."
unfoldable pub sums_for : Query → ℕ → List (List ℕ) → List (List ℕ) → List Rattle.net.specs.Outcome.Summary
unfolding length_of count_by
sums_for q zero earlier ps = []
sums_for q (suc k) earlier [] =
    record { len = 0; arcs = 0; labels = cond (ltb q.room (count q earlier)) q.room (count q earlier) } ∷ replicate k not_begun
sums_for q (suc k) earlier (p ∷ ps) = record { len = length_of q.net.arcs p; arcs = length p; labels = count q earlier } ∷ sums_for q k (earlier ++ (p ∷ [])) ps

-- A query that was not refused has found these routes: each the answer after those before it, and the memory is as they say.
pub record Whole (i : Input) (x : Told) (labels' area' : List ℕ) (sums₀ sums' : List Summary) : Type 0 where
  pub routes : List (List ℕ)
  pub each : (j : ℕ) → j < length routes → Answers (query_of i) (take j routes) (get_or routes j [])
  pub ends : Ends (query_of i) i.k routes x
  pub labels : labels' ≡ replicate (length i.labels) 0
  pub area : area' ≡ area_with (width i) i.k i.area routes
  pub sums : sums' ≡ map as_record (sums_for (query_of i) i.k [] routes) ++ drop i.k sums₀
