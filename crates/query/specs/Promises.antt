-- The work order's demands 2 and 3, over what the public call is defined to show.
use Rattle.std.specs.Prelude.{◌≡◌, ◌⊎◌, ◌↔◌, List, [], ℕ, ◌*◌, ◌≤◌, ◌<◌, length, take, get_or}
use Rattle.std.proofs.Math.Option.{none, some}
use Rattle.net.specs.Round.{refused, answer, count, choices}
use Rattle.net.specs.Outcome.{answers, summary}
use Rattle.query.specs.Query.{Input, query_of, rounds_of}

-- The answers of the rounds before number j, from 0.
abbrev pub before : Input → ℕ → List (List ℕ)
before i j = take j (answers (rounds_of i))

-- "Round by round, each route is the first, by length and then by arc numbers, of all simple routes within the threshold of every earlier one. The list stops short of
-- k only where no such route is left, or where a round is refused for room."
pub record Demand2 (i : Input) : Type 0 where
  pub each : (j : ℕ) → j < length (answers (rounds_of i)) → answer (query_of i) (before i j) ≡ some (get_or (answers (rounds_of i)) j [])
  pub stops : length (answers (rounds_of i)) < i.k
      → (answer (query_of i) (answers (rounds_of i)) ≡ none) ⊎ ((query_of i).room < count (query_of i) (answers (rounds_of i)))

-- "The label count of each round, unless it is refused for room, is the number of partial routes [...]. A round is refused for room exactly when that number, taken with
-- the answer that demand 2 would give it, exceeds the labels lent; its count is then the labels lent. The number never exceeds the number of nodes times the product, over
-- the earlier answers, of one more than the whole units of overlap permitted with each."
pub record Demand3 (i : Input) : Type 0 where
  pub counts : (j : ℕ) → j < length (rounds_of i) → count (query_of i) (before i j) ≤ (query_of i).room
      → (summary (query_of i) (get_or (rounds_of i) j refused)).labels ≡ count (query_of i) (before i j)
  pub exact : (j : ℕ) → j < length (rounds_of i) → (get_or (rounds_of i) j refused ≡ refused) ↔ ((query_of i).room < count (query_of i) (before i j))
  pub shows-room : (j : ℕ) → j < length (rounds_of i) → get_or (rounds_of i) j refused ≡ refused → (summary (query_of i) (get_or (rounds_of i) j refused)).labels ≡ (query_of i).room
  pub bound : (j : ℕ) → count (query_of i) (before i j) ≤ (query_of i).net.nodes * choices (query_of i) (before i j)
