-- What is printed of rounds that were made.
use Rattle.std.specs.Prelude.{◌≡◌, ℕ, zero, suc, ◌-◌, ◌≤◌, ◌<◌, length, get_or}
use mathlib.Core.List.{List, [], ◌∷◌, map, Memᴰ}
use Rattle.net.specs.Round.{Query, Ending, answered, unanswered, refused}
use Rattle.net.specs.Outcome.{answers, summaries}
use Rattle.desk_line.specs.Limits.{most_nodes_read}
use Rattle.text_put.specs.Put.{Appended}
use Rattle.summary.specs.declared.Sums.{Sums}
use Rattle.summary.specs.Sums.{firsts}
use Rattle.query_rounds.specs.Area.{area_with}
use Rattle.query_rounds.specs.Progress.{as_record}
use Rattle.desk_text.specs.Desk.{end_lines}

-- The rounds of a query for k routes: answered ones, each with an arc at least, and then, short of k, one that was not.
abbrev pub Shape : ℕ → List Ending → Type 0
Shape zero [] = Unit {0}
Shape zero (z ∷ rs) = ⊥
Shape (suc k) [] = ⊥
Shape (suc k) (answered p n ∷ rs) = (1 ≤ length p) × Shape k rs
Shape (suc k) (unanswered n ∷ []) = Unit {0}
Shape (suc k) (unanswered n ∷ z ∷ rs) = ⊥
Shape (suc k) (refused ∷ []) = Unit {0}
Shape (suc k) (refused ∷ z ∷ rs) = ⊥

-- The summaries and the area are those of the rounds rs of a query for k routes, in slots of w words.
pub record Shows (q : Query) (rs : List Ending) (w k : ℕ) (sums : Sums) (area : List ℕ) : Type 0 where
  pub shape : Shape k rs
  pub summed : firsts sums k ≡ map as_record (summaries q k rs)
  pub area₀ : List ℕ
  pub slotted : area ≡ area_with w k area₀ (answers rs)
  pub short : (p : List ℕ) → Memᴰ p (answers rs) → length p ≤ w

-- The words of a slot among as many nodes as are read.
abbrev pub most_width : ℕ
most_width = most_nodes_read - 1

-- No route has more arcs than a slot has words.
abbrev pub Small : Sums → ℕ → ℕ → Type 0
Small sums k w = (j : ℕ) → j < k → get_or sums.arcs j 0 ≤ w

-- What is printed of any rounds that the summaries and the area show.
abbrev pub Printed : ℕ → ℕ → ℕ → Sums → List ℕ → List ℕ → List ℕ → ℕ → Type 0
Printed o w k sums area out out' n = (q : Query) (rs : List Ending) → Shows q rs w k sums area → Appended out 0 (end_lines q o rs) out' n
