-- The lines of a query's rounds, from the numbers that it left.
use Rattle.std.specs.Prelude.{◌≡◌, List, [], ◌++◌, ℕ, zero, suc, ◌+◌, ◌*◌, ◌≤◌, ◌<◌, get_or, take, drop}
use Rattle.desk_output.specs.Line.{route_text}
use Rattle.summary.specs.declared.Sums.{Sums}

-- The line of the answer in slot j.
unfoldable pub line_at : Sums → ℕ → List ℕ → ℕ → List ℕ
unfolding route_text
line_at sums w area j = route_text (j + 1) (get_or sums.length j 0) (get_or sums.labels j 0) (take (get_or sums.arcs j 0) (drop (j * w) area))

-- The lines of n answers, from slot i on.
unfoldable pub lines_from : Sums → ℕ → List ℕ → ℕ → ℕ → List ℕ
unfolding line_at
lines_from sums w area zero i = []
lines_from sums w area (suc n) i = line_at sums w area i ++ lines_from sums w area n (i + 1)

-- The first n summaries have arcs, and the next, short of k, has none.
pub record Leading (sums : Sums) (k n : ℕ) : Type 0 where
  pub few : n ≤ k
  pub each : (j : ℕ) → j < n → 1 ≤ get_or sums.arcs j 0
  pub stop : n < k → get_or sums.arcs n 0 ≡ 0
