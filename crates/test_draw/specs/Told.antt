-- What an answer holds of a call that gives summaries.
use Rattle.std.specs.Prelude.{ℕ, List, cond, ltb, eqb, ◌/◌, ◌%◌, length, get_or, set}
use Rattle.summary.specs.declared.Sums.{Sums}
use Rattle.test_cells.specs.Bounded.{sum}
use Rattle.test_draw.specs.Written.{written}

-- Number i of the summaries: three of each, 0 past the last.
abbrev pub sums_number : Sums → ℕ → ℕ
sums_number t i = cond (ltb i 36) (cond (eqb (i % 3) 0) (get_or t.length (i / 3) 0) (cond (eqb (i % 3) 1) (get_or t.arcs (i / 3) 0) (get_or t.labels (i / 3) 0))) 0

-- The answer with so many numbers of the summaries, from that cell on: 0 from number n on.
abbrev pub with_sums : List ℕ → ℕ → Sums → ℕ → ℕ → List ℕ
with_sums answer at t n count = written (λ i. sum at i) (λ i. cond (ltb i n) (sums_number t i) 0) count answer

-- The answer with the whole area, from that cell on, and after it the count of right bytes.
abbrev pub with_area : List ℕ → ℕ → List ℕ → ℕ → List ℕ
with_area answer at area right = set (written (λ i. sum at i) (λ i. get_or area i 0) (length area) answer) (sum at (length area)) right
