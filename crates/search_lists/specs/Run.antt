-- The start of a label's run, in bytes 20 to 23 of its head: of the table's records the first that starts at the label's end.
use Rattle.std.specs.Prelude.{◌≡◌, List, ℕ, ◌+◌, ◌*◌, ◌<◌}
use Rattle.words.specs.Number.{num, put}
use Rattle.table.specs.Run.{run_start}
use Rattle.labels.specs.Field.{label_bytes, end_at}

abbrev pub run_at : List ℕ → ℕ → ℕ
run_at l i = num 4 l (i * label_bytes + 20)

abbrev pub put_run : List ℕ → ℕ → ℕ → List ℕ
put_run l i a = put 4 l (i * label_bytes + 20) a

-- Each of n labels has its own.
abbrev pub Runs : List ℕ → List ℕ → ℕ → Type 0
Runs table l n = (i : ℕ) → i < n → run_at l i ≡ run_start table (end_at l i)
