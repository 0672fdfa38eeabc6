-- The working fields of a label, in bytes 24 to 39 of its head: what a search changes after the label is made.
use Rattle.std.specs.Prelude.{List, ℕ, ◌+◌, ◌*◌}
use Rattle.words.specs.Number.{num, put}
use Rattle.labels.specs.Field.{label_bytes}

-- The last arc of its own next candidate, and that candidate's key, by which candidates are compared first.
abbrev pub cursor_at : List ℕ → ℕ → ℕ
cursor_at l i = num 4 l (i * label_bytes + 24)

abbrev pub key_at : List ℕ → ℕ → ℕ
key_at l i = num 8 l (i * label_bytes + 32)

-- The winner of two blocks of labels, the second of which begins with this one.
abbrev pub winner_at : List ℕ → ℕ → ℕ
winner_at l i = num 2 l (i * label_bytes + 28)

abbrev pub put_winner : List ℕ → ℕ → ℕ → List ℕ
put_winner l i w = put 2 l (i * label_bytes + 28) w

abbrev pub put_own : List ℕ → ℕ → ℕ → ℕ → List ℕ
put_own l i arc key = put 8 (put 4 l (i * label_bytes + 24) arc) (i * label_bytes + 32) key
