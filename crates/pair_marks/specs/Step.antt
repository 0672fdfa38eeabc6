-- One step back along the second search's route.
use Rattle.std.specs.Prelude.{◌≡◌, ◌≢◌, ◌⊎◌, List, ℕ}
use Rattle.table.specs.Table.{from_at, to_at}
use Rattle.working_room.specs.Field.{word_at, put_word}
use Rattle.pair_room.specs.Room.{none}

-- From v by its last arc: where that is its mark, the mark goes and the step is to the arc's end; else the arc is marked where it starts, and the step is there.
abbrev pub Stepped : List ℕ → List ℕ → ℕ → List ℕ → ℕ → Type 0
Stepped t l v m w =
    ((word_at 36 l v ≡ word_at 32 l v) × (m ≡ put_word 36 l v none) × (w ≡ to_at t (word_at 32 l v)))
    ⊎ ((word_at 36 l v ≢ word_at 32 l v) × (m ≡ put_word 40 l (from_at t (word_at 32 l v)) (word_at 32 l v)) × (w ≡ from_at t (word_at 32 l v)))
