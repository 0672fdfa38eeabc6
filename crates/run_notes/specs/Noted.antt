-- Where the runs of a node start, noted in its record of the working room: in the first table in bytes 56 to 59, in the second in bytes 60 to 63.
use Rattle.std.specs.Prelude.{◌≡◌, List, ℕ, ◌<◌, leb}
use Rattle.lists.specs.Index.{first_at}
use Rattle.table.specs.Table.{records}
use Rattle.table.specs.Run.{run_start}
use Rattle.second.specs.Lookup.{coming_start}
use Rattle.working_room.specs.Field.{word_at}

-- The first of the arcs that leave it.
pub record LeavingNoted (nodes : ℕ) (t l : List ℕ) : Type 0 where
  pub at : (v : ℕ) → v < nodes → word_at 56 l v ≡ run_start t v

-- The first record of those that come to it.
pub record ComingNoted (nodes : ℕ) (second l : List ℕ) : Type 0 where
  pub at : (v : ℕ) → v < nodes → word_at 60 l v ≡ coming_start second v

-- Where the records of node v start in a table that is in order of the node `key` of each, or where they would stand.
unfoldable pub start_by : (List ℕ → ℕ → ℕ) → List ℕ → ℕ → ℕ
unfolding first_at
start_by key t v = first_at (λ i. leb v (key t i)) (records t) 0

-- The start for each node below n stands at offset o of its record.
abbrev pub Noted : ℕ → (ℕ → ℕ) → ℕ → List ℕ → Type 0
Noted o start n l = (v : ℕ) → v < n → word_at o l v ≡ start v
