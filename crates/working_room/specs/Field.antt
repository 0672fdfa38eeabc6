-- The working room lent beside a table: "64 bytes for each node", a record for each, its fields by their offsets.
use Rattle.std.specs.Prelude.{◌≡◌, true, ◌||◌, List, ℕ, ◌+◌, ◌*◌, leb, length}
use Rattle.words.specs.Number.{num, put}

abbrev pub room_bytes : ℕ
room_bytes = 64

-- The number of 64 bits, and of 32, at offset o of node v's record.
abbrev pub long_at : ℕ → List ℕ → ℕ → ℕ
long_at o l v = num 8 l (v * room_bytes + o)

abbrev pub word_at : ℕ → List ℕ → ℕ → ℕ
word_at o l v = num 4 l (v * room_bytes + o)

abbrev pub put_long : ℕ → List ℕ → ℕ → ℕ → List ℕ
put_long o l v x = put 8 l (v * room_bytes + o) x

abbrev pub put_word : ℕ → List ℕ → ℕ → ℕ → List ℕ
put_word o l v x = put 4 l (v * room_bytes + o) x

-- In each record the k bytes from o on may have changed, and no others.
pub record Within (o k : ℕ) (l m : List ℕ) : Type 0 where
  pub long : length m ≡ length l
  -- j bytes at offset p of node v
  pub field : (j v p : ℕ) → (leb (p + j) o || leb (o + k) p) ≡ true → leb (p + j) room_bytes ≡ true → num j m (v * room_bytes + p) ≡ num j l (v * room_bytes + p)
