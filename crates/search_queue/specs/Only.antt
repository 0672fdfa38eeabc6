-- What a store into labels leaves as it was.
use Rattle.std.specs.Prelude.{◌≡◌, true, ◌||◌, List, ℕ, ◌+◌, ◌*◌, leb, length, drop}
use Rattle.words.specs.Number.{num}
use Rattle.labels.specs.Field.{label_bytes}

-- Of the first n labels the bytes from o to o + k may have changed, and no others: every number of a label that does not meet these is as it was.
pub record Only (o k n : ℕ) (l m : List ℕ) : Type 0 where
  pub long : length m ≡ length l
  -- j bytes at offset p of label i
  pub field : (j i p : ℕ) → (leb (p + j) o || leb (o + k) p) ≡ true → leb (p + j) label_bytes ≡ true → num j m (i * label_bytes + p) ≡ num j l (i * label_bytes + p)
  pub past : drop (n * label_bytes) m ≡ drop (n * label_bytes) l
