-- Text in a lent buffer.
use Rattle.std.specs.Prelude.{◌≡◌, List, ℕ, ◌+◌, length}
use Rattle.words.specs.Part.{patch}

-- Text put into a buffer at a place, and the place after it; the rest of the buffer is as it was.
pub record Appended (l : List ℕ) (at : ℕ) (text l' : List ℕ) (next : ℕ) : Type 0 where
  pub is : l' ≡ patch at (at + length text) l text
  pub place : next ≡ at + length text

abbrev pub space : ℕ
space = 32

abbrev pub newline : ℕ
newline = 10
