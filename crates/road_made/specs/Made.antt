-- What an answer says (documents 01 and 02.2), and its numbers.
use Rattle.std.specs.Prelude.{◌≡◌, List, ℕ, Result, Ok, Err}
use Rattle.outcome.specs.declared.Told.{Told}
use Rattle.outcome.specs.declared.Refusal.{Refusal}
use Rattle.outcome.specs.Outcome.{found, plain, told_of as told_of_refusal}
use Rattle.road_made.specs.declared.Made.{Made}
use Rattle.road_made.specs.declared.MadeNumbers.{MadeNumbers}

-- "In such a call 0 also means done." An answer is what was made, or what is told of a refusal.
abbrev pub told_of : Result Made Told → Told
told_of (Ok made) = plain found
told_of (Err told) = told

-- "a text's length in bytes is returned"; a refusal made nothing.
abbrev pub bytes_made : Result Made Told → ℕ
bytes_made (Ok made) = made.bytes
bytes_made (Err told) = 0

abbrev pub nodes_made : Result Made Told → ℕ
nodes_made (Ok made) = made.nodes
nodes_made (Err told) = 0

-- "A refusal changes no buffer."
pub record Unchanged (told : Told) (area : List ℕ) (answer : Result Made Told) (area' : List ℕ) : Type 0 where
  pub told_is : told_of answer ≡ told
  pub bytes-is : bytes_made answer ≡ 0
  pub nodes-is : nodes_made answer ≡ 0
  pub area-is : area' ≡ area

-- "What lies past an answer is untouched."
pub record Made-of (bytes nodes : ℕ) (due : List ℕ) (answer : Result Made Told) (area' : List ℕ) : Type 0 where
  pub told_is : told_of answer ≡ plain found
  pub bytes-is : bytes_made answer ≡ bytes
  pub nodes-is : nodes_made answer ≡ nodes
  pub area-is : area' ≡ due

-- The four numbers of an answer: an exported call hands out no enum.
abbrev pub numbers_of : Result Made Told → MadeNumbers
numbers_of made = record { outcome = (told_of made).outcome; number = (told_of made).number; bytes = bytes_made made; nodes = nodes_made made }

-- A call told the numbers of an answer of which this holds.
pub record Numbered (Answers : Result Made Told → Type 0) (told : MadeNumbers) : Type 0 where
  pub answer : Result Made Told
  pub answers : Answers answer
  pub told_is : told ≡ numbers_of answer

-- The answer that a result of the code is.
abbrev pub answer_of : Result Made Refusal → Result Made Told
answer_of (Ok made) = Ok made
answer_of (Err refusal) = Err (told_of_refusal refusal)
