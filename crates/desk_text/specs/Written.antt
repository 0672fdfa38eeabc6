-- What the desk program's function leaves in its buffer.
use Rattle.std.specs.Prelude.{◌≡◌, List, ℕ, ◌≤◌, ◌<◌, length}
use Rattle.text_put.specs.Put.{Appended}
use Rattle.desk_text.specs.Desk.{desk_text}

-- The room that any answer fits in.
abbrev pub most_text : ℕ
most_text = 294912

-- The whole text that is due, at the front of the buffer, and its length; a buffer that is too small for some answer stays as it is.
pub record Written (text out out' : List ℕ) (n : ℕ) : Type 0 where
  pub due : most_text ≤ length out → Appended out 0 (desk_text text) out' n
  pub small : length out < most_text → (out' ≡ out) × (n ≡ 0)
