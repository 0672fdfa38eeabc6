-- Withdrawing and collecting as they go along, record after record.
use Rattle.std.specs.Prelude.{◌≡◌, cond, ℕ, ◌+◌, ◌*◌, eqb, length, take}
use mathlib.Core.List.{List, flat_map}
use Rattle.words.specs.Part.{slot}
use Rattle.plan_record.specs.Record.{record_bytes, plan_at, with_record, free}
use Rattle.plan_change.specs.Change.{in_use}

-- Record i once the plan is withdrawn.
abbrev pub withdrawn_at : List ℕ → ℕ → ℕ → List ℕ
withdrawn_at f plan i = cond (eqb (plan_at f i) plan) free (slot record_bytes i f)

-- Record i moved to record w where it is in use, and where the next is moved to.
unfoldable pub moved_to : List ℕ → ℕ → ℕ → List ℕ
unfolding with_record slot
moved_to f w i = cond (eqb (plan_at f i) 0) f (with_record f w (slot record_bytes i f))

unfoldable pub moved_next : List ℕ → ℕ → ℕ → ℕ
moved_next f w i = cond (eqb (plan_at f i) 0) w (w + 1)

-- The n records in use at the front, and the file as long as it was.
pub record Moved (f : List ℕ) (n : ℕ) (f' : List ℕ) : Type 0 where
  pub count : n ≡ length (in_use f)
  pub front : take (n * record_bytes) f' ≡ flat_map (λ i. slot record_bytes i f) (in_use f)
  pub long : length f' ≡ length f
