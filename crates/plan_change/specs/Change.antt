-- Withdrawing a plan, and collecting the records in use (document 02, item 6): the answers, and the file afterwards.
use Rattle.std.specs.Prelude.{◌≡◌, not, cond, ℕ, ◌*◌, eqb, length, replicate}
use mathlib.Core.List.{List, ◌++◌, flat_map}
use Rattle.lists.specs.Tests.{up_from, keep}
use Rattle.words.specs.Part.{slot}
use Rattle.outcome.specs.declared.Told.{Told}
use Rattle.outcome.specs.Outcome.{found, plan_file, plan_request, plan_there, plain}
use Rattle.plan_record.specs.Record.{record_bytes, records, plan_at, free}
use Rattle.plan_file.specs.File.{wrong_file}
use Rattle.plan_file.specs.Meaning.{has_plan, free_in}

-- "Withdrawing zeroes its records."
unfoldable pub withdrawn_in : List ℕ → ℕ → List ℕ
unfolding flat_map up_from slot
withdrawn_in f plan = flat_map (λ i. cond (eqb (plan_at f i) plan) free (slot record_bytes i f)) (up_from 0 (records f))

-- "Refusals, in order: 16 [...]; 17, plan number zero [...]; 18, [...] absent on [...] withdrawing"
unfoldable pub withdraw_outcome : List ℕ → ℕ → ℕ
unfolding wrong_file has_plan
withdraw_outcome f plan =
    cond (wrong_file f) plan_file (cond (eqb plan 0) plan_request (cond (not (has_plan f plan)) plan_there found))

pub record Withdrawn (f : List ℕ) (plan : ℕ) (answer : Told) (f' : List ℕ) : Type 0 where
  pub told : answer ≡ plain (withdraw_outcome f plan)
  pub file : f' ≡ cond (eqb (withdraw_outcome f plan) found) (withdrawn_in f plan) f

-- The records in use, in their order.
unfoldable pub in_use : List ℕ → List ℕ
unfolding keep up_from
in_use f = keep (λ i. not (eqb (plan_at f i) 0)) (up_from 0 (records f))

-- "a collection that moves the records in use to the front in their order, with all bytes of the rest zero"
unfoldable pub collected_in : List ℕ → List ℕ
unfolding flat_map slot in_use free_in
collected_in f = flat_map (λ i. slot record_bytes i f) (in_use f) ++ replicate (length (free_in f) * record_bytes) 0

unfoldable pub collect_outcome : List ℕ → ℕ
unfolding wrong_file
collect_outcome f = cond (wrong_file f) plan_file found

pub record Collected (f : List ℕ) (answer : Told) (f' : List ℕ) : Type 0 where
  pub told : answer ≡ plain (collect_outcome f)
  pub file : f' ≡ cond (eqb (collect_outcome f) found) (collected_in f) f
