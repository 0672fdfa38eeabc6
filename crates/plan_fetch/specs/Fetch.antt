-- Fetching a plan (document 02, item 6): its answer, and the slots afterwards.
use Rattle.std.specs.Prelude.{◌≡◌, Bool, not, ◌||◌, cond, ℕ, Result, Ok, Err, ◌*◌, ltb, eqb, length, drop}
use mathlib.Core.List.{List, ◌++◌, flat_map}
use Rattle.lists.specs.Tests.{any}
use Rattle.labels.specs.Chain.{slot_of}
use Rattle.outcome.specs.declared.Told.{Told}
use Rattle.outcome.specs.declared.Refusal.{Refusal}
use Rattle.outcome.specs.Outcome.{found, plan_file, plan_request, plan_there, buffers, beside, plain, told_of}
use Rattle.plan_file.specs.File.{wrong_file}
use Rattle.plan_file.specs.Meaning.{has_plan, plan_in}

-- "It is fetched into slots of a given width; a slot narrower than a route is 10." "if an area lent for its answer is shorter than that answer's slots"
unfoldable pub too_small : List (List ℕ) → List ℕ → ℕ → Bool
unfolding any
too_small routes slots width = any (λ p. ltb width (length p)) routes || ltb (length slots) (length routes * width)

-- "Refusals, in order: 16 [...]; 17, plan number zero [...]; 18, [...] absent on fetching [...]; 10"
unfoldable pub fetch_outcome : List ℕ → ℕ → List ℕ → ℕ → ℕ
unfolding wrong_file has_plan plan_in too_small
fetch_outcome f plan slots width =
    cond (wrong_file f) plan_file
    (cond (eqb plan 0) plan_request
    (cond (not (has_plan f plan)) plan_there
    (cond (too_small (plan_in f plan) slots width) buffers found)))

-- Each route in its slot, "after a route's arcs a slot holds only 4,294,967,295"; "What lies past an answer is untouched".
unfoldable pub slots_with : ℕ → List (List ℕ) → List ℕ → List ℕ
unfolding flat_map
slots_with width routes slots = flat_map (slot_of width) routes ++ drop (length routes * width) slots

-- What is told of the number of routes, or of a refusal.
abbrev pub told_with : Result ℕ Refusal → Told
told_with (Ok routes) = beside found routes
told_with (Err refusal) = told_of refusal

-- "The number of routes is returned." "Each changes nothing."
pub record Fetched (f : List ℕ) (plan : ℕ) (slots : List ℕ) (width : ℕ) (answer : Told) (slots' : List ℕ) : Type 0 where
  pub told : answer ≡ cond (eqb (fetch_outcome f plan slots width) found) (beside found (length (plan_in f plan))) (plain (fetch_outcome f plan slots width))
  pub area : slots' ≡ cond (eqb (fetch_outcome f plan slots width) found) (slots_with width (plan_in f plan) slots) slots
