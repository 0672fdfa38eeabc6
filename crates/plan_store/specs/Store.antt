-- Storing a plan (document 02, item 6): its answer, and the file afterwards.
use Rattle.std.specs.Prelude.{◌≡◌, cond, List, [], ◌∷◌, ◌++◌, ℕ, zero, suc, ◌+◌, ltb, eqb, length, take, drop}
use Rattle.lists.specs.Index.{first_at}
use Rattle.outcome.specs.declared.Told.{Told}
use Rattle.outcome.specs.Outcome.{found, plan_file, plan_request, plan_there, plan_room, plain}
use Rattle.plan_record.specs.Record.{records, plan_at, part_arcs, Row, record_of, with_record}
use Rattle.plan_file.specs.File.{wrong_file}
use Rattle.plan_file.specs.Meaning.{has_plan, free_in}
use Rattle.plan_store.specs.Slots.{wrong_request, routes_in}

-- "All parts but a route's last hold six arcs": the parts of what is left of a route; n parts at most.
unfoldable pub parts_from : ℕ → ℕ → ℕ → ℕ → List ℕ → List Row
parts_from zero plan rank part arcs = []
parts_from (suc n) plan rank part [] = []
parts_from (suc n) plan rank part (a ∷ arcs) =
    record { plan = plan; rank = rank; part = part; arcs = take part_arcs (a ∷ arcs) } ∷ parts_from n plan rank (part + 1) (drop part_arcs (a ∷ arcs))

-- "by rank and part"
unfoldable pub parts_of : ℕ → ℕ → List (List ℕ) → List Row
unfolding parts_from
parts_of plan rank [] = []
parts_of plan rank (p ∷ ps) = parts_from (length p) plan rank 0 p ++ parts_of plan (rank + 1) ps

-- "Storing takes the lowest free records, those once withdrawn too"
unfoldable pub lowest_free : List ℕ → ℕ
unfolding first_at
lowest_free f = first_at (λ i. eqb (plan_at f i) 0) (records f) 0

unfoldable pub placed : List ℕ → List Row → List ℕ
unfolding with_record record_of lowest_free
placed f [] = f
placed f (x ∷ xs) = placed (with_record f (lowest_free f) (record_of x)) xs

-- The file with a plan's routes stored.
unfoldable pub stored_in : List ℕ → ℕ → List (List ℕ) → List ℕ
unfolding placed parts_of
stored_in f plan routes = placed f (parts_of plan 0 routes)

-- "Refusals, in order: 16 [...]; 17 [...]; 18, already there on storing [...]; 19, fewer free records than needed, and never else"
unfoldable pub store_outcome : List ℕ → ℕ → List ℕ → ℕ → ℕ → ℕ
unfolding wrong_file wrong_request has_plan free_in routes_in parts_of
store_outcome f plan slots routes width =
    cond (wrong_file f) plan_file
    (cond (wrong_request plan slots routes width) plan_request
    (cond (has_plan f plan) plan_there
    (cond (ltb (length (free_in f)) (length (parts_of plan 0 (routes_in slots routes width)))) plan_room found)))

-- "Each changes nothing."
pub record Stored (f : List ℕ) (plan : ℕ) (slots : List ℕ) (routes width : ℕ) (answer : Told) (f' : List ℕ) : Type 0 where
  pub told : answer ≡ plain (store_outcome f plan slots routes width)
  pub file : f' ≡ cond (eqb (store_outcome f plan slots routes width) found) (stored_in f plan (routes_in slots routes width)) f
