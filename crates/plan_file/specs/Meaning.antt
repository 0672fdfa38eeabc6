-- What a file of plans means: the routes of each plan, by rank.
use Rattle.std.specs.Prelude.{Bool, cond, List, [], ◌∷◌, ◌++◌, ℕ, zero, suc, ◌+◌, ltb, eqb}
use Rattle.lists.specs.Tests.{up_from, any, keep}
use Rattle.lists.specs.Index.{first_at}
use Rattle.net.specs.Limits.{most_routes}
use Rattle.plan_record.specs.Record.{records, plan_at, arcs_at}
use Rattle.plan_file.specs.File.{is_part}

-- Where a part stands; the number of records where it does not.
unfoldable pub place_of : List ℕ → ℕ → ℕ → ℕ → ℕ
unfolding first_at
place_of f plan rank part = first_at (is_part f plan rank part) (records f) 0

unfoldable pub has_part : List ℕ → ℕ → ℕ → ℕ → Bool
unfolding place_of
has_part f plan rank part = ltb (place_of f plan rank part) (records f)

-- The arcs of a route from a part on, part after part while there is one; n parts at most.
unfoldable pub route_from : ℕ → List ℕ → ℕ → ℕ → ℕ → List ℕ
unfolding has_part place_of
route_from zero f plan rank part = []
route_from (suc n) f plan rank part =
    cond (has_part f plan rank part) (arcs_at f (place_of f plan rank part) ++ route_from n f plan rank (part + 1)) []

unfoldable pub route_of : List ℕ → ℕ → ℕ → List ℕ
unfolding route_from
route_of f plan rank = route_from (records f) f plan rank 0

-- The routes from a rank on, rank after rank while there is one; n ranks at most.
unfoldable pub routes_from : ℕ → List ℕ → ℕ → ℕ → List (List ℕ)
unfolding has_part route_of
routes_from zero f plan rank = []
routes_from (suc n) f plan rank = cond (has_part f plan rank 0) (route_of f plan rank ∷ routes_from n f plan (rank + 1)) []

-- The plan under a number: its routes by rank, none where it is absent.
unfoldable pub plan_in : List ℕ → ℕ → List (List ℕ)
unfolding routes_from
plan_in f plan = routes_from most_routes f plan 0

-- 18: "already there on storing, absent on fetching or withdrawing"
unfoldable pub has_plan : List ℕ → ℕ → Bool
unfolding any up_from
has_plan f plan = any (λ i. eqb (plan_at f i) plan) (up_from 0 (records f))

-- The free records, lowest first.
unfoldable pub free_in : List ℕ → List ℕ
unfolding keep up_from
free_in f = keep (λ i. eqb (plan_at f i) 0) (up_from 0 (records f))
