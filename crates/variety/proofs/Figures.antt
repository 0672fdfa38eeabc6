-- Lists and choices of small nets, as an independent program finds them, and by the search with hope. Computed.
use mathlib.Core.Path.{◌≡◌, refl}
use mathlib.Core.Option.{Option, some, none}
use mathlib.Core.List.{List, [], ◌∷◌, map}
use Prim.Native.Nat.{ℕ, pred, ◌+◌, ◌*◌}
use lib.ListN.{length}
use Rattle.lists.specs.Tests.{up_from}
use Rattle.net.specs.Net.{Arc, Net, plain}
use Rattle.net.specs.Figures.{◌—◌⟶◌}
use Rattle.variety.specs.Choice.{search_from}
use Rattle.distances.specs.Distance.{distance}
use Rattle.variety.specs.Variety.{near, chosen, varied}
use Rattle.variety.specs.Deeper.{deeper, insert_all}

record Asked : Type 0 where
  net : Net
  c : ℕ
  d : ℕ
  k : ℕ

ask : ℕ → List Arc → ℕ → ℕ → ℕ → Asked
ask n arcs c d k = record { net = plain n arcs; c = c; d = d; k = k }

list_of : Asked → List (List ℕ)
list_of x = near x.net 0 (pred x.net.nodes) x.c x.d

-- what is not reached is too far
given : Option ℕ → ℕ
given none = 1000
given (some n) = n

asked : List Asked
asked =
    ask 4 (3 — 0 ⟶ 2 ∷ 1 — 0 ⟶ 1 ∷ 3 — 1 ⟶ 3 ∷ 1 — 1 ⟶ 0 ∷ 2 — 1 ⟶ 2 ∷ 2 — 1 ⟶ 0 ∷ 2 — 2 ⟶ 3 ∷ 3 — 2 ⟶ 0 ∷ 1 — 2 ⟶ 3 ∷ 2 — 3 ⟶ 2 ∷ []) 1 2 3
    ∷ ask 5 (3 — 0 ⟶ 1 ∷ 2 — 0 ⟶ 3 ∷ 3 — 0 ⟶ 1 ∷ 1 — 1 ⟶ 4 ∷ 2 — 2 ⟶ 0 ∷ 2 — 2 ⟶ 0 ∷ 1 — 3 ⟶ 0 ∷ 1 — 3 ⟶ 4 ∷ 2 — 4 ⟶ 1 ∷ 1 — 4 ⟶ 3 ∷ []) 2 3 2
    ∷ ask 4 (1 — 0 ⟶ 2 ∷ 1 — 0 ⟶ 1 ∷ 1 — 1 ⟶ 3 ∷ 1 — 2 ⟶ 3 ∷ 3 — 2 ⟶ 1 ∷ 1 — 2 ⟶ 3 ∷ 3 — 2 ⟶ 0 ∷ []) 1 4 2
    ∷ ask 4 (2 — 0 ⟶ 1 ∷ 3 — 0 ⟶ 1 ∷ 3 — 0 ⟶ 3 ∷ 2 — 1 ⟶ 3 ∷ 2 — 1 ⟶ 0 ∷ 3 — 2 ⟶ 1 ∷ 1 — 3 ⟶ 2 ∷ 3 — 3 ⟶ 2 ∷ []) 1 1 2
    ∷ ask 4 (3 — 0 ⟶ 2 ∷ 2 — 0 ⟶ 1 ∷ 1 — 1 ⟶ 2 ∷ 2 — 1 ⟶ 3 ∷ 3 — 2 ⟶ 3 ∷ 3 — 2 ⟶ 1 ∷ 2 — 2 ⟶ 0 ∷ 3 — 3 ⟶ 0 ∷ 1 — 3 ⟶ 1 ∷ 3 — 3 ⟶ 2 ∷ []) 1 1 2
    ∷ ask 4 (2 — 0 ⟶ 1 ∷ 2 — 1 ⟶ 2 ∷ 3 — 1 ⟶ 0 ∷ 2 — 1 ⟶ 2 ∷ 3 — 1 ⟶ 0 ∷ 1 — 2 ⟶ 3 ∷ 3 — 2 ⟶ 0 ∷ 2 — 2 ⟶ 3 ∷ 3 — 2 ⟶ 3 ∷ 3 — 3 ⟶ 2 ∷ []) 2 3 2
    ∷ ask 5 (3 — 0 ⟶ 1 ∷ 3 — 0 ⟶ 1 ∷ 1 — 1 ⟶ 4 ∷ 1 — 1 ⟶ 2 ∷ 1 — 1 ⟶ 0 ∷ 1 — 2 ⟶ 4 ∷ 1 — 2 ⟶ 3 ∷ 1 — 4 ⟶ 0 ∷ 2 — 4 ⟶ 1 ∷ []) 1 2 3
    ∷ ask 5 (3 — 0 ⟶ 2 ∷ 2 — 0 ⟶ 1 ∷ 2 — 0 ⟶ 1 ∷ 3 — 1 ⟶ 4 ∷ 2 — 2 ⟶ 1 ∷ 3 — 2 ⟶ 1 ∷ 3 — 2 ⟶ 3 ∷ 1 — 2 ⟶ 1 ∷ 3 — 3 ⟶ 4 ∷ []) 1 2 2
    ∷ []

listed : map list_of asked ≡
    ((0 ∷ 8 ∷ []) ∷ (1 ∷ 2 ∷ []) ∷ (1 ∷ 4 ∷ 8 ∷ []) ∷ (0 ∷ 6 ∷ []) ∷ (1 ∷ 4 ∷ 6 ∷ []) ∷ [])
    ∷ ((1 ∷ 7 ∷ []) ∷ (0 ∷ 3 ∷ []) ∷ (2 ∷ 3 ∷ []) ∷ [])
    ∷ ((0 ∷ 3 ∷ []) ∷ (0 ∷ 5 ∷ []) ∷ (1 ∷ 2 ∷ []) ∷ [])
    ∷ ((2 ∷ []) ∷ (0 ∷ 3 ∷ []) ∷ (1 ∷ 3 ∷ []) ∷ [])
    ∷ ((1 ∷ 3 ∷ []) ∷ (0 ∷ 4 ∷ []) ∷ (1 ∷ 2 ∷ 4 ∷ []) ∷ (0 ∷ 5 ∷ 3 ∷ []) ∷ [])
    ∷ ((0 ∷ 1 ∷ 5 ∷ []) ∷ (0 ∷ 3 ∷ 5 ∷ []) ∷ (0 ∷ 1 ∷ 7 ∷ []) ∷ (0 ∷ 3 ∷ 7 ∷ []) ∷ (0 ∷ 1 ∷ 8 ∷ []) ∷ (0 ∷ 3 ∷ 8 ∷ []) ∷ [])
    ∷ ((0 ∷ 2 ∷ []) ∷ (1 ∷ 2 ∷ []) ∷ (0 ∷ 3 ∷ 5 ∷ []) ∷ (1 ∷ 3 ∷ 5 ∷ []) ∷ [])
    ∷ ((1 ∷ 3 ∷ []) ∷ (2 ∷ 3 ∷ []) ∷ (0 ∷ 7 ∷ 3 ∷ []) ∷ [])
    ∷ []
unfolding near list_of ask asked
listed = refl

chose : map (λ x. chosen x.net.arcs (list_of x) x.k) asked ≡
    some (0 ∷ 1 ∷ 4 ∷ [])
    ∷ some (0 ∷ 1 ∷ [])
    ∷ some (0 ∷ 2 ∷ [])
    ∷ some (0 ∷ 1 ∷ [])
    ∷ some (0 ∷ 1 ∷ [])
    ∷ some (2 ∷ 5 ∷ [])
    ∷ some (0 ∷ 1 ∷ 2 ∷ [])
    ∷ some (0 ∷ 2 ∷ [])
    ∷ []
unfolding chosen near list_of ask asked
chose = refl

searched : map (λ x. search_from (varied x.net.arcs (list_of x)) (up_from 0 (length (list_of x))) x.k [] none) asked ≡
    some (0 ∷ 1 ∷ 4 ∷ [])
    ∷ some (0 ∷ 1 ∷ [])
    ∷ some (0 ∷ 2 ∷ [])
    ∷ some (0 ∷ 1 ∷ [])
    ∷ some (0 ∷ 1 ∷ [])
    ∷ some (2 ∷ 5 ∷ [])
    ∷ some (0 ∷ 1 ∷ 2 ∷ [])
    ∷ some (0 ∷ 2 ∷ [])
    ∷ []
unfolding search_from varied near list_of ask asked up_from
searched = refl

-- by going deeper, put in their places
to_go : Asked → ℕ → ℕ
to_go x v = given (distance x.net v (pred x.net.nodes))

went : map (λ x. insert_all x.net.arcs [] (deeper x.net 0 (pred x.net.nodes) (to_go x) x.d ((x.d + x.c) * to_go x 0) (pred x.net.nodes) [])) asked ≡ map list_of asked
unfolding deeper insert_all near list_of ask asked to_go given distance
went = refl

-- ---- three stretches with two roads each: the three most different do not have the two most different among them

stretches : ℕ → Asked
stretches k = ask 4 (2 — 0 ⟶ 1 ∷ 3 — 0 ⟶ 1 ∷ 2 — 1 ⟶ 2 ∷ 3 — 1 ⟶ 2 ∷ 2 — 2 ⟶ 3 ∷ 3 — 2 ⟶ 3 ∷ []) 1 3 k

seven : list_of (stretches 2) ≡
    (0 ∷ 2 ∷ 4 ∷ []) ∷ (0 ∷ 2 ∷ 5 ∷ []) ∷ (0 ∷ 3 ∷ 4 ∷ []) ∷ (1 ∷ 2 ∷ 4 ∷ []) ∷ (0 ∷ 3 ∷ 5 ∷ []) ∷ (1 ∷ 2 ∷ 5 ∷ []) ∷ (1 ∷ 3 ∷ 4 ∷ []) ∷ []
unfolding near list_of ask stretches
seven = refl

greedy-misses : map (λ x. chosen x.net.arcs (list_of x) x.k) (stretches 2 ∷ stretches 3 ∷ []) ≡ some (1 ∷ 6 ∷ []) ∷ some (1 ∷ 2 ∷ 3 ∷ []) ∷ []
unfolding chosen near list_of ask stretches
greedy-misses = refl
