-- The profile of small nets, as an independent program finds it: computed.
use mathlib.Core.Path.{◌≡◌, refl}
use mathlib.Core.List.{List, [], ◌∷◌, map}
use Prim.Native.Nat.{ℕ, pred}
use Rattle.net.specs.Net.{Arc, plain}
use Rattle.net.specs.Round.{Query}
use Rattle.net.specs.Figures.{◌—◌⟶◌, on_t, r03, r024}
use Rattle.via.specs.Via.{profile}

ask : ℕ → List Arc → ℕ → ℕ → Query
ask n arcs a b = record { net = plain n arcs; s = 0; t = pred n; a = a; b = b; room = 0 }

-- table T: of its three routes two are candidates (1 4 is none: to node 2 the route 0 2 comes first); at 0/1 the exact call has 1 4 besides
on-T : map (λ q. profile q 4) (on_t 1 2 ∷ on_t 0 1 ∷ []) ≡ (r03 ∷ r024 ∷ []) ∷ (r03 ∷ []) ∷ []
unfolding profile
on-T = refl

asked : List Query
asked =
    ask 4 (2 — 0 ⟶ 2 ∷ 1 — 0 ⟶ 3 ∷ 2 — 0 ⟶ 2 ∷ 1 — 1 ⟶ 2 ∷ 2 — 1 ⟶ 3 ∷ 3 — 2 ⟶ 1 ∷ 1 — 2 ⟶ 1 ∷ 3 — 2 ⟶ 0 ∷ []) 4 5
    ∷ ask 4 (3 — 0 ⟶ 1 ∷ 1 — 0 ⟶ 3 ∷ 1 — 0 ⟶ 3 ∷ 3 — 1 ⟶ 0 ∷ 1 — 1 ⟶ 2 ∷ 2 — 2 ⟶ 3 ∷ []) 0 1
    ∷ ask 4 (2 — 0 ⟶ 3 ∷ 3 — 0 ⟶ 3 ∷ 1 — 0 ⟶ 1 ∷ 2 — 1 ⟶ 2 ∷ 1 — 2 ⟶ 3 ∷ 1 — 3 ⟶ 0 ∷ 2 — 3 ⟶ 0 ∷ 2 — 3 ⟶ 1 ∷ []) 0 1
    ∷ ask 4 (2 — 0 ⟶ 1 ∷ 2 — 0 ⟶ 3 ∷ 1 — 1 ⟶ 3 ∷ 3 — 1 ⟶ 0 ∷ 2 — 1 ⟶ 3 ∷ 3 — 2 ⟶ 1 ∷ 2 — 2 ⟶ 1 ∷ 2 — 2 ⟶ 3 ∷ 1 — 3 ⟶ 1 ∷ []) 2 3
    ∷ ask 5 (3 — 0 ⟶ 2 ∷ 3 — 0 ⟶ 4 ∷ 1 — 2 ⟶ 0 ∷ 2 — 2 ⟶ 4 ∷ 1 — 4 ⟶ 1 ∷ 3 — 4 ⟶ 1 ∷ 3 — 4 ⟶ 3 ∷ []) 1 2
    ∷ ask 4 (1 — 0 ⟶ 3 ∷ 3 — 0 ⟶ 3 ∷ 3 — 0 ⟶ 1 ∷ 2 — 0 ⟶ 1 ∷ 2 — 1 ⟶ 3 ∷ 2 — 2 ⟶ 3 ∷ 2 — 2 ⟶ 0 ∷ 3 — 3 ⟶ 0 ∷ 2 — 3 ⟶ 0 ∷ []) 1 2
    ∷ ask 4 (3 — 0 ⟶ 1 ∷ 1 — 0 ⟶ 3 ∷ 1 — 0 ⟶ 1 ∷ 3 — 0 ⟶ 3 ∷ 3 — 1 ⟶ 3 ∷ 2 — 2 ⟶ 0 ∷ 2 — 3 ⟶ 0 ∷ 3 — 3 ⟶ 2 ∷ 3 — 3 ⟶ 1 ∷ []) 2 3
    ∷ ask 4 (2 — 0 ⟶ 3 ∷ 3 — 0 ⟶ 1 ∷ 3 — 1 ⟶ 2 ∷ 2 — 1 ⟶ 3 ∷ 2 — 1 ⟶ 3 ∷ 1 — 2 ⟶ 1 ∷ 2 — 2 ⟶ 0 ∷ 2 — 3 ⟶ 0 ∷ 1 — 3 ⟶ 0 ∷ []) 2 3
    ∷ ask 4 (3 — 0 ⟶ 2 ∷ 1 — 0 ⟶ 3 ∷ 3 — 0 ⟶ 2 ∷ 1 — 1 ⟶ 0 ∷ 1 — 1 ⟶ 0 ∷ 3 — 2 ⟶ 3 ∷ 3 — 3 ⟶ 2 ∷ []) 0 1
    ∷ ask 5 (2 — 0 ⟶ 4 ∷ 1 — 0 ⟶ 2 ∷ 3 — 1 ⟶ 4 ∷ 2 — 1 ⟶ 3 ∷ 3 — 2 ⟶ 1 ∷ 2 — 2 ⟶ 1 ∷ 1 — 2 ⟶ 3 ∷ 2 — 3 ⟶ 0 ∷ []) 2 3
    ∷ ask 4 (1 — 0 ⟶ 2 ∷ 3 — 0 ⟶ 3 ∷ 3 — 0 ⟶ 1 ∷ 3 — 0 ⟶ 3 ∷ 1 — 1 ⟶ 3 ∷ 2 — 2 ⟶ 3 ∷ 3 — 2 ⟶ 1 ∷ []) 4 5
    ∷ ask 5 (2 — 0 ⟶ 1 ∷ 1 — 0 ⟶ 3 ∷ 1 — 0 ⟶ 2 ∷ 3 — 0 ⟶ 2 ∷ 2 — 1 ⟶ 4 ∷ 3 — 1 ⟶ 3 ∷ 2 — 2 ⟶ 4 ∷ 3 — 2 ⟶ 1 ∷ 1 — 4 ⟶ 2 ∷ []) 4 5
    ∷ []

found : map (λ q. profile q 4) asked ≡
    ((1 ∷ []) ∷ (0 ∷ 6 ∷ 4 ∷ []) ∷ [])
    ∷ ((1 ∷ []) ∷ (0 ∷ 4 ∷ 5 ∷ []) ∷ [])
    ∷ ((0 ∷ []) ∷ (2 ∷ 3 ∷ 4 ∷ []) ∷ [])
    ∷ ((1 ∷ []) ∷ (0 ∷ 2 ∷ []) ∷ [])
    ∷ ((1 ∷ []) ∷ (0 ∷ 3 ∷ []) ∷ [])
    ∷ ((0 ∷ []) ∷ (3 ∷ 4 ∷ []) ∷ [])
    ∷ ((1 ∷ []) ∷ (2 ∷ 4 ∷ []) ∷ [])
    ∷ ((0 ∷ []) ∷ (1 ∷ 3 ∷ []) ∷ [])
    ∷ ((1 ∷ []) ∷ (0 ∷ 5 ∷ []) ∷ [])
    ∷ ((0 ∷ []) ∷ (1 ∷ 5 ∷ 2 ∷ []) ∷ [])
    ∷ ((0 ∷ 5 ∷ []) ∷ (2 ∷ 4 ∷ []) ∷ [])
    ∷ ((2 ∷ 6 ∷ []) ∷ (0 ∷ 4 ∷ []) ∷ [])
    ∷ []
unfolding profile ask asked
found = refl
