-- Why the law of looser thresholds is about the second route only, by two small networks, computed: a looser threshold lets a second route in that keeps closer to
-- the first, and the third has then to keep away from both. No call of these ends in 11.
use mathlib.Core.Path.{◌≡◌, refl}
use mathlib.Core.List.{List, [], ◌∷◌, map}
use Prim.Native.Nat.{ℕ, suc}
use Rattle.outcome.specs.Outcome.{found, fewer}
use Rattle.net.specs.Net.{Arc, plain}
use Rattle.net.specs.Route.{length_of}
use Rattle.net.specs.Round.{Query}
use Rattle.net.specs.Outcome.{rounds_by, rounds, answers, told}
use Rattle.net.specs.Figures.{◌—◌⟶◌, ample}
use Rattle.net.specs.Longer.{answers_for}

-- from node 0 to node n, the last, at the threshold a/b
abbrev pub across : List Arc → ℕ → ℕ → ℕ → Query
across arcs n a b = record { net = plain (suc n) arcs; s = 0; t = n; a = a; b = b; room = ample }

-- asked for three routes: what is told, and the lengths of those found
abbrev pub Three : Query → ℕ → List ℕ → Type 0
Three q outcome lengths = ((told 1 (rounds q 3 [])).outcome ≡ outcome) × (map (length_of q.net.arcs) (answers_for q 3) ≡ lengths)

-- three stretches, two roads on each: of 1 and 2, of 1 and 2, of 2 and 2
abbrev pub stretches : List Arc
stretches = 1 — 0 ⟶ 1 ∷ 2 — 0 ⟶ 1 ∷ 1 — 1 ⟶ 2 ∷ 2 — 1 ⟶ 2 ∷ 2 — 2 ⟶ 3 ∷ 2 — 2 ⟶ 3 ∷ []

-- four stretches: three roads of 1, 3 and 3, a bridge of 2, two roads of 2, a bridge of 2
abbrev pub bridges : List Arc
bridges = 1 — 0 ⟶ 1 ∷ 3 — 0 ⟶ 1 ∷ 3 — 0 ⟶ 1 ∷ 2 — 1 ⟶ 2 ∷ 2 — 2 ⟶ 3 ∷ 2 — 2 ⟶ 3 ∷ 2 — 3 ⟶ 4 ∷ []

-- at 2/5 the third route has length 5, at 1/2 length 6
pub third-longer : Three (across stretches 3 2 5) found (4 ∷ 5 ∷ 5 ∷ []) × Three (across stretches 3 1 2) found (4 ∷ 4 ∷ 6 ∷ [])
unfolding rounds_by answers length_of told
third-longer = ((refl, refl), (refl, refl))

-- at 2/3 there is a third route, at 3/4 no third one exists
pub third-gone : Three (across bridges 4 2 3) found (7 ∷ 9 ∷ 9 ∷ []) × Three (across bridges 4 3 4) fewer (7 ∷ 7 ∷ [])
unfolding rounds_by answers length_of told
third-gone = ((refl, refl), (refl, refl))
