-- Road numbers (02.5), by small networks, computed. A reserve route down the same street the other way shares it: at threshold 0/1 it is none. A route that drives a
-- road twice shares it twice, by its own lengths; and two arcs without a number share nothing.
use mathlib.Core.Path.{◌≡◌, refl}
use mathlib.Core.List.{List, [], ◌∷◌}
use Prim.Native.Nat.{ℕ}
use Rattle.outcome.specs.Outcome.{found, fewer}
use Rattle.net.specs.Net.{Arc, Net, plain, driven, streets}
use Rattle.net.specs.Route.{length_of, overlap}
use Rattle.net.specs.Round.{Query}
use Rattle.net.specs.Outcome.{rounds_by, rounds, answers, told}
use Rattle.net.specs.Figures.{◌—◌⟶◌, ample}
use Rattle.net.specs.Longer.{answers_for}

-- arcs 2 and 4 are the two sides of one street
abbrev pub town : List Arc
town = 1 — 0 ⟶ 1 ∷ 9 — 0 ⟶ 2 ∷ 3 — 1 ⟶ 2 ∷ 9 — 1 ⟶ 3 ∷ 3 — 2 ⟶ 1 ∷ 1 — 2 ⟶ 3 ∷ []

abbrev pub sides : List ℕ
sides = 0 ∷ 0 ∷ 7 ∷ 0 ∷ 7 ∷ 0 ∷ []

-- two routes from 0 to 3 that share nothing
abbrev apart : Net → Query
apart net = record { net = net; s = 0; t = 3; a = 0; b = 1; room = ample }

abbrev Two : Net → ℕ → List (List ℕ) → Type 0
Two net outcome routes = ((told 1 (rounds (apart net) 2 [])).outcome ≡ outcome) × (answers_for (apart net) 2 ≡ routes)

-- without road numbers the second goes down the street the other way; with them there is none
pub other_way : Two (plain 4 town) found ((0 ∷ 2 ∷ 5 ∷ []) ∷ (1 ∷ 4 ∷ 3 ∷ []) ∷ []) × Two (streets sides (plain 4 town)) fewer ((0 ∷ 2 ∷ 5 ∷ []) ∷ [])
unfolding rounds_by answers length_of told driven
other_way = ((refl, refl), (refl, refl))

-- arcs 0, 2 and 3 are of one road
abbrev pub bends : List Arc
bends = 2 — 0 ⟶ 1 ∷ 3 — 1 ⟶ 2 ∷ 4 — 0 ⟶ 3 ∷ 5 — 3 ⟶ 2 ∷ 1 — 3 ⟶ 2 ∷ []

abbrev pub bending : Net
bending = streets (7 ∷ 0 ∷ 7 ∷ 7 ∷ 0 ∷ []) (plain 4 bends)

pub by-road :
    (overlap bending (2 ∷ 3 ∷ []) (0 ∷ 1 ∷ []) ≡ 9) × (overlap bending (2 ∷ 4 ∷ []) (0 ∷ 1 ∷ []) ≡ 4) × (overlap bending (0 ∷ 1 ∷ []) (2 ∷ 3 ∷ []) ≡ 2)
    × (overlap bending (4 ∷ []) (1 ∷ []) ≡ 0) × (overlap bending (1 ∷ []) (0 ∷ 1 ∷ []) ≡ 3)
unfolding overlap length_of driven
by-road = (refl, refl, refl, refl, refl)
