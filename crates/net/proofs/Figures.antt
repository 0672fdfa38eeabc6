-- Document 01's proved cases, computed: each query of the table shows what the table says.
use mathlib.Core.Bool.{false}
use mathlib.Core.List.{[], ◌∷◌, map}
use mathlib.Core.Path.{◌≡◌, refl}
use Rattle.net.specs.Outcome.{reply_by, reply}
use Rattle.net.specs.Labels.{start, extend, held_by, held}
use Rattle.net.specs.Figures.{figures, on_t, r03, ring}
use Rattle.net.specs.Net.{plain}
use Rattle.net.specs.Route.{partial, length_of, partials_by, partials}

pub figures-hold : map (λ f. reply f.asked f.k) figures ≡ map (λ f. f.due) figures
unfolding reply_by
figures-hold = refl

-- The labels of P2's second round.
pub labels-of-P2 : held (on_t 1 2) (r03 ∷ []) ≡ start ∷ extend 0 0 ∷ extend 1 2 ∷ extend 0 1 ∷ extend 2 4 ∷ []
unfolding held_by
labels-of-P2 = refl

-- A walk that comes back to its start is no partial route.
pub ring-partials : partials (plain 2 ring) 0 ≡ [] ∷ (0 ∷ []) ∷ []
unfolding partials_by length_of
ring-partials = refl

pub ring-partial : partial (plain 2 ring) 0 (0 ∷ 1 ∷ []) ≡ false
unfolding partial
ring-partial = refl
