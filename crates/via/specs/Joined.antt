-- What a search for the profile looks at: for each node that has both first routes, the two joined, in the order of rule 3. Such a chain may cross itself, and two nodes
-- may have the same.
use Rattle.std.specs.Prelude.{◌≡◌, ◌⊎◌, Bool, ℕ, ◌<◌, ◌≤◌, T}
use Rattle.std.proofs.Math.Option.{Option, none, some}
use mathlib.Core.List.{List, [], ◌∷◌, ◌++◌, map, Memᴰ}
use Rattle.net.specs.Net.{Arc, Net}
use Rattle.net.specs.Route.{precedes}
use Rattle.distances.specs.Distance.{FirstRoute}
use Rattle.distances.specs.Deep.{Branch}
use Rattle.via.specs.Via.{first_route}

-- A route drives the roads of its own arcs.
abbrev pub DrivesOwn : Net → Type 0
DrivesOwn net = (p : List ℕ) (a : ℕ) → Memᴰ a p → T (net.drives p a)

unfoldable pub given : Option (List ℕ) → List ℕ
given none = []
given (some p) = p

-- The first route from v to w; no arc where there is none.
unfoldable pub first : Net → ℕ → ℕ → List ℕ
unfolding given first_route
first net v w = given (first_route net v w)

-- `to v` is the first route from s to v, `on v` that from v to t.
pub record Both (net : Net) (s t : ℕ) (to on : ℕ → List ℕ) (v : ℕ) : Type 0 where
  pub is-to : FirstRoute net s v (to v)
  pub is-on : FirstRoute net v t (on v)

abbrev pub joined : (ℕ → List ℕ) → (ℕ → List ℕ) → ℕ → List ℕ
joined to on v = to v ++ on v

-- None precedes one that stands before it.
abbrev pub NeverBack : List Arc → List (List ℕ) → Type 0
NeverBack arcs [] = Unit {0}
NeverBack arcs (p ∷ ps) = ((r : List ℕ) → Memᴰ r ps → (p ≡ r) ⊎ T (precedes arcs p r)) × NeverBack arcs ps

-- ns are the nodes that have both, in the order of their joined chains.
pub record InTurn (net : Net) (s t : ℕ) (to on : ℕ → List ℕ) (ns : List ℕ) : Type 0 where
  pub each : (v : ℕ) → Memᴰ v ns → Both net s t to on v
  pub all : (v : ℕ) (p r : List ℕ) → FirstRoute net s v p → FirstRoute net v t r → Memᴰ v ns
  pub in_order : NeverBack net.arcs (map (joined to on) ns)

-- ---- By lengths and ranks.

-- The depth-first walk from s entered v by `to v`, and `on v` is the first route from v to t.
pub record Entered (net : Net) (s t : ℕ) (π : ℕ → ℕ) (seen : ℕ → Bool) (parent : ℕ → ℕ) (to on : ℕ → List ℕ) (v : ℕ) : Type 0 where
  pub is_seen : T (seen v)
  pub is-branch : Branch net s π parent v (to v)
  pub is-on : FirstRoute net v t (on v)

-- v has the smaller key; at equal keys, it was not entered later. The key is the length of the joined chain.
abbrev pub Sooner : (ℕ → ℕ) → (ℕ → ℕ) → ℕ → ℕ → Type 0
Sooner key rank v w = (key v < key w) ⊎ ((key v ≡ key w) × (rank v ≤ rank w))

abbrev pub AllSooner : (ℕ → ℕ) → (ℕ → ℕ) → List ℕ → Type 0
AllSooner key rank [] = Unit {0}
AllSooner key rank (v ∷ ns) = ((w : ℕ) → Memᴰ w ns → Sooner key rank v w) × AllSooner key rank ns
