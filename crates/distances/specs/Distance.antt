-- The first route to a node, and the distance of a node.
use Rattle.std.specs.Prelude.{◌≡◌, ◌⊎◌, ℕ, ◌≤◌, T, eqb}
use mathlib.Core.List.{List, head?}
use Rattle.std.proofs.Math.Option.{Option, none, some}
use Rattle.lists.specs.Tests.{keep}
use Rattle.net.specs.Net.{Net}
use Rattle.net.specs.Route.{end_of, chain, partial, length_of, precedes, partials_by, partials}

-- "the first route from s to it", in the order of rule 3
unfoldable pub first_to : Net → ℕ → ℕ → Option (List ℕ)
unfolding keep end_of partials_by
first_to net s v = head? (keep (λ p. eqb (end_of net.arcs s p) v) (partials net s))

unfoldable pub length_in : Net → Option (List ℕ) → Option ℕ
unfolding length_of
length_in net none = none
length_in net (some p) = some (length_of net.arcs p)

-- The least length of a chain from s to v.
unfoldable pub distance : Net → ℕ → ℕ → Option ℕ
unfolding first_to length_in
distance net s v = length_in net (first_to net s v)

-- ---- What they are.

-- p is a partial route from s to v, and none precedes it.
pub record FirstRoute (net : Net) (s v : ℕ) (p : List ℕ) : Type 0 where
  pub is-partial : T (partial net s p)
  pub ends : end_of net.arcs s p ≡ v
  pub leads : (r : List ℕ) → T (partial net s r) → end_of net.arcs s r ≡ v → (p ≡ r) ⊎ T (precedes net.arcs p r)

pub record Distance (net : Net) (s v d : ℕ) : Type 0 where
  pub reached : (p : List ℕ) × T (partial net s p) × (end_of net.arcs s p ≡ v) × (length_of net.arcs p ≡ d)
  pub least : (q : List ℕ) → T (chain net s q) → end_of net.arcs s q ≡ v → d ≤ length_of net.arcs q

abbrev pub Unreached : Net → ℕ → ℕ → Type 0
Unreached net s v = (q : List ℕ) → T (chain net s q) → end_of net.arcs s q ≡ v → ⊥
