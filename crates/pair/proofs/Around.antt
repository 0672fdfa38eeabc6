-- What the second search has yet to look at, of a node u that it has taken up: all that leaves u in the residual net as its turn begins; then u's own arcs are
-- passed in turn, and what is left last is the arc back, which is u's parent.
use mathlib.Core.Path.{◌≡◌}
use mathlib.Core.Logic.{◌⊎◌, inl, inr}
use mathlib.Core.List.{List}
use Prim.Native.Nat.{ℕ, ◌≤◌}
use native.Mathlib.Omega.{arith}
use lib.Dec.{T}
use lib.ListN.{length}
use Rattle.net.specs.Net.{Net, arc}
use Rattle.net.specs.Route.{leaves}
use Rattle.distances.specs.Search.{Open}
use Rattle.distances.specs.Turned.{residual}
use Rattle.pair.specs.Walked.{Shortest, Marks, On, comes_back, Backward, Waits}
use Rattle.pair.proofs.Steps.{residual-out}

-- what leaves u in the residual net waits as its turn begins
pub waits-first : (net : Net) (s t : ℕ) (π parent : ℕ → ℕ) (P : List ℕ) → Shortest net s t π parent P → (none : ℕ) → length net.arcs ≤ none → (out : ℕ → ℕ) → Marks net.arcs none (On P) out
    → (u x : ℕ) → Open (residual net π P) x → (arc (residual net π P).arcs x).from ≡ u → Waits net out parent u 0 x
waits-first net s t π parent P short none past out marks u x o e = go (residual-out net s t π parent P short none past out marks u x o e)
  where
    go : (T (leaves net u x) × (out u ≡ x → ⊥)) ⊎ ((parent u ≡ x) × T (comes_back net.arcs out u x)) → Waits net out parent u 0 x
    go (inl h) = inl (h.0, h.1, omega arith)
    go (inr h) = inr h

module _ (net : Net) (out parent : ℕ → ℕ) (u a x : ℕ) where
  -- from a on to b, if no arc of its own lies between
  pub waits-on : (b : ℕ) → (T (leaves net u x) → (out u ≡ x → ⊥) → a ≤ x → b ≤ x) → (Waits net out parent u b x → ⊥) → Waits net out parent u a x → ⊥
  waits-on b on n (inl h) = n (inl (h.0, h.1, on h.0 h.1 h.2))
  waits-on b on n (inr h) = n (inr h)

  -- its own arcs are over: what waits yet is the arc back
  pub waits_back : (T (leaves net u x) → a ≤ x → ⊥) → (Backward net.arcs out parent u x → ⊥) → Waits net out parent u a x → ⊥
  waits_back over n (inl h) = over h.0 h.2
  waits_back over n (inr h) = n h
