-- The first route from v to t by the distances D to t: at each node the lowest arc that is just as long as what it brings nearer.
use Rattle.std.specs.Prelude.{◌≡◌, List, [], ◌∷◌, ℕ, ◌+◌, ◌≤◌, T}
use Rattle.net.specs.Net.{Net, arc}
use Rattle.net.specs.Route.{leaves}

-- a leaves v and lies on a shortest chain to t.
pub record Nearer (net : Net) (D : ℕ → ℕ) (v a : ℕ) : Type 0 where
  pub is-leaving : T (leaves net v a)
  pub just : (arc net.arcs a).len + D (arc net.arcs a).to ≡ D v

-- It is the lowest such.
pub record Pick (net : Net) (D : ℕ → ℕ) (v a : ℕ) : Type 0 where
  pub nearer : Nearer net D v a
  pub lowest : (b : ℕ) → Nearer net D v b → a ≤ b

unfoldable pub Greedy : Net → ℕ → (ℕ → ℕ) → ℕ → List ℕ → Type 0
Greedy net t D v [] = v ≡ t
Greedy net t D v (a ∷ p) = Pick net D v a × Greedy net t D (arc net.arcs a).to p
