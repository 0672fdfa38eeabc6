-- The search for distances from s (Dijkstra), over any net: lengths may be 0. `d v` is the least length known to v, `far` where none is; `done` tells the
-- nodes whose arcs have been looked at; `parent v` is the last arc of the chain known.
use Rattle.std.specs.Prelude.{◌≡◌, ◌⊎◌, Bool, not, ℕ, ◌+◌, ◌<◌, ◌≤◌, T, length}
use mathlib.Core.List.{List, Memᴰ}
use Rattle.net.specs.Net.{Net, arc}
use Rattle.net.specs.Route.{visited, end_of, partial, length_of}

-- a is an arc that a chain may have.
abbrev pub Open : Net → ℕ → Type 0
Open net a = (a < length net.arcs) × T (net.usable a)

-- No arc is pending.
abbrev pub Nothing : ℕ → Type 0
Nothing a = ⊥

-- Numbers of the nodes, 0 at s, that no arc's length falls short of.
pub record Steady (net : Net) (s : ℕ) (d : ℕ → ℕ) : Type 0 where
  pub zero-s : d s ≡ 0
  pub relaxed : (a : ℕ) → Open net a → d (arc net.arcs a).to ≤ d (arc net.arcs a).from + (arc net.arcs a).len

-- What a search leaves: `d v` is the distance of v, or `far` where v is not reached.
pub record Found (net : Net) (s far : ℕ) (d parent : ℕ → ℕ) : Type 0 where
  pub zero-s : d s ≡ 0
  pub most : (v : ℕ) → d v ≤ far
  pub relaxed : (a : ℕ) → Open net a → d (arc net.arcs a).to ≤ d (arc net.arcs a).from + (arc net.arcs a).len
  pub real : (v : ℕ) → d v < far
      → (p : List ℕ) × T (partial net s p) × (end_of net.arcs s p ≡ v) × (length_of net.arcs p ≡ d v) × ((a : ℕ) → Memᴰ a p → parent (arc net.arcs a).to ≡ a)

-- p is a partial route to v, of length n, through nodes that are done, and each of its arcs is the parent of the node that it comes to.
pub record Reaches (net : Net) (s : ℕ) (done : ℕ → Bool) (parent : ℕ → ℕ) (v n : ℕ) (p : List ℕ) : Type 0 where
  pub is-partial : T (partial net s p)
  pub ends : end_of net.arcs s p ≡ v
  pub is-long : length_of net.arcs p ≡ n
  pub through : (u : ℕ) → Memᴰ u (visited net.arcs s p) → (u ≡ v) ⊎ T (done u)
  pub follows : (a : ℕ) → Memᴰ a p → parent (arc net.arcs a).to ≡ a

-- `level`: no node that is done is further, and none that is not is nearer. `Pending`: arcs from a node that is done but that are not yet looked at.
pub record Search (net : Net) (s far : ℕ) (done : ℕ → Bool) (d parent : ℕ → ℕ) (level : ℕ) (Pending : ℕ → Type 0) : Type 0 where
  pub zero-s : d s ≡ 0
  pub most : (v : ℕ) → d v ≤ far
  pub real : (v : ℕ) → d v < far → (p : List ℕ) × Reaches net s done parent v (d v) p
  pub relaxed : (a : ℕ) → Open net a → T (done (arc net.arcs a).from) → (Pending a → ⊥) → d (arc net.arcs a).to ≤ d (arc net.arcs a).from + (arc net.arcs a).len
  pub below : (v : ℕ) → T (done v) → d v ≤ level
  pub above : (v : ℕ) → T (not (done v)) → level ≤ d v
