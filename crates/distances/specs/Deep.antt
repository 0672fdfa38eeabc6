-- The first routes from s to all nodes, by the distances π from s: go deeper first, at each node by the arcs on shortest chains from the lowest number up, to nodes not
-- yet seen. `p` is the chain gone down by, `c` the next arc to try at its end: what comes before p and c has been tried. `rank` numbers the nodes as they are entered.
use Rattle.std.specs.Prelude.{◌≡◌, ◌⊎◌, Bool, ℕ, ◌+◌, ◌<◌, T}
use mathlib.Core.List.{List, [], ◌∷◌, ◌++◌, Memᴰ}
use Rattle.net.specs.Net.{Net, arc}
use Rattle.net.specs.Route.{end_of, chain, numbers_first}

-- a is just as long as what lies between its nodes.
abbrev pub Just : Net → (ℕ → ℕ) → ℕ → Type 0
Just net π a = π (arc net.arcs a).to ≡ π (arc net.arcs a).from + (arc net.arcs a).len

-- A chain from s that is as short as can be.
pub record Short (net : Net) (s : ℕ) (π : ℕ → ℕ) (q : List ℕ) : Type 0 where
  pub is-chain : T (chain net s q)
  pub is-just : (a : ℕ) → Memᴰ a q → Just net π a

-- r is a shortest chain to v, told by parents, and comes first of them.
pub record Branch (net : Net) (s : ℕ) (π parent : ℕ → ℕ) (v : ℕ) (r : List ℕ) : Type 0 where
  pub is-short : Short net s π r
  pub ends : end_of net.arcs s r ≡ v
  pub follows : (a : ℕ) → Memᴰ a r → parent (arc net.arcs a).to ≡ a
  pub first : (q : List ℕ) → Short net s π q → end_of net.arcs s q ≡ v → (r ≡ q) ⊎ T (numbers_first r q)

-- m nodes were entered.
pub record Deep (net : Net) (s : ℕ) (π : ℕ → ℕ) (seen : ℕ → Bool) (parent rank : ℕ → ℕ) (m : ℕ) (p : List ℕ) (c : ℕ) : Type 0 where
  pub stack : Short net s π p
  pub stack-follows : (a : ℕ) → Memᴰ a p → parent (arc net.arcs a).to ≡ a
  pub tried : (q : List ℕ) → Short net s π q → T (numbers_first q (p ++ (c ∷ []))) → T (seen (end_of net.arcs s q))
  pub branch : (v : ℕ) → T (seen v) → (r : List ℕ) × Branch net s π parent v r × T (numbers_first r (p ++ (c ∷ [])))
  pub ranked : (v : ℕ) → T (seen v) → rank v < m
  pub entered : (r : ℕ) → r < m → (v : ℕ) × T (seen v) × (rank v ≡ r)
  pub apart : (v w : ℕ) → T (seen v) → T (seen w) → rank v ≡ rank w → v ≡ w
  -- a node entered earlier has the branch that comes first
  pub ordered : (v w : ℕ) → T (seen v) → T (seen w) → rank v < rank w
      → (x y : List ℕ) → Branch net s π parent v x → Branch net s π parent w y → T (numbers_first x y)
