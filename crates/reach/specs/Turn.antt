-- A node's turn in a search: it is done last, and some of its arcs are yet to be looked at.
use Rattle.std.specs.Prelude.{◌≡◌, List, ℕ, ◌≤◌, T}
use Rattle.net.specs.Net.{Net, arc}
use Rattle.distances.specs.Search.{Nothing}
use Rattle.reach.specs.declared.Stand.{Stand}
use Rattle.reach.specs.Stand.{dist_in, done_in, Elsewhere}
use Rattle.reach.specs.Looking.{Looking}

-- The arcs that leave u, from number a on.
abbrev pub Waiting : Net → ℕ → ℕ → ℕ → Type 0
Waiting net u a b = ((arc net.arcs b).from ≡ u) × (a ≤ b)

-- Between two nodes: no arc is left to look at.
pub record Ready (net : Net) (s : ℕ) (x : Stand) (l : List ℕ) (root : ℕ) : Type 0 where
  pub level : ℕ
  pub looking : Looking net s x l root level Nothing

-- Since the room was l, nodes done have stayed done.
pub record Since (net : Net) (x : Stand) (l m : List ℕ) : Type 0 where
  pub elsewhere : Elsewhere x l m
  pub stays : (v : ℕ) → T (done_in x net.nodes l v) → T (done_in x net.nodes m v)

-- The turn of node u at distance d, which began when the room was l: the arcs that are pending are yet to be looked at.
pub record Turning (net : Net) (s : ℕ) (x : Stand) (l m : List ℕ) (root u d : ℕ) (Pending : ℕ → Type 0) : Type 0 where
  pub looking : Looking net s x m root d Pending
  pub since : Since net x l m
  pub is-done : T (done_in x net.nodes m u)
  pub is-level : dist_in x net.nodes m u ≡ d

-- Those from number a on are.
abbrev pub Turn : Net → ℕ → Stand → List ℕ → List ℕ → ℕ → ℕ → ℕ → ℕ → Type 0
Turn net s x l m root u d a = Turning net s x l m root u d (Waiting net u a)

-- The turn of u is over.
pub record Over (net : Net) (s : ℕ) (x : Stand) (l m : List ℕ) (root u : ℕ) : Type 0 where
  pub ready : Ready net s x m root
  pub since : Since net x l m
  pub is-done : T (done_in x net.nodes m u)
