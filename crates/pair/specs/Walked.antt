-- How the pair (02.10) is read off marks at the nodes. P is the first search's route to t, R the second search's, through the residual net of P. The arcs of the
-- pair are those of P that are not on R and those of R that are not on P. `none` is the mark of a node that has no arc.
use Rattle.std.specs.Prelude.{◌≡◌, ◌⊎◌, Bool, ◌&&◌, cond, ℕ, ◌+◌, ◌-◌, ◌≤◌, T, ltb, eqb, length}
use mathlib.Core.List.{List, [], ◌∷◌, ◌++◌, Memᴰ}
use Rattle.lists.specs.Tests.{has}
use Rattle.net.specs.Net.{Arc, Net, arc}
use Rattle.net.specs.Route.{end_of, leaves, chain, partial, length_of}
use Rattle.distances.specs.Search.{Open, Steady}
use Rattle.distances.specs.Turned.{residual}
use Rattle.pair.specs.Pair.{pair}

-- ---- What two searches find.

-- P is a partial route to t, of length π t, and each of its arcs is the parent of the node that it comes to.
pub record Shortest (net : Net) (s t : ℕ) (π parent : ℕ → ℕ) (P : List ℕ) : Type 0 where
  pub is-partial : T (partial net s P)
  pub ends : end_of net.arcs s P ≡ t
  pub is-long : length_of net.arcs P ≡ π t
  pub follows : (a : ℕ) → Memᴰ a P → parent (arc net.arcs a).to ≡ a

pub record Both (net : Net) (s t : ℕ) (π parent : ℕ → ℕ) (P : List ℕ) (d parent₂ : ℕ → ℕ) (R : List ℕ) : Type 0 where
  pub one : Steady net s π
  pub short : Shortest net s t π parent P
  pub two : Steady (residual net π P) s d
  pub short₂ : Shortest (residual net π P) s t d parent₂ R

-- ---- Marks.

-- `out v` is the arc of a set that leaves v.
pub record Marks (arcs : List Arc) (none : ℕ) (Set : ℕ → Type 0) (out : ℕ → ℕ) : Type 0 where
  pub marked : (a : ℕ) → Set a → out (arc arcs a).from ≡ a
  pub only : (v : ℕ) → (out v ≡ none) ⊎ (Set (out v) × ((arc arcs (out v)).from ≡ v))

abbrev pub On : List ℕ → ℕ → Type 0
On P a = Memᴰ a P

abbrev pub Kept : List ℕ → List ℕ → ℕ → Type 0
Kept P R a = On P a × (On R a → ⊥)

abbrev pub Added : List ℕ → List ℕ → ℕ → Type 0
Added P R a = (On P a → ⊥) × On R a

-- Arc a of the net leads from v to w, at length c.
pub record Leads (net : Net) (v a w c : ℕ) : Type 0 where
  pub is_open : Open net a
  pub from_is : (arc net.arcs a).from ≡ v
  pub to_is : (arc net.arcs a).to ≡ w
  pub is-long : (arc net.arcs a).len ≡ c

-- Arc b comes to v and is marked: the residual net leads back over it.
unfoldable pub comes_back : List Arc → (ℕ → ℕ) → ℕ → ℕ → Bool
comes_back arcs out v b = ltb b (length arcs) && eqb (arc arcs b).to v && eqb (out (arc arcs b).from) b

-- Of a node u that the second search has taken up, what is not yet looked at: its own arcs from number a, without its mark; and the arc back over.
abbrev pub Ahead : Net → (ℕ → ℕ) → ℕ → ℕ → ℕ → Type 0
Ahead net out u a x = T (leaves net u x) × (out u ≡ x → ⊥) × (a ≤ x)

abbrev pub Backward : List Arc → (ℕ → ℕ) → (ℕ → ℕ) → ℕ → ℕ → Type 0
Backward arcs out parent u x = (parent u ≡ x) × T (comes_back arcs out u x)

abbrev pub Waits : Net → (ℕ → ℕ) → (ℕ → ℕ) → ℕ → ℕ → ℕ → Type 0
Waits net out parent u a x = Ahead net out u a x ⊎ Backward net.arcs out parent u x

-- The way back from t along a route p of a net, by parents: at v, `front` lies before it and the k arcs `read` behind it.
pub record Behind (net : Net) (s : ℕ) (p : List ℕ) (v k : ℕ) (front read : List ℕ) : Type 0 where
  pub whole : p ≡ front ++ read
  pub at : end_of net.arcs s front ≡ v
  pub is-long : length read ≡ k

-- Along P: what is behind is marked.
pub record Marking (net : Net) (s none : ℕ) (P : List ℕ) (v k : ℕ) (out : ℕ → ℕ) : Type 0 where
  pub front : List ℕ
  pub read : List ℕ
  pub behind : Behind net s P v k front read
  pub marks : Marks net.arcs none (On read) out

-- Along R: of P, what is behind has lost its mark; the rest of what is behind is marked in `out₂`.
pub record Undoing (net : Net) (s none : ℕ) (π : ℕ → ℕ) (P R : List ℕ) (v k : ℕ) (out₁ out₂ : ℕ → ℕ) : Type 0 where
  pub front : List ℕ
  pub read : List ℕ
  pub behind : Behind (residual net π P) s R v k front read
  pub kept : Marks net.arcs none (Kept P read) out₁
  pub added : Marks net.arcs none (Added P read) out₂

-- ---- The two walks.

unfoldable pub total : (ℕ → ℕ) → List ℕ → ℕ
total w [] = 0
total w (x ∷ xs) = w x + total w xs

-- 1 where x is y, else 0
unfoldable pub same : ℕ → ℕ → ℕ
same x y = cond (eqb x y) 1 0

-- How often x stands in the list.
unfoldable pub count : ℕ → List ℕ → ℕ
unfolding total same
count x ys = total (same x) ys

-- How often arc x is in the pair.
unfoldable pub chosen : List ℕ → List ℕ → ℕ → ℕ
unfolding has count
chosen P R x = cond (has x P) (1 - count x R) (count x R)

-- W is walked, and can go on to t by `rest`; `other` is the other chain. `all x`: how often they have arc x.
pub record Walked (net : Net) (s t : ℕ) (all : ℕ → ℕ) (W rest other : List ℕ) : Type 0 where
  pub W-chain : T (chain net s (W ++ rest))
  pub W-end : end_of net.arcs s (W ++ rest) ≡ t
  pub other-chain : T (chain net s other)
  pub other-end : end_of net.arcs s other ≡ t
  pub parts : (x : ℕ) → count x W + count x rest + count x other ≡ all x

-- The arc that a walk goes on by: that of the one mark, or, where it is none, that of the other.
unfoldable pub pick : ℕ → ℕ → ℕ → ℕ
pick none a b = cond (eqb a none) b a

-- The first walk, at v: by arcs of P where it can.
pub record First (net : Net) (s t : ℕ) (P R : List ℕ) (v : ℕ) (W : List ℕ) : Type 0 where
  pub rest : List ℕ
  pub other : List ℕ
  pub at : end_of net.arcs s W ≡ v
  pub walked : Walked net s t (chosen P R) W rest other
  pub prefers : (a : ℕ) → On W a → (On P a → ⊥) → (b : ℕ) → Kept P R b → (arc net.arcs b).from ≡ (arc net.arcs a).from → ⊥

-- The second walk, at v, after the first, W: by arcs off P where it can. It is what W leaves over.
pub record Second (net : Net) (s t : ℕ) (P R W : List ℕ) (v : ℕ) (X : List ℕ) : Type 0 where
  pub rest : List ℕ
  pub at : end_of net.arcs s X ≡ v
  pub walked : Walked net s t (chosen P R) W [] (X ++ rest)
  pub prefers : (b : ℕ) → On (X ++ rest) b → On P b → (r : ℕ) → Added P R r → (arc net.arcs r).from ≡ (arc net.arcs b).from → ⊥

-- A pair of least total n, in either order.
pub record Taken (net : Net) (s t n : ℕ) (p q : List ℕ) : Type 0 where
  pub is-pair : T (pair net s t p q)
  pub is-long : length_of net.arcs p + length_of net.arcs q ≡ n
  pub least : (x y : List ℕ) → T (pair net s t x y) → n ≤ length_of net.arcs x + length_of net.arcs y
