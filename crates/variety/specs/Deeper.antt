-- "The listing goes deeper one unvisited node at a time": by recursion over the extensions of a simple chain, and no further where the length so far and the distance
-- D still to go exceed the limit. What is found is put in its place in the list.
use Rattle.std.specs.Prelude.{◌≡◌, Bool, cond, ℕ, zero, suc, ◌+◌, ◌*◌, ◌≤◌, T, leb, eqb}
use mathlib.Core.List.{List, [], ◌∷◌, flat_map}
use Rattle.lists.specs.Tests.{keep}
use Rattle.net.specs.Net.{Arc, Net, arc}
use Rattle.net.specs.Route.{end_of, partial, length_of, extensions, insert}
use Rattle.distances.specs.Search.{Open}

-- A chain may still arrive in range.
unfoldable pub may_arrive : List Arc → ℕ → (ℕ → ℕ) → ℕ → ℕ → List ℕ → Bool
unfolding length_of end_of
may_arrive arcs s D d most p = leb ((length_of arcs p + D (end_of arcs s p)) * d) most

-- The routes in range that go on from p by at most n arcs.
unfoldable pub deeper : Net → ℕ → ℕ → (ℕ → ℕ) → ℕ → ℕ → ℕ → List ℕ → List (List ℕ)
unfolding end_of keep may_arrive extensions flat_map
deeper net s t D d most zero p = cond (eqb (end_of net.arcs s p) t) (p ∷ []) []
deeper net s t D d most (suc n) p =
    cond (eqb (end_of net.arcs s p) t) (p ∷ [])
    (flat_map (deeper net s t D d most n) (keep (may_arrive net.arcs s D d most) (extensions net s p)))

-- Each put in its place in the order of rule 3, one by one.
unfoldable pub insert_all : List Arc → List (List ℕ) → List (List ℕ) → List (List ℕ)
unfolding insert length_of
insert_all arcs list [] = list
insert_all arcs list (x ∷ xs) = insert_all arcs (insert (length_of arcs) x list) xs

-- A route in range.
pub record InRange (net : Net) (s t d most : ℕ) (p : List ℕ) : Type 0 where
  pub is-partial : T (partial net s p)
  pub ends : end_of net.arcs s p ≡ t
  pub in-range : length_of net.arcs p * d ≤ most

-- D does not say more than the distance to t: it is 0 at t, and no arc's length falls short of it.
pub record ToGo (net : Net) (t : ℕ) (D : ℕ → ℕ) : Type 0 where
  pub zero-t : D t ≡ 0
  pub relaxed : (a : ℕ) → Open net a → D (arc net.arcs a).from ≤ D (arc net.arcs a).to + (arc net.arcs a).len
