-- What going deeper looks at from a chain's end: the arcs of its run, one by one.
use Rattle.std.specs.Prelude.{◌≡◌, Bool, not, ◌&&◌, cond, ℕ, ◌-◌, ◌≤◌}
use mathlib.Core.List.{List, [], ◌∷◌, ◌++◌, flat_map, Memᴰ}
use Rattle.lists.specs.Tests.{has, up_from}
use Rattle.net.specs.Net.{Net, arc}
use Rattle.net.specs.Route.{visited, end_of, leaves}
use Rattle.variety.specs.Deeper.{may_arrive, deeper}

-- The question: from s to t, over distances D to go, d times a length being at most `most`.
pub record Trip : Type 0 where
  pub net : Net
  pub s : ℕ
  pub t : ℕ
  pub D : ℕ → ℕ
  pub d : ℕ
  pub most : ℕ

-- Arc a goes on from p: to a node not yet visited, from which it may arrive.
unfoldable pub tries : Trip → List ℕ → ℕ → Bool
unfolding leaves has visited may_arrive
tries x p a =
    leaves x.net (end_of x.net.arcs x.s p) a
    && (not (has (arc x.net.arcs a).to (visited x.net.arcs x.s p)) && may_arrive x.net.arcs x.s x.D x.d x.most (p ++ (a ∷ [])))

abbrev pub goes_on : Trip → ℕ → List ℕ → List (List ℕ)
goes_on x n p = deeper x.net x.s x.t x.D x.d x.most n p

-- What is found by arc a, with n arcs more.
unfoldable pub found_by : Trip → ℕ → List ℕ → ℕ → List (List ℕ)
unfolding tries deeper
found_by x n p a = cond (tries x p a) (goes_on x n (p ++ (a ∷ []))) []

-- What is found by the arcs from a to e.
abbrev pub left : Trip → ℕ → List ℕ → ℕ → ℕ → List (List ℕ)
left x n p a e = flat_map (found_by x n p) (up_from a (e - a))

pub record Begins (p r : List ℕ) : Type 0 where
  pub onward : List ℕ
  pub is : r ≡ p ++ onward

-- None of the listed begins with p; none with p and an arc from a on.
abbrev pub Fresh : List ℕ → List (List ℕ) → Type 0
Fresh p rs = (r : List ℕ) → Memᴰ r rs → Begins p r → ⊥

abbrev pub FreshFrom : ℕ → List ℕ → List (List ℕ) → Type 0
FreshFrom a p rs = (r : List ℕ) → Memᴰ r rs → (b : ℕ) → a ≤ b → Begins (p ++ (b ∷ [])) r → ⊥
