-- What the labels of a round hold.
use Rattle.std.specs.Prelude.{List, [], ◌∷◌, ◌++◌, map, Bool, true, false, ◌&&◌, cond, ℕ, suc, eqb, take, get_or}
use Rattle.net.specs.Route.{length_of}
use Rattle.net.specs.Round.{Query, counted_by}

-- "by its last arc, if any, and the label it extends": the label extended comes first here.
pub data Label : Type 0 where
  start : Label
  extend : ℕ → ℕ → Label

unfoldable pub same : List ℕ → List ℕ → Bool
same [] [] = true
same [] (b ∷ q) = false
same (a ∷ p) [] = false
same (a ∷ p) (b ∷ q) = eqb a b && same p q

-- The place of p in ps, from 0.
unfoldable pub place_of : List ℕ → List (List ℕ) → ℕ
unfolding same
place_of p [] = 0
place_of p (q ∷ qs) = cond (same p q) 0 (suc (place_of p qs))

-- The label of the chain `front ++ p`, whose arcs in `front` are passed already.
unfoldable pub label_from : List (List ℕ) → List ℕ → List ℕ → Label
unfolding place_of
label_from ps front [] = start
label_from ps front (a ∷ []) = extend (place_of front ps) a
label_from ps front (a ∷ b ∷ p) = label_from ps (front ++ (a ∷ [])) (b ∷ p)

-- The labels of the chains ps: each by its last arc, and the place of the chain that it extends.
unfoldable pub labels : List (List ℕ) → List Label
unfolding label_from
labels ps = map (label_from ps []) ps

-- "the i-th label holds the i-th counted partial route in order of rule 3 [...]; under 11 the labels hold the first ones, as many as the room"
unfoldable pub held_by : (List ℕ → ℕ) → Query → List (List ℕ) → List Label
unfolding labels counted_by
held_by f q earlier = labels (take q.room (counted_by f q earlier))

abbrev pub held : Query → List (List ℕ) → List Label
held q = held_by (length_of q.net.arcs) q

-- ---- Reading them back.

-- The chain of a label that follows labels of these chains.
unfoldable pub chain_of : List (List ℕ) → Label → List ℕ
chain_of done start = []
chain_of done (extend i a) = get_or done i [] ++ (a ∷ [])

unfoldable pub chains_from : List (List ℕ) → List Label → List (List ℕ)
unfolding chain_of
chains_from done [] = done
chains_from done (l ∷ ls) = chains_from (done ++ (chain_of done l ∷ [])) ls

unfoldable pub chains : List Label → List (List ℕ)
unfolding chains_from
chains ls = chains_from [] ls
