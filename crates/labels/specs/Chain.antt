-- The chains that the labels in the bytes stand for.
use Rattle.std.specs.Prelude.{List, [], ◌∷◌, ◌++◌, map, cond, ℕ, zero, suc, ◌-◌, eqb, length, replicate}
use Rattle.lists.specs.Tests.{up_from}
use Rattle.net.specs.Labels.{Label, start, extend}
use Rattle.labels.specs.Field.{no_number, last_arc_at, extends_at}

-- Label 0 is the empty chain; another is the chain of the label that it extends, and its last arc. f steps at most.
unfoldable pub steps : ℕ → List ℕ → ℕ → List ℕ
steps zero l i = []
steps (suc f) l zero = []
steps (suc f) l (suc i) = steps f l (extends_at l (suc i)) ++ (last_arc_at l (suc i) ∷ [])

-- A label extends a lower one, so its own number of steps is enough.
unfoldable pub chain_at : List ℕ → ℕ → List ℕ
unfolding steps
chain_at l i = steps i l i

-- The chains of the first n labels.
unfoldable pub chains_in : List ℕ → ℕ → List (List ℕ)
unfolding chain_at up_from
chains_in l n = map (chain_at l) (up_from 0 n)

-- A label as the theory has it: "by its last arc, if any, and the label it extends".
unfoldable pub label_at : List ℕ → ℕ → Label
label_at l i = cond (eqb (last_arc_at l i) no_number) start (extend (extends_at l i) (last_arc_at l i))

-- The first n labels.
unfoldable pub labels_in : List ℕ → ℕ → List Label
unfolding label_at up_from
labels_in l n = map (label_at l) (up_from 0 n)

-- "arc numbers first; the remaining words of the slot are 4,294,967,295"
abbrev pub slot_of : ℕ → List ℕ → List ℕ
slot_of w p = p ++ replicate (w - length p) no_number
