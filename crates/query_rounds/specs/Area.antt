-- The route area after a query.
use Rattle.std.specs.Prelude.{List, [], ◌∷◌, ◌++◌, ℕ, zero, suc, ◌*◌, drop, replicate}
use Rattle.labels.specs.Field.{no_number}
use Rattle.labels.specs.Chain.{slot_of}

-- "The answer of round r (from 1) stands in its own slot of (nodes − 1) words, the r-th, arc numbers first; the remaining words of the slot are 4,294,967,295, as is
-- every word of an unfilled slot." k slots of w words for the answers ps.
unfoldable pub slots : ℕ → ℕ → List (List ℕ) → List ℕ
slots w zero ps = []
slots w (suc k) [] = replicate w no_number ++ slots w k []
slots w (suc k) (p ∷ ps) = slot_of w p ++ slots w k ps

-- "Words after the k-th slot are untouched."
unfoldable pub area_with : ℕ → ℕ → List ℕ → List (List ℕ) → List ℕ
unfolding slots
area_with w k area ps = slots w k ps ++ drop (k * w) area
