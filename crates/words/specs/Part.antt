-- A list with a part of it changed, and a list in slots of one width.
use Rattle.std.specs.Prelude.{List, ◌++◌, ℕ, ◌*◌, take, drop}

-- ys in the place of the elements from a to e
unfoldable pub patch : {X : Type 0} → ℕ → ℕ → List X → List X → List X
patch a e l ys = take a l ++ (ys ++ drop e l)

-- the slot number r, from 0, of w elements
unfoldable pub slot : ℕ → ℕ → List ℕ → List ℕ
slot w r l = take w (drop (r * w) l)
