-- Tests over lists, and lists made by tests. All compute.
use mathlib.Core.List.{List, [], ◌∷◌}
use Rattle.std.specs.Prelude.{Bool, true, false, not, ◌&&◌, ◌||◌, ℕ, zero, suc, ltb, eqb}

-- x stands in the list
unfoldable pub has : ℕ → List ℕ → Bool
has x [] = false
has x (y ∷ ys) = eqb x y || has x ys

-- no number stands twice
unfoldable pub distinct : List ℕ → Bool
unfolding has
distinct [] = true
distinct (x ∷ xs) = not (has x xs) && distinct xs

-- x is below y; or they are equal, and `rest` decides
unfoldable pub lex : ℕ → ℕ → Bool → Bool
lex x y rest = ltb x y || (eqb x y && rest)

-- the n numbers from i on
unfoldable pub up_from : ℕ → ℕ → List ℕ
up_from i zero = []
up_from i (suc n) = i ∷ up_from (suc i) n

module _ {A : Type 0} where
  -- the test passes at each
  unfoldable pub every : (A → Bool) → List A → Bool
  every f [] = true
  every f (x ∷ xs) = f x && every f xs

  -- the test passes at one
  unfoldable pub any : (A → Bool) → List A → Bool
  any f [] = false
  any f (x ∷ xs) = f x || any f xs

  -- x in front, if the test passes
  unfoldable pub cons_if : Bool → A → List A → List A
  cons_if true x xs = x ∷ xs
  cons_if false x xs = xs

  -- those at which the test passes
  unfoldable pub keep : (A → Bool) → List A → List A
  unfolding cons_if
  keep f [] = []
  keep f (x ∷ xs) = cons_if (f x) x (keep f xs)
