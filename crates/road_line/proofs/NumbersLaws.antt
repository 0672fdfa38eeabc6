-- Where n numbers stand in a line, there are n of them.
use mathlib.Core.Path.{◌≡◌, refl, ap}
use mathlib.Core.Bool.{Bool, true, false, cond}
use mathlib.Core.List.{List, [], ◌∷◌}
use mathlib.Core.Option.{Option, none, some}
use Prim.Native.Nat.{ℕ, zero, suc}
use lib.Dec.{eqb}
use lib.ListN.{length, get_or}
use Rattle.numerals.specs.Decimal.{Number, number}
use Rattle.road_line.specs.Line.{prepend, last_number, with_number, past, numbers_in}

abbrev pub Sized : ℕ → Option (List ℕ) → Type 0
Sized n none = Unit {0}
Sized n (some vs) = length vs ≡ n

sized-if : (t : Bool) (n : ℕ) (o : Option (List ℕ)) → Sized n o → Sized n (cond t o none)
sized-if true n o h = h
sized-if false n o h = tt

sized-prepend : (v n : ℕ) (o : Option (List ℕ)) → Sized n o → Sized (suc n) (prepend v o)
unfolding prepend
sized-prepend v n none h = tt
sized-prepend v n (some vs) h = ap suc h

sized-last : (l : List ℕ) (o : Option Number) → Sized 1 (last_number l o)
unfolding last_number
sized-last l none = tt
sized-last l (some x) = sized-if (eqb x.takes (length l)) 1 (some (x.is ∷ [])) refl

sized-with : (n : ℕ) (l : List ℕ) (o : Option Number) (rest : Option (List ℕ)) → Sized n rest → Sized (suc n) (with_number l o rest)
unfolding with_number
sized-with n l none rest h = tt
sized-with n l (some x) rest h = sized-if (eqb (get_or l x.takes 0) 32) (suc n) (prepend x.is rest) (sized-prepend x.is n rest h)

pub numbers-sized : (n : ℕ) (l : List ℕ) → Sized n (numbers_in n l)
unfolding numbers_in
numbers-sized zero l = tt
numbers-sized (suc zero) l = sized-last l (number l)
numbers-sized (suc (suc n)) l = sized-with (suc n) l (number l) (numbers_in (suc n) (past l (number l))) (numbers-sized (suc n) (past l (number l)))
