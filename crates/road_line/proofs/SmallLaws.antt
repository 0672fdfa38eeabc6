-- The numbers of a line are small: a number that is read is at most the greatest one, so each of those that stand in a line is, and a line has none but these. The
-- nodes of an arc are not 0, since such a line is other.
use mathlib.Core.Path.{◌≡◌, subst}
use mathlib.Core.Bool.{Bool, true, false, ◌&&◌, ◌||◌, cond}
use mathlib.Core.List.{List, [], ◌∷◌}
use mathlib.Core.Logic.{◌⊎◌, inl, inr}
use mathlib.Core.Option.{Option, none, some}
use Prim.Native.Nat.{ℕ, zero, suc, ◌≤◌}
use native.Mathlib.Omega.{arith}
use lib.Dec.{leb, eqb}
use lib.ListN.{length, get_or}
use borrow.Author.Tests.{leb-true}
use Rattle.lists.proofs.Cases.{cases}
use Rattle.numerals.specs.Decimal.{most_number, digits, value, well_formed, Number, number_of, number}
use Rattle.road_line.specs.Line.{Line, comment, sizes, arc, other, sizes_start, arc_start, after, prepend, last_number, with_number, past, numbers_in, is_comment, sizes_in, arc_with, arc_in, arc_line, sizes_line, line_of}
use Rattle.road_line.proofs.NodeLaws.{positive}

-- ---- a number, and the numbers

abbrev Held : Option Number → Type 0
Held none = Unit {0}
Held (some x) = x.is ≤ most_number

held_of : (ds : List ℕ) → Held (number_of ds)
unfolding number_of
held_of ds = go (cases (well_formed ds)) (cases (leb (value ds) most_number))
  where
    go : (well_formed ds ≡ true) ⊎ (well_formed ds ≡ false) → (leb (value ds) most_number ≡ true) ⊎ (leb (value ds) most_number ≡ false)
        → Held (cond (well_formed ds && leb (value ds) most_number) (some (record { is = value ds; takes = length ds })) none)
    go (inl w) (inl e) = rw (w, e) (leb-true (value ds) most_number e)
    go (inl w) (inr e) = rw (w, e) tt
    go (inr w) e = rw w tt

held : (l : List ℕ) → Held (number l)
unfolding number
held l = held_of (digits l)

-- at every place; past the last stands 0
abbrev AllHeld : Option (List ℕ) → Type 0
AllHeld none = Unit {0}
AllHeld (some vs) = (i : ℕ) → get_or vs i 0 ≤ most_number

held-if : (t : Bool) (o : Option (List ℕ)) → AllHeld o → AllHeld (cond t o none)
held-if true o h = h
held-if false o h = tt

get_or-held : (v : ℕ) (vs : List ℕ) → v ≤ most_number → ((i : ℕ) → get_or vs i 0 ≤ most_number) → (i : ℕ) → get_or (v ∷ vs) i 0 ≤ most_number
get_or-held v vs h r zero = h
get_or-held v vs h r (suc i) = r i

held-prepend : (v : ℕ) (o : Option (List ℕ)) → v ≤ most_number → AllHeld o → AllHeld (prepend v o)
unfolding prepend
held-prepend v none h r = tt
held-prepend v (some vs) h r = get_or-held v vs h r

held-last : (l : List ℕ) (o : Option Number) → Held o → AllHeld (last_number l o)
unfolding last_number
held-last l none h = tt
held-last l (some x) h = held-if (eqb x.takes (length l)) (some (x.is ∷ [])) (get_or-held x.is [] h (λ i. omega arith))

held_with : (l : List ℕ) (o : Option Number) (rest : Option (List ℕ)) → Held o → AllHeld rest → AllHeld (with_number l o rest)
unfolding with_number
held_with l none rest h r = tt
held_with l (some x) rest h r = held-if (eqb (get_or l x.takes 0) 32) (prepend x.is rest) (held-prepend x.is rest h r)

numbers-held : (n : ℕ) (l : List ℕ) → AllHeld (numbers_in n l)
unfolding numbers_in
numbers-held zero l = tt
numbers-held (suc zero) l = held-last l (number l) (held l)
numbers-held (suc (suc n)) l = held_with l (number l) (numbers_in (suc n) (past l (number l))) (held l) (numbers-held (suc n) (past l (number l)))

-- ---- a line

abbrev pub Small : Line → Type 0
Small comment = Unit {0}
Small (sizes n m) = (n ≤ most_number) × (m ≤ most_number)
Small (arc t h n) = (1 ≤ t) × (1 ≤ h) × (t ≤ most_number) × (h ≤ most_number) × (n ≤ most_number)
Small other = Unit {0}

small-sizes : (o : Option (List ℕ)) → AllHeld o → Small (sizes_in o)
unfolding sizes_in
small-sizes none h = tt
small-sizes (some vs) h = (h 0, h 1)

small-with : (t d n : ℕ) → t ≤ most_number → d ≤ most_number → n ≤ most_number → Small (arc_with t d n)
unfolding arc_with
small-with t d n p q r = go (cases (eqb t 0)) (cases (eqb d 0))
  where
    go : (eqb t 0 ≡ true) ⊎ (eqb t 0 ≡ false) → (eqb d 0 ≡ true) ⊎ (eqb d 0 ≡ false) → Small (cond (eqb t 0 || eqb d 0) other (arc t d n))
    go (inl e) f = rw e tt
    go (inr e) (inl f) = rw (e, f) tt
    go (inr e) (inr f) = rw (e, f) (positive t e, positive d f, p, q, r)

small-arc : (o : Option (List ℕ)) → AllHeld o → Small (arc_in o)
unfolding arc_in
small-arc none h = tt
small-arc (some vs) h = small-with (get_or vs 0 0) (get_or vs 1 0) (get_or vs 2 0) (h 0) (h 1) (h 2)

small-arc-line : (o : Option (List ℕ)) → Small (arc_line o)
unfolding arc_line
small-arc-line none = tt
small-arc-line (some l) = small-arc (numbers_in 3 l) (numbers-held 3 l)

small-sizes-line : (o : Option (List ℕ)) (instead : Line) → Small instead → Small (sizes_line o instead)
unfolding sizes_line
small-sizes-line none instead h = h
small-sizes-line (some l) instead h = small-sizes (numbers_in 2 l) (numbers-held 2 l)

small-if : (t : Bool) (x y : Line) → Small x → Small y → Small (cond t x y)
small-if true x y p q = p
small-if false x y p q = q

pub line_small : (l : List ℕ) → Small (line_of l)
unfolding line_of
line_small l =
    small-if (is_comment l) comment (sizes_line (after sizes_start l) (arc_line (after arc_start l))) tt
    (small-sizes-line (after sizes_start l) (arc_line (after arc_start l)) (small-arc-line (after arc_start l)))

-- ---- of each kind

pub arc-small : (l : List ℕ) (t h n : ℕ) → line_of l ≡ arc t h n → (1 ≤ t) × (1 ≤ h) × (t ≤ most_number) × (h ≤ most_number) × (n ≤ most_number)
arc-small l t h n e = subst Small e (line_small l)

pub sizes-small : (l : List ℕ) (n m : ℕ) → line_of l ≡ sizes n m → (n ≤ most_number) × (m ≤ most_number)
sizes-small l n m e = subst Small e (line_small l)
