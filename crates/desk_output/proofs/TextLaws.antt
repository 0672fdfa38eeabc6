-- How long a text can be, and numbers one after the other. A digit list made with f more turns has at most f + 1 digits, so a number has at most 20, and
-- with its space 21. The text of numbers and more numbers is the one text and then the other.
use mathlib.Core.Path.{◌≡◌, refl}
use mathlib.Core.List.{List, [], ◌∷◌, ◌++◌, append_assoc, append-nil}
use Prim.Native.Nat.{ℕ, ◌+◌, ◌*◌, ◌≤◌, ◌<◌}
use native.Mathlib.Numerals.{add-one}
use native.Mathlib.Omega.{arith}
use lib.ListN.{length, take, get_or, length-append}
use lib.Seq.{take-suc, take_all}
use Rattle.numerals.proofs.DecimalLaws.{decimal-length}
use Rattle.numerals.specs.Decimal.{decimal}
use Rattle.text_put.specs.Put.{Appended, space, newline}
use Rattle.text_put.proofs.AppendLaws.{appended-more}
use Rattle.desk_output.specs.Line.{numbers_text, route_text, most_line}

pub numbers-length : (vs : List ℕ) → length (numbers_text vs) ≤ length vs * 21
unfolding numbers_text
numbers-length [] = omega arith
numbers-length (v ∷ vs) = simp length-append (omega (arith, decimal-length v, numbers-length vs))

pub numbers-append : (x y : List ℕ) → numbers_text (x ++ y) ≡ numbers_text x ++ numbers_text y
unfolding numbers_text
numbers-append [] y = refl
numbers-append (v ∷ x) y = rw (append_assoc, numbers-append x y)

-- one number more
pub numbers_more : (vs : List ℕ) (i : ℕ) → i < length vs → numbers_text (take (i + 1) vs) ≡ numbers_text (take i vs) ++ (space ∷ decimal (get_or vs i 0))
unfolding numbers_text
numbers_more vs i h = rw (add-one, take-suc vs i 0, numbers-append, append-nil)

-- the turn of a loop
pub numbers-turn : (l : List ℕ) (at : ℕ) (vs m : List ℕ) (p i : ℕ) (n : List ℕ) (r : ℕ) → Appended l at (numbers_text (take i vs)) m p
    → Appended m p (space ∷ decimal (get_or vs i 0)) n r → i < length vs → at ≤ length l → Appended l at (numbers_text (take (i + 1) vs)) n r
numbers-turn l at vs m p i n r a b h g = rw (numbers_more vs i h) (appended-more l at _ m p _ n r a b g)

pub numbers-all : (l : List ℕ) (at : ℕ) (vs m : List ℕ) (p i : ℕ) → Appended l at (numbers_text (take i vs)) m p → i ≡ length vs → Appended l at (numbers_text vs) m p
numbers-all l at vs m p i a h = rw (take_all i vs (omega arith)) at a

-- the parts of a route's line, one after the other
pub route-parts : (round len labels : ℕ) (arcs : List ℕ)
    → decimal round ++ (space ∷ decimal len) ++ (space ∷ decimal labels) ++ numbers_text arcs ++ (newline ∷ []) ≡ route_text round len labels arcs
unfolding numbers_text route_text
route-parts round len labels arcs = simp append_assoc

pub route-length : (round len labels : ℕ) (arcs : List ℕ) → length (route_text round len labels arcs) ≤ most_line (length arcs)
route-length round len labels arcs =
    rw (← route-parts round len labels arcs)
    (simp length-append (omega (arith, decimal-length round, decimal-length len, decimal-length labels, numbers-length arcs)))
