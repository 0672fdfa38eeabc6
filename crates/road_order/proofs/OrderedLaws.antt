-- Records sorted by start node and place are the arcs in order: where the places rise along the file, a record comes before one behind it exactly if its start
-- node is no greater. Arcs that stand in order stay as they are.
use mathlib.Core.Path.{◌≡◌, refl, ap, ◌∙◌}
use mathlib.Core.Bool.{Bool, true, false, cond}
use mathlib.Core.List.{List, [], ◌∷◌, map}
use mathlib.Core.Logic.{◌⊎◌, ⊎_elim}
use Prim.Native.Nat.{ℕ, suc, ◌≤◌, ◌<◌}
use native.Mathlib.Omega.{arith}
use lib.Dec.{leb, ltb}
use borrow.Author.Tests.{le-leb, lt-leb, lt-ltb, le-ltb, eq-eqb, ne_eqb}
use Rattle.lists.specs.Tests.{lex}
use Rattle.lists.proofs.Cases.{three_ways}
use Rattle.words.specs.Number.{num}
use Rattle.net.specs.Net.{Arc}
use Rattle.road_sort.specs.Sorted.{start_of, place_of, row_before, row_put, rows_sorted}
use Rattle.road_order.specs.Ordered.{insert_arc, ordered}

abbrev pub arc_of : List ℕ → Arc
arc_of x = record { from = num 4 x 0; to = num 4 x 4; len = num 4 x 8 }

-- every place is p or above
unfoldable pub From : ℕ → List (List ℕ) → Type 0
From p [] = Unit {0}
From p (x ∷ xs) = (p ≤ place_of x) × From p xs

-- the places rise by one, from p on
unfoldable pub Rising : ℕ → List (List ℕ) → Type 0
Rising p [] = Unit {0}
Rising p (x ∷ xs) = (place_of x ≡ p) × Rising (suc p) xs

pub lex-rising : (x y i j : ℕ) → i < j → lex x y (ltb i j) ≡ leb x y
unfolding lex
lex-rising x y i j h =
    ⊎_elim
    (λ (w : x < y). rw (lt-ltb x y w, le-leb x y (omega arith)))
    (⊎_elim
    (λ (w : x ≡ y). rw (le-ltb x y (omega arith), eq-eqb x y w, lt-ltb i j h, le-leb x y (omega arith)))
    (λ (w : y < x). rw (le-ltb x y (omega arith), ne_eqb x y (λ e. omega arith), lt-leb x y w)))
    (three_ways x y)

before-is : (x y : List ℕ) → place_of x < place_of y → row_before x y ≡ leb (start_of x) (start_of y)
unfolding row_before
before-is x y h = lex-rising (start_of x) (start_of y) (place_of x) (place_of y) h

from-put : (p : ℕ) (x : List ℕ) (ys : List (List ℕ)) → p ≤ place_of x → From p ys → From p (row_put x ys)
unfolding row_put From
from-put p x [] h k = (h, tt)
from-put p x (y ∷ ys) h k = go (row_before x y) (from-put p x ys h k.1)
  where
    go : (b : Bool) → From p (row_put x ys) → From p (cond b (x ∷ y ∷ ys) (y ∷ row_put x ys))
    go true m = (h, k)
    go false m = (k.0, m)

from_sorted : (p : ℕ) (xs : List (List ℕ)) → From p xs → From p (rows_sorted xs)
unfolding rows_sorted From
from_sorted p [] k = tt
from_sorted p (x ∷ xs) k = from-put p x (rows_sorted xs) k.0 (from_sorted p xs k.1)

rising-from : (p q : ℕ) (xs : List (List ℕ)) → q ≤ p → Rising p xs → From q xs
unfolding Rising From
rising-from p q [] h k = tt
rising-from p q (x ∷ xs) h k = (omega (arith, k.0), rising-from (suc p) q xs (omega arith) k.1)

put-insert : (x : List ℕ) (ys : List (List ℕ)) → From (suc (place_of x)) ys → map arc_of (row_put x ys) ≡ insert_arc (arc_of x) (map arc_of ys)
unfolding row_put insert_arc From
put-insert x [] k = refl
put-insert x (y ∷ ys) k = go (leb (start_of x) (start_of y)) (before-is x y (omega (arith, k.0))) (put-insert x ys k.1)
  where
    go : (b : Bool) → row_before x y ≡ b → map arc_of (row_put x ys) ≡ insert_arc (arc_of x) (map arc_of ys)
        → map arc_of (cond (row_before x y) (x ∷ y ∷ ys) (y ∷ row_put x ys)) ≡ cond b (arc_of x ∷ arc_of y ∷ map arc_of ys) (arc_of y ∷ insert_arc (arc_of x) (map arc_of ys))
    go true e m = rw e
    go false e m = rw e (ap (λ l. arc_of y ∷ l) m)

pub sorted-ordered : (p : ℕ) (xs : List (List ℕ)) → Rising p xs → map arc_of (rows_sorted xs) ≡ ordered (map arc_of xs)
unfolding rows_sorted ordered Rising
sorted-ordered p [] k = refl
sorted-ordered p (x ∷ xs) k =
    put-insert x (rows_sorted xs) (from_sorted (suc (place_of x)) xs (rising-from (suc p) (suc (place_of x)) xs (omega (arith, k.0)) k.1))
    ∙ ap (insert_arc (arc_of x)) (sorted-ordered (suc p) xs k.1)

-- ---- arcs that stand in order

unfoldable pub InOrder : List Arc → Type 0
InOrder [] = Unit {0}
InOrder (x ∷ []) = Unit {0}
InOrder (x ∷ y ∷ ys) = (x.from ≤ y.from) × InOrder (y ∷ ys)

pub in-order-tail : (x : Arc) (xs : List Arc) → InOrder (x ∷ xs) → InOrder xs
unfolding InOrder
in-order-tail x [] h = tt
in-order-tail x (y ∷ ys) h = h.1

pub ordered_same : (xs : List Arc) → InOrder xs → ordered xs ≡ xs
unfolding ordered insert_arc InOrder
ordered_same [] h = refl
ordered_same (x ∷ []) h = refl
ordered_same (x ∷ y ∷ ys) h = ap (insert_arc x) (ordered_same (y ∷ ys) h.1) ∙ rw (le-leb x.from y.from h.0)

in-order-insert : (x : Arc) (ys : List Arc) → InOrder ys → InOrder (insert_arc x ys)
unfolding insert_arc InOrder
in-order-insert x [] h = tt
in-order-insert x (y ∷ ys) h = go (leb x.from y.from) refl ys h (in-order-insert x ys (in-order-tail y ys h))
  where
    go : (b : Bool) → leb x.from y.from ≡ b → (zs : List Arc) → InOrder (y ∷ zs) → InOrder (insert_arc x zs) → InOrder (cond b (x ∷ y ∷ zs) (y ∷ insert_arc x zs))
    go true e zs k m = (borrow.Author.Tests.leb-true x.from y.from e, k)
    go false e [] k m = (omega (arith, borrow.Author.Tests.leb-false x.from y.from e), tt)
    go false e (z ∷ zs) k m = between (leb x.from z.from) (omega (arith, borrow.Author.Tests.leb-false x.from y.from e)) k.0 m
      where
        between : (c : Bool) → y.from ≤ x.from → y.from ≤ z.from → InOrder (cond c (x ∷ z ∷ zs) (z ∷ insert_arc x zs)) → InOrder (y ∷ cond c (x ∷ z ∷ zs) (z ∷ insert_arc x zs))
        between true a b n = (a, n)
        between false a b n = (b, n)

pub ordered-in-order : (xs : List Arc) → InOrder (ordered xs)
unfolding ordered InOrder
ordered-in-order [] = tt
ordered-in-order (x ∷ xs) = in-order-insert x (ordered xs) (ordered-in-order xs)
