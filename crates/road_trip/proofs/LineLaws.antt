-- A written line read back. Digits end at the space or at the line's end, so each number reads as what was written (`number-decimal`), and what follows it and its
-- space are the numbers that were written after it. The fixed bytes before them compute. No byte of a written line is a newline: a digit is 48 or more.
use mathlib.Core.Path.{◌≡◌, refl}
use mathlib.Core.Bool.{false}
use mathlib.Core.List.{List, [], ◌∷◌, ◌++◌, append-nil}
use mathlib.Core.Logic.{⊎_elim}
use mathlib.Core.Option.{some}
use Prim.Native.Nat.{ℕ, suc, ◌+◌, ◌≤◌}
use native.Mathlib.Omega.{arith}
use lib.Dec.{eqb}
use lib.ListN.{length}
use lib.Seq.{get_or-append_seam, drop-append-add}
use borrow.Author.Tests.{ne_eqb, eq-eqb}
use Rattle.lists.specs.Tests.{has}
use Rattle.lists.proofs.Cases.{cases}
use Rattle.lists.proofs.TestLaws.{has→mem}
use Rattle.net.specs.Net.{Arc}
use Rattle.numerals.specs.Decimal.{most_number, digits, number, decimal}
use Rattle.numerals.proofs.DecimalLaws.{decimal-bytes, number-decimal}
use Rattle.road_line.specs.Line.{sizes, arc, after, prepend, last_number, with_number, past, numbers_in, is_comment, sizes_in, arc_with, arc_in, arc_line, sizes_line, line_of}
use Rattle.road_write.specs.Text.{sizes_text, line_text, arc_text}
use Rattle.road_trip.specs.Text.{Tellable}

-- ---- numbers

-- the last number
last-reads : (v : ℕ) → v ≤ most_number → numbers_in 1 (decimal v) ≡ some (v ∷ [])
unfolding numbers_in last_number digits
last-reads v h =
    let e : number (decimal v) ≡ some (record { is = v; takes = length (decimal v) }) = rw append-nil at (number-decimal v [] h refl) in
    rw (e, eq-eqb (length (decimal v)) (length (decimal v)) refl)

-- a number before others
next-reads : (n v : ℕ) (l vs : List ℕ) → v ≤ most_number → numbers_in (suc n) l ≡ some vs
    → numbers_in (suc (suc n)) (decimal v ++ (32 ∷ l)) ≡ some (v ∷ vs)
unfolding numbers_in with_number past prepend digits
next-reads n v l vs h g =
    let e = number-decimal v (32 ∷ l) h refl in
    rw (e, get_or-append_seam (decimal v) 32 l 0, drop-append-add (decimal v) (32 ∷ l) 1, g)

-- ---- lines

pub line-sizes : (n m : ℕ) → n ≤ most_number → m ≤ most_number → line_of (sizes_text n m) ≡ sizes n m
unfolding sizes_text line_of is_comment after sizes_line sizes_in
line-sizes n m h k = rw (next-reads 0 n (decimal m) (m ∷ []) h (last-reads m k))

pub line-arc : (a : Arc) → Tellable a → line_of (arc_text a) ≡ arc (a.from + 1) (a.to + 1) a.len
unfolding line_text line_of is_comment after sizes_line arc_line arc_in arc_with
line-arc a h =
    let e = next-reads 0 (a.to + 1) (decimal a.len) (a.len ∷ []) h.head (last-reads a.len h.len) in
    rw (
      next-reads 1 (a.from + 1) (decimal (a.to + 1) ++ (32 ∷ decimal a.len)) ((a.to + 1) ∷ a.len ∷ []) h.tail e,
      ne_eqb (a.from + 1) 0 (λ z. omega arith),
      ne_eqb (a.to + 1) 0 (λ z. omega arith),
    )

-- ---- no newline

pub has-append : (b : ℕ) (l m : List ℕ) → has b l ≡ false → has b m ≡ false → has b (l ++ m) ≡ false
unfolding has
has-append b [] m h k = k
has-append b (x ∷ l) m h k =
    ⊎_elim
    (λ e. let z : ◌≡◌ {A = ℕ} 0 1 = cc (rw e at h) in absurd (omega arith))
    (λ e. rw e (has-append b l m (rw e at h) k))
    (cases (eqb b x))

pub decimal-newline : (v : ℕ) → has 10 (decimal v) ≡ false
decimal-newline v =
    ⊎_elim (λ e. absurd (omega (arith, (decimal-bytes v 10 (has→mem 10 (decimal v) (rw e tt))).0))) (λ e. e) (cases (has 10 (decimal v)))

pub sizes-newline : (n m : ℕ) → has 10 (sizes_text n m) ≡ false
unfolding sizes_text has
sizes-newline n m = has-append 10 (decimal n) (32 ∷ decimal m) (decimal-newline n) (decimal-newline m)

pub arc-newline : (a : Arc) → has 10 (arc_text a) ≡ false
unfolding line_text has
arc-newline a =
    has-append 10 (decimal (a.from + 1)) (32 ∷ (decimal (a.to + 1) ++ (32 ∷ decimal a.len))) (decimal-newline (a.from + 1))
    (has-append 10 (decimal (a.to + 1)) (32 ∷ decimal a.len) (decimal-newline (a.to + 1)) (decimal-newline a.len))
