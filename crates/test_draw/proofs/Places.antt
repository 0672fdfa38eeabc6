-- Where the cells of arcs and rows lie, and how large a sum is.
use Rattle.std.proofs.Common.{Bool, true, false, ◌≡◌, ◌≢◌, ℕ, ◌+◌, ◌-◌, ◌≤◌, ◌<◌, List, set, get_or, length, get_or-set_other, get_or-set_same, ap, sym, ◌∙◌, inl, inr, arith}
use Rattle.std.proofs.lemmas.Bool.Decides.{nat_tests}
use mir.Val.{bool_byte}
use Rattle.std.proofs.lemmas.Bool.{cases_lt}
use Rattle.test_cells.specs.Bounded.{sum, product}

-- A sum that stays at its bound is no more than the sum.
pub sum_le : (a b : ℕ) → sum a b ≤ a + b
unfolding sum
sum_le a b = grind (arith, nat_tests)

-- No number of an arc lies in the cells of what is asked.
pub arc_past : (i j : ℕ) → 13 ≤ sum (sum (product i 5) 13) j
unfolding sum product
arc_past i j = grind (arith, nat_tests)

-- No cell of a later row lies in the first row.
pub row_past : (row cell : ℕ) → 1 ≤ row → 13 ≤ sum (product row 13) cell
unfolding sum product
row_past row cell h = grind (arith, nat_tests)

-- A write into an arc leaves what is asked.
pub asked_kept : (s : List ℕ) (i j v k : ℕ) → k < 13 → get_or (set s (sum (sum (product i 5) 13) j) v) k 0 ≡ get_or s k 0
asked_kept s i j v k h =
    let past = arc_past i j in
    let apart : k ≢ sum (sum (product i 5) 13) j = omega arith in
    get_or-set_other s (sum (sum (product i 5) 13) j) k v 0 apart

-- A write into a later row leaves where the first row ends.
pub first_kept : (s : List ℕ) (row cell v : ℕ) → 1 ≤ row → get_or (set s (sum (product row 13) cell) v) 0 0 ≡ get_or s 0 0
first_kept s row cell v h =
    let past = row_past row cell h in
    let apart : 0 ≢ sum (product row 13) cell = omega arith in
    get_or-set_other s (sum (product row 13) cell) 0 v 0 apart

-- After a write into another cell a cell holds what it held.
pub other_kept : (s t : List ℕ) (i k v : ℕ) → t ≡ set s i v → k ≢ i → get_or t k 0 ≡ get_or s k 0
other_kept s t i k v e apart = ap (λ l. get_or l k 0) e ∙ get_or-set_other s i k v 0 apart

-- After a write into a cell it holds what was written.
pub put_there : (s t : List ℕ) (i v : ℕ) → t ≡ set s i v → i < length s → get_or t i 0 ≡ v
put_there s t i v e there = ap (λ l. get_or l i 0) e ∙ get_or-set_same s i v 0 there

-- After a write into a later row the first row ends where it ended.
pub row_kept : (s t : List ℕ) (row cell v : ℕ) → t ≡ set s (sum (product row 13) cell) v → 1 ≤ row → get_or t 0 0 ≡ get_or s 0 0
row_kept s t row cell v e later = ap (λ l. get_or l 0 0) e ∙ first_kept s row cell v later

-- A count grows by one at most where a test is counted.
pub counted : (test : Bool) (before after : ℕ) → after ≡ sum before (bool_byte test) → after ≤ before + 1
counted true before after e = omega (arith, sum_le before 1)
counted false before after e = omega (arith, sum_le before 0)

-- What holds of the cells from the eighth below i, and of cell i, holds of those below i + 1.
pub from_eight : (value : ℕ → ℕ) (s : List ℕ) (i v : ℕ) → i < length s → v ≡ value (i - 8) → ((k : ℕ) → 8 ≤ k → k < i → get_or s k 0 ≡ value (k - 8)) → (k : ℕ) → 8 ≤ k → k < i + 1 → get_or (set s i v) k 0 ≡ value (k - 8)
from_eight value s i v there e before k least below =
    elim (cases_lt k i) [
      | inl lower ↦
          let apart : k ≢ i = omega arith in
          get_or-set_other s i k v 0 apart ∙ before k least lower
      | inr upper ↦
          let same : k ≡ i = omega arith in
          ap (λ n. get_or (set s i v) n 0) same ∙ get_or-set_same s i v 0 there ∙ e ∙ ap (λ n. value (n - 8)) (sym same)
    ]
