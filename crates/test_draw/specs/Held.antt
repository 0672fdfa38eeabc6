-- What cells and lent bytes hold.
use Rattle.std.specs.Prelude.{◌≡◌, ◌<◌, ℕ, List, cond, ltb, eqb, ◌/◌, ◌%◌, get_or}
use Rattle.test_cells.specs.Bounded.{sum, product}

-- Number j of arc i of a case.
abbrev pub arc_number : List ℕ → ℕ → ℕ → ℕ
arc_number cells i j = get_or cells (sum (sum (product i 5) 13) j) 0

-- Byte j of the number, the lowest first, of four; past them the highest.
abbrev pub byte_at : ℕ → ℕ → ℕ
byte_at x j = cond (ltb j 2) (cond (eqb j 0) x (x / 256)) (cond (eqb j 2) (x / 65536) (x / 16777216)) % 256

-- Byte i of a table in that order: each arc has a record of sixteen bytes, four of each number.
abbrev pub table_byte : List ℕ → List ℕ → ℕ → ℕ
table_byte cells order i = byte_at (arc_number cells (get_or order (i / 16) 0) (i / 4 % 4)) (i % 4)

-- Closure byte i, or junk past those that are lent.
abbrev pub closure_byte : List ℕ → ℕ → ℕ
closure_byte cells i = cond (ltb i (get_or cells 12 0)) (byte_at (arc_number cells i 4) 0) 85

-- One more than arc j of the row, or 0 after the last.
abbrev pub step_of : List ℕ → ℕ → ℕ → ℕ
step_of rows row j = cond (ltb j 10) (get_or rows (sum (product row 13) (sum 3 j)) 0) 0

-- The row has the smaller number at the first of its steps that differs from the other row's.
abbrev pub IsSmaller : List ℕ → ℕ → ℕ → Type 0
IsSmaller rows row other = (j : ℕ) × (j < get_or rows (sum (product row 13) 2) 0) × (step_of rows row j < step_of rows other j) × ((k : ℕ) → k < j → step_of rows row k ≡ step_of rows other k)
