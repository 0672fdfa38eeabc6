-- Cells that are written one after another.
use Rattle.std.specs.Prelude.{ℕ, zero, suc, List, set}

-- The cells after n writes: write i, from 0 on, puts `value i` into cell `at i`.
unfoldable pub written : (ℕ → ℕ) → (ℕ → ℕ) → ℕ → List ℕ → List ℕ
written at value zero s = s
written at value (suc n) s = set (written at value n s) (at n) (value n)
