-- Ratios by value and in a lent slice.
use Rattle.std.specs.Prelude.{List, [], ◌∷◌, ◌++◌, ℕ, zero, suc, drop, get_or, set}
use Rattle.std.specs.Float.{nan}
use Rattle.ratios.specs.declared.Ratios.{Ratios}
use Rattle.ratios.specs.declared.Rows.{Rows}

abbrev pub record_at : Rows → ℕ → Ratios
record_at t i = record { overlap = get_or t.overlap i nan; detour = get_or t.detour i nan }

abbrev pub set_entry : Rows → ℕ → Ratios → Rows
set_entry t i x = record { overlap = set t.overlap i x.overlap; detour = set t.detour i x.detour }

-- The first n.
abbrev pub firsts : Rows → ℕ → List Ratios
firsts t zero = []
firsts t (suc i) = firsts t i ++ (record_at t i ∷ [])

-- A slice of records once the first n are written: the rest is as it was.
abbrev pub written : Rows → ℕ → List Ratios → List Ratios
written t n ys = firsts t n ++ drop n ys
