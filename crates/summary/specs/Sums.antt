-- Summaries by value and in a lent slice.
use Rattle.std.specs.Prelude.{List, [], ◌∷◌, ◌++◌, ℕ, zero, suc, drop, get_or, set}
use Rattle.summary.specs.declared.Summary.{Summary}
use Rattle.summary.specs.declared.Sums.{Sums}

abbrev pub record_at : Sums → ℕ → Summary
record_at t i = record { length = get_or t.length i 0; arcs = get_or t.arcs i 0; labels = get_or t.labels i 0 }

abbrev pub set_entry : Sums → ℕ → Summary → Sums
set_entry t i x = record { length = set t.length i x.length; arcs = set t.arcs i x.arcs; labels = set t.labels i x.labels }

-- The first n.
abbrev pub firsts : Sums → ℕ → List Summary
firsts t zero = []
firsts t (suc i) = firsts t i ++ (record_at t i ∷ [])

-- A slice of records once the first n are written: the rest is as it was.
abbrev pub written : Sums → ℕ → List Summary → List Summary
written t n ys = firsts t n ++ drop n ys
