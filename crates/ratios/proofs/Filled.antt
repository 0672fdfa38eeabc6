-- A slice whose first records are written: to store the next one to its place is to write one more, as the summaries' law `stored` says of records of any type.
use Rattle.std.proofs.Common.{◌≡◌, refl, sym, ◌∙◌, ap, ℕ, zero, suc, ◌+◌, ◌<◌, List, [], ◌∷◌, length, set, length-append, add-one}
use Rattle.summary.proofs.Filled.{stored}
use Rattle.ratios.specs.declared.Ratios.{Ratios}
use Rattle.ratios.specs.declared.Rows.{Rows}
use Rattle.ratios.specs.Rows.{record_at, firsts, written}

pub length-firsts : (t : Rows) (i : ℕ) → length (firsts t i) ≡ i
length-firsts t zero = refl
length-firsts t (suc i) = length-append (firsts t i) (record_at t i ∷ []) ∙ add-one (length (firsts t i)) ∙ ap suc (length-firsts t i)

pub written_step : (t : Rows) (i : ℕ) (ys : List Ratios) → i < length ys → set (written t i ys) i (record_at t i) ≡ written t (i + 1) ys
written_step t i ys h = stored (firsts t i) ys i (record_at t i) (length-firsts t i) h ∙ ap (λ k. written t k ys) (sym (add-one i))
