-- The arrays are long: the length of one is cited, and not computed.
use Rattle.std.proofs.Common.{ℕ, ◌∙◌, sym}
use Rattle.std.proofs.lemmas.List.{length-replicate}
use Rattle.test_figures.proofs.tables.many_records.Goals as goal

pub slice_bounds-put_arcs-end : goal.slice_bounds-put_arcs-end
slice_bounds-put_arcs-end c = sym (length-replicate {0} {A = ℕ} 524288 0)

pub slice_bounds-outcome-end-2 : goal.slice_bounds-outcome-end-2
slice_bounds-outcome-end-2 c = sym (c.put_arcs.auto.t ∙ length-replicate {0} {A = ℕ} 524288 0)
