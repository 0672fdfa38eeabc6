-- The working bytes of the first i labels are zero, and the rest is as it was.
use Rattle.std.proofs.Common.{◌≡◌}
use Rattle.search_clear.specs.Clear.{clear_work}
use Rattle.search_clear.proofs.clear_work.Given as goal

abbrev pub invariant-loop-i : goal.invariant-loop-i
invariant-loop-i l = l.labels ≡ clear_work l.i l.initial.labels
