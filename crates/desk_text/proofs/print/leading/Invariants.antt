-- Each record that was passed has arcs. At a record without arcs the loop ends, and otherwise after the k-th.
use Rattle.std.proofs.Common.{ℕ, ◌≤◌, ◌<◌, get_or}
use Rattle.desk_text.proofs.print.leading.Given as goal

abbrev pub invariant-loop-j : goal.invariant-loop-j
invariant-loop-j l = (i : ℕ) → i < l.j → 1 ≤ get_or l.sums.arcs i 0
