-- A search by halves. The invariant: the start lies between `at` and `size` records further.
use Rattle.std.proofs.Common.{◌+◌, ◌≤◌}
use Rattle.table.specs.Table.{records}
use Rattle.table.specs.Run.{run_start}
use Rattle.run_starts.proofs.leaving.Given as goal

abbrev pub invariant-loop-size : goal.invariant-loop-size
invariant-loop-size l = record {
  from : l.at ≤ run_start l.table l.v;
  to : run_start l.table l.v ≤ l.at + l.size;
  inside : l.at + l.size ≤ records l.table;
}

abbrev pub decreases-loop-size : goal.decreases-loop-size
decreases-loop-size l = l.size
