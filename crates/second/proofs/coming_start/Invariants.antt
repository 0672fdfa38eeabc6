-- A search from both ends. Invariant: the run's start lies between `from` and `to`. In a right second table end nodes never fall, so a record that ends below v lies
-- before the run's start (`coming-past`), and one that does not is no earlier (`coming-to`).
use Rattle.std.proofs.Common.{◌-◌, ◌≤◌}
use Rattle.table.specs.Table.{records}
use Rattle.second.specs.Lookup.{coming_start}
use Rattle.second.proofs.coming_start.Given as goal

abbrev pub invariant-loop-from : goal.invariant-loop-from
invariant-loop-from l = record {
  after : l.from ≤ coming_start l.second l.v;
  before : coming_start l.second l.v ≤ l.to;
  inside : l.to ≤ records l.second;
}

abbrev pub decreases-loop-from : goal.decreases-loop-from
decreases-loop-from l = l.to - l.from
