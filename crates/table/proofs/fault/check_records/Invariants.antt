-- The records are looked at in order. Invariant: `prev` is the start node of the record before i, and the scan of the records
-- from i on gives what the scan of all gives. A turn whose record has no fault is a step of the scan, one whose record has a
-- fault is its end.
use Rattle.std.proofs.Common.{◌≡◌, ◌-◌}
use Rattle.table.specs.Fault.{prev_of, lowest}
use Rattle.table.proofs.fault.check_records.Given as goal

abbrev pub invariant-loop-i : goal.invariant-loop-i
invariant-loop-i l =
    record {
      prev : l.prev ≡ prev_of l.table l.i;
      rest : lowest (l.n - l.i) l.nodes l.table l.i ≡ lowest l.n l.nodes l.table 0;
    }
