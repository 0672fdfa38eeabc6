-- The records in order. Invariant: arcs were found for all j records so far, and the place after them is (`end`, `lo`) (`Judged`). Where none is found for the
-- next record the table is wrong, and where all n are found it is right. What is kept of starts does not count.
use Rattle.std.proofs.Common.{◌≡◌, ◌≤◌, length}
use Rattle.table.specs.Table.{records}
use Rattle.second.proofs.JudgeLaws.{Judged}
use Rattle.second.proofs.wrong_by.Given as goal

abbrev pub invariant-loop-j : goal.invariant-loop-j
invariant-loop-j l = record {
  behind : l.lo ≤ records l.table;
  judged : Judged l.nodes l.table l.second l.j l.end l.lo;
  kept : length l.starts ≡ length l.initial.starts;
}
