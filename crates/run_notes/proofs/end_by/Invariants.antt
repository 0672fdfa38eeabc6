-- The records are walked. The invariant: i lies no later than their end. A record at v lies before the end (`start-past`), and one above v no earlier (`start-to`).
use Rattle.std.proofs.Common.{◌+◌, ◌≤◌}
use Rattle.run_notes.specs.Noted.{start_by}
use Rattle.run_notes.proofs.end_by.Given as goal

abbrev pub invariant-loop-i : goal.invariant-loop-i
invariant-loop-i g l = l.i ≤ start_by g.O.Order.node_at l.table (l.v + 1)
