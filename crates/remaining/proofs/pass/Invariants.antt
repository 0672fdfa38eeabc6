-- The invariant: the arcs below a were looked at, and either none brought a node nearer or the sum of the distances has fallen.
use Rattle.table.specs.Table.{net_of}
use Rattle.remaining.specs.Standing.{Passed}
use Rattle.remaining.proofs.pass.Given as goal

abbrev pub invariant-loop-a : goal.invariant-loop-a
invariant-loop-a l = Passed (net_of l.nodes l.table l.closed) l.table l.closed l.goal l.a l.fn.room l.room l.nearer
