-- The arcs are looked at in order: the next open one from place a on is the one asked for.
use Rattle.std.proofs.Common.{◌≡◌}
use Rattle.closures.specs.Closed.{next_open}
use Rattle.closures.proofs.next_arc.Given as goal

abbrev pub invariant-loop-a : goal.invariant-loop-a
invariant-loop-a l = next_open l.closed l.a l.end ≡ next_open l.closed l.arc l.end
