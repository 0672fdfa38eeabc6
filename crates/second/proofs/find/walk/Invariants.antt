-- The arcs are looked at in order: the first from arc a on is the one asked for. An arc that does not start at u ends the run of u, and no arc after it starts there.
use Rattle.std.proofs.Common.{◌≡◌}
use Rattle.second.specs.Find.{next_from}
use Rattle.second.proofs.find.walk.Given as goal

abbrev pub invariant-loop-a : goal.invariant-loop-a
invariant-loop-a l = next_from l.table l.u l.v l.a ≡ next_from l.table l.u l.v l.first
