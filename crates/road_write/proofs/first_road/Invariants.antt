-- The loop passes the records that have no road number. Invariant: the first that has one is not before i. At one with a number, that is i (`road-here`); past the
-- last, there is none.
use Rattle.std.proofs.Common.{◌≤◌}
use Rattle.road_write.specs.Written.{first_road}
use Rattle.road_write.proofs.first_road.Given as goal

abbrev pub invariant-loop-i : goal.invariant-loop-i
invariant-loop-i l = l.i ≤ first_road l.table
