use Rattle.std.proofs.Common.{◌≤◌, ◌+◌, ◌*◌}
use Rattle.test_draw.proofs.damage.agreed.Given as goal

abbrev pub invariant-loop-damage : goal.invariant-loop-damage
invariant-loop-damage g l = l.agreed ≤ l.i * l.damages + l.damage

abbrev pub invariant-loop-i : goal.invariant-loop-i
invariant-loop-i g l = l.agreed ≤ l.i * l.damages
