use Rattle.std.proofs.Common.{◌≡◌, ◌≤◌, get_or}
use Rattle.test_draw.proofs.routes.put_steps.Given as goal

abbrev pub invariant-loop-j : goal.invariant-loop-j
invariant-loop-j l = 1 ≤ l.next → get_or l.rows 0 0 ≡ get_or l.initial.rows 0 0
