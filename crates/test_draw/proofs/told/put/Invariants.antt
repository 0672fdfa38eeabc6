use Rattle.std.proofs.Common.{◌≡◌}
use Rattle.test_draw.specs.Told.{with_sums}
use Rattle.test_draw.proofs.told.put.Given as goal

abbrev pub invariant-loop-i : goal.invariant-loop-i
invariant-loop-i l = l.answer ≡ with_sums l.initial.answer l.sums l.got.sums l.written l.i
