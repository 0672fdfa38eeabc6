use Rattle.std.proofs.Common.{◌≡◌}
use Rattle.test_cells.specs.Bounded.{sum}
use Rattle.test_draw.specs.Written.{written}
use Rattle.test_draw.proofs.lent.put_junk.Given as goal

abbrev pub invariant-loop-i : goal.invariant-loop-i
invariant-loop-i l = l.due ≡ written (λ i. sum l.at i) (λ i. 77) l.i l.initial.due
