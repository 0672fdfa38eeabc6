use Rattle.std.proofs.Common.{◌≡◌, get_or}
use Rattle.test_cells.specs.Bounded.{sum}
use Rattle.test_draw.specs.Written.{written}
use Rattle.test_draw.proofs.lent.put_area.Given as goal

abbrev pub invariant-loop-i : goal.invariant-loop-i
invariant-loop-i l = l.answer ≡ written (λ i. sum l.at i) (λ i. get_or l.area i 0) l.i l.initial.answer
