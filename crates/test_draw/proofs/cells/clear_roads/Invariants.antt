use Rattle.std.proofs.Common.{◌≡◌}
use Rattle.test_cells.specs.Bounded.{sum, product}
use Rattle.test_draw.specs.Written.{written}
use Rattle.test_draw.proofs.cells.clear_roads.Given as goal

abbrev pub invariant-loop-i : goal.invariant-loop-i
invariant-loop-i l = l.case ≡ written (λ i. sum (sum (product i 5) 13) 3) (λ i. 0) l.i l.initial.case
