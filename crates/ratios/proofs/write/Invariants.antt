-- After i turns the first i records are written, and the rest is as it was.
use Rattle.std.proofs.Common.{◌≡◌}
use Rattle.ratios.specs.Rows.{written}
use Rattle.ratios.proofs.write.Given as goal

abbrev pub invariant-loop-i : goal.invariant-loop-i
invariant-loop-i l = l.s ≡ written l.t l.i l.fn.s
