-- The counts are looked at in order: the first index among those from i on whose count is 0, or n, is that among all.
use Rattle.std.proofs.Common.{◌≡◌}
use Rattle.ratios.specs.Routes.{answered_in}
use Rattle.ratios.proofs.AnsweredLaws.{from}
use Rattle.ratios.proofs.answered.Given as goal

abbrev pub invariant-loop-i : goal.invariant-loop-i
invariant-loop-i l = from l.counts l.n l.i ≡ answered_in l.counts l.n
