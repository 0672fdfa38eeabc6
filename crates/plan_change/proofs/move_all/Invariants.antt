-- Record after record, as `Moved-to` says.
use Rattle.plan_change.proofs.CollectLaws.{Moved-to}
use Rattle.plan_change.proofs.move_all.Given as goal

abbrev pub invariant-loop-i : goal.invariant-loop-i
invariant-loop-i l = Moved-to l.fn.file l.file l.w l.i
