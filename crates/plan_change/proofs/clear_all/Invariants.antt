-- Record after record, as `Withdrawn-to` says.
use Rattle.plan_change.proofs.WithdrawLaws.{Withdrawn-to}
use Rattle.plan_change.proofs.clear_all.Given as goal

abbrev pub invariant-loop-i : goal.invariant-loop-i
invariant-loop-i l = Withdrawn-to l.fn.file l.plan l.file l.i
