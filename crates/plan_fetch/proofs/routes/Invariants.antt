-- Invariant: of the records passed, the plan has the ranks below the count (`Counted`). After the last these are its ranks.
use Rattle.plan_fetch.proofs.PassLaws.{Counted}
use Rattle.plan_fetch.proofs.routes.Given as goal

abbrev pub invariant-loop-i : goal.invariant-loop-i
invariant-loop-i l = Counted l.file l.plan l.i l.count
