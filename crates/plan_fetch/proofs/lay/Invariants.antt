-- After the fill no word is written; each turn passes one record more, which writes its words where it is of the plan (`laid-step`) and nothing where it is not
-- (`laid-skip`). Invariant: `Laid`, on the slots as the fill left them.
use Rattle.plan_fetch.proofs.LayLaws.{Laid}
use Rattle.plan_fetch.proofs.lay.Given as goal

abbrev pub invariant-loop-i : goal.invariant-loop-i
invariant-loop-i l = Laid l.file l.plan l.width l.routes l.initial.slots l.i l.slots
