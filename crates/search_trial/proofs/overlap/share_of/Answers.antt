-- A route that does not drive the arc's road shares nothing with it.
use Rattle.std.proofs.Common.{sym}
use Rattle.table.proofs.FaultLaws.{good-size}
use Rattle.search_driven.proofs.DrivenLaws.{shared-none}
use Rattle.search_trial.proofs.overlap.share_of.Goals as goal

pub returns-else-may : goal.returns-else-may
returns-else-may c =
    sym
    (shared-none c.args.ask.nodes c.args.table.now c.args.slot.now c.args.arc (good-size _ _ c.requires.0.no-fault).3 c.requires.1
    (c.requires.3 c.if-may.false))
