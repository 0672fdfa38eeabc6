-- Where the filter has no bit for the arc, the route does not drive the arc's road, and so shares
-- nothing with it.
use Rattle.std.proofs.Common.{refl, sym, ◌∙◌}
use mathlib.Core.List.Memᴰ
use Rattle.search_ask.proofs.AskLaws.{few-records}
use Rattle.search_ask.specs.Earlier.{route_in}
use Rattle.search_driven.proofs.DrivenLaws.{shared-none}
use Rattle.search_driven.proofs.MarksLaws.{unmarked}
use Rattle.via_drop.proofs.walk.share_of.Goals as goal

pub may_drive-requires : goal.may_drive-requires
may_drive-requires c = (c.requires.2, few-records c.requires.0, c.requires.1.long)

pub returns-else-may_drive : goal.returns-else-may_drive
returns-else-may_drive c =
    let slot = c.args.slot.now in
    let off = sym c.may_drive.ensures ∙ c.if-may_drive.false in
    let past = unmarked c.requires.1 c.args.arc c.requires.2 off (route_in slot) (Memᴰ.head refl) in
    sym (shared-none c.args.ask.nodes c.args.table.now slot c.args.arc (few-records c.requires.0) c.requires.2 past)
