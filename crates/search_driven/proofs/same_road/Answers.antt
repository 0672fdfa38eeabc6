-- The word is the arc itself; or it names no arc, and has no road number; or its road number tells.
use Rattle.std.proofs.Common.{eqb, sym, ap, ◌∙◌}
use borrow.Author.Tests.{le-ltb}
use Rattle.search_driven.proofs.DrivenLaws.{same-past, same_number}
use Rattle.search_driven.proofs.same_road.Goals as goal

pub returns-then-other-table : goal.returns-then-other-table
returns-then-other-table c =
    ap (λ r. eqb r c.args.number) c.road_of.ensures
    ∙ same_number c.args.table.now c.args.arc c.args.number c.args.word c.requires.0 c.requires.1 c.if-word-arc.false c.if-other-table.true

pub returns-else-other-table : goal.returns-else-other-table
returns-else-other-table c =
    le-ltb _ _ c.if-other-table.false
    ∙ sym (same-past c.args.table.now c.args.arc c.args.number c.args.word c.requires.0 c.requires.1 c.if-word-arc.false c.if-other-table.false)
