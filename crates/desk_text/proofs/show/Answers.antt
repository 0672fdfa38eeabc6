-- A query with no summary to write was refused, and the line of its refusal is the reply; of any other the lines of its rounds are.
use Rattle.desk_text.proofs.DeskLaws.{known-end, shown-end, shown-refused}
use Rattle.desk_text.proofs.show.Goals as goal

pub returns-then-g-eq0 : goal.returns-then-g-eq0
returns-then-g-eq0 c = shown-refused _ _ _ _ _ _ _ c.if-g-eq0.true c.refused.ensures

pub show_rounds-requires : goal.show_rounds-requires
show_rounds-requires c =
    let p = c.requires in
    (p.0, p.1, p.2, known-end _ _ _ _ c.if-g-eq0.false p.3)

pub returns : goal.returns
returns c = shown-end _ _ _ _ _ _ _ c.if-g-eq0.false c.show_rounds.ensures
