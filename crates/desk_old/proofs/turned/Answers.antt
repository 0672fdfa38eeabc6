-- What was read of the text is a malformed line, whose refusal is due, or the query that it asks. That one has few enough arcs, and they stand in the table's first part,
-- so what is due over that part is due.
use Rattle.std.proofs.Common.{ap, ◌∙◌, arith}
use Rattle.desk_text.specs.Desk.{refused_text}
use Rattle.desk_text.proofs.FinishLaws.{appended-as}
use Rattle.desk_old.proofs.SaidLaws.{turned-malformed, asks-old}
use Rattle.desk_old.proofs.turned.Goals as goal

pub returns-in-Err : goal.returns-in-Err
returns-in-Err c = appended-as _ _ _ _ _ (ap refused_text c.beside.ensures ∙ turned-malformed _ _ _ _ c.in-Err.ensures) c.refused.ensures

pub returns-in-Ok : goal.returns-in-Ok
returns-in-Ok c = appended-as _ _ _ _ _ (asks-old _ c.in-Ok.x _ c.in-Ok.ensures).due c.turn_asked.ensures

pub slice_bounds-turn_asked-end : goal.slice_bounds-turn_asked-end
slice_bounds-turn_asked-end c = omega (arith, (asks-old _ c.in-Ok.x _ c.in-Ok.ensures).long)
