-- A query that was refused gets its line; of any other the text is written.
use Rattle.std.proofs.Common.{ap, sym, ◌∙◌, refl}
use Rattle.outcome.proofs.OutcomeLaws.{refused_not_zero}
use Rattle.desk_text.proofs.FinishLaws.{appended-as}
use Rattle.desk_old.proofs.SaidLaws.{turned-refused, turned-written}
use Rattle.desk_old.proofs.turn_asked.Goals as goal

pub returns-in-Err : goal.returns-in-Err
returns-in-Err c =
    appended-as _ _ _ _ _
    (turned-refused c.args.x c.args.table.now _ (c.from.ensures ∙ c.in-Err.ensures) (λ z. refused_not_zero c.in-Err.refusal (ap (λ x. x.outcome) (sym c.from.ensures) ∙ z))) c.refused.ensures

pub returns : goal.returns
returns c = appended-as _ _ _ _ _ (turned-written c.args.x c.args.table.now _ c.in_default.ensures refl) c.write.ensures
