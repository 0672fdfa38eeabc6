-- Where v is no node or the table has a fault the part is empty; else it is the run of v.
use Rattle.std.proofs.Common.{sym, ap, ◌∙◌}
use Rattle.outcome.specs.declared.Told.{Told}
use Rattle.outcome.proofs.OutcomeLaws.{refused_not_zero}
use Rattle.table.proofs.RunLaws.{arcs-run, arcs-faulty, arcs-past}
use Rattle.table.proofs.run.arcs_from.Goals as goal

pub returns-then-nodes-v : goal.returns-then-nodes-v
returns-then-nodes-v c = sym (arcs-past _ _ _ c.if-nodes-v.true)

pub run_of-requires : goal.run_of-requires
run_of-requires c = (sym c.in-Ok.ensures, c.if-nodes-v.false)

pub returns-in-Ok : goal.returns-in-Ok
returns-in-Ok c = c.run_of.ensures ∙ sym (arcs-run _ _ _ (sym c.in-Ok.ensures) c.if-nodes-v.false)

pub returns-in-Err : goal.returns-in-Err
returns-in-Err c =
    sym (arcs-faulty _ _ _ (λ z. refused_not_zero c.in-Err.field-0 (ap (λ (t : Told). t.outcome) c.in-Err.ensures ∙ z)))
