-- Where v is no node or the table has a fault the part is empty; else it is the run of v, by its place.
use Rattle.std.proofs.Common.{sym, ap, ◌∙◌}
use Rattle.outcome.specs.declared.Told.{Told}
use Rattle.second.proofs.LookupLaws.{ok-good, err-faulty}
use Rattle.table_part.proofs.PartLaws.{part-run, part-faulty, part-past}
use Rattle.table_part.proofs.arcs_from.Goals as goal
use Rattle.table_part.proofs.arcs_from.Goals.{then-nodes-v-via-then-nodes-v, then-nodes-v-via-else-nodes-v+then-is_err}

pub returns-then-nodes-v : goal.returns-then-nodes-v
returns-then-nodes-v c =
    elim c.then-nodes-v.branch [
      | then-nodes-v-via-then-nodes-v w ↦ sym (part-past _ _ _ w.if-nodes-v.true)
      | then-nodes-v-via-else-nodes-v+then-is_err w ↦
          sym (part-faulty _ _ _ (λ z. err-faulty w.check.result (sym w.is_err.ensures.value ∙ w.if-is_err.true) (ap (λ (x : Told). x.outcome) w.check.ensures ∙ z)))
    ]

pub returns : goal.returns
returns c =
    let ok = sym c.check.ensures ∙ ok-good c.check.result (sym c.is_err.ensures.value ∙ c.if-is_err.false) in
    c.run_part.ensures ∙ sym (part-run _ _ _ ok c.if-nodes-v.false)
