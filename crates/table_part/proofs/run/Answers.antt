-- Where v is no node, the first table has a fault or the second is wrong the part is empty; else it is the run of v by direction, by its place.
use Rattle.std.proofs.Common.{sym, ap, ◌∙◌}
use Rattle.outcome.specs.declared.Told.{Told}
use Rattle.second.proofs.LookupLaws.{ok-good, err-faulty}
use Rattle.table_part.proofs.PartLaws.{lookup-part, lookup-faulty, lookup-past, lookup-wrong}
use Rattle.table_part.proofs.run.Goals as goal
use Rattle.table_part.proofs.run.Goals.{then-nodes-node-via-then-nodes-node, then-nodes-node-via-else-nodes-node+then-is_err, then-nodes-node-via-else-nodes-node+else-is_err+then-wrong}

pub returns-then-nodes-node : goal.returns-then-nodes-node
returns-then-nodes-node c =
    elim c.then-nodes-node.branch [
      | then-nodes-node-via-then-nodes-node w ↦ sym (lookup-past _ _ _ _ _ w.if-nodes-node.true)
      | then-nodes-node-via-else-nodes-node+then-is_err w ↦
          sym (lookup-faulty _ _ _ _ _ (λ z. err-faulty w.check.result (sym w.is_err.ensures.value ∙ w.if-is_err.true) (ap (λ (x : Told). x.outcome) w.check.ensures ∙ z)))
      | then-nodes-node-via-else-nodes-node+else-is_err+then-wrong w ↦ sym (lookup-wrong _ _ _ _ _ (sym w.wrong.ensures ∙ w.if-wrong.true))
    ]

pub returns : goal.returns
returns c =
    let ok = sym c.check.ensures ∙ ok-good c.check.result (sym c.is_err.ensures.value ∙ c.if-is_err.false) in
    c.part_by.ensures ∙ sym (lookup-part _ _ _ _ _ ok (sym c.wrong.ensures ∙ c.if-wrong.false) c.if-nodes-node.false)
