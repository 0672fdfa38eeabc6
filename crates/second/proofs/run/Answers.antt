-- Where v is no node, the first table has a fault or the second is wrong the part is empty; else it is the run of v by direction.
use Rattle.std.proofs.Common.{sym, ap, ◌∙◌}
use Rattle.outcome.specs.declared.Told.{Told}
use Rattle.second.proofs.LookupLaws.{ok-good, err-faulty, run-part, run-faulty, run_past, run-wrong}
use Rattle.second.proofs.run.Goals as goal
use Rattle.second.proofs.run.Goals.{then-nodes-v-via-then-nodes-v, then-nodes-v-via-else-nodes-v+then-is_err, then-nodes-v-via-else-nodes-v+else-is_err+then-wrong}

pub wrong-requires : goal.wrong-requires
wrong-requires c = sym c.check.ensures ∙ ok-good c.check.result (sym c.is_err.ensures.value ∙ c.if-is_err.false)

pub returns-then-nodes-v : goal.returns-then-nodes-v
returns-then-nodes-v c =
    elim c.then-nodes-v.branch [
      | then-nodes-v-via-then-nodes-v w ↦ sym (run_past c.args.nodes c.args.table.now c.args.second.now c.args.direction c.args.v w.if-nodes-v.true)
      | then-nodes-v-via-else-nodes-v+then-is_err w ↦
          sym
          (run-faulty c.args.nodes c.args.table.now c.args.second.now c.args.direction c.args.v
          (λ z. err-faulty w.check.result (sym w.is_err.ensures.value ∙ w.if-is_err.true) (ap (λ (x : Told). x.outcome) w.check.ensures ∙ z)))
      | then-nodes-v-via-else-nodes-v+else-is_err+then-wrong w ↦
          sym (run-wrong c.args.nodes c.args.table.now c.args.second.now c.args.direction c.args.v (sym w.wrong.ensures ∙ w.if-wrong.true))
    ]

pub part_by-requires : goal.part_by-requires
part_by-requires c =
    (sym c.check.ensures ∙ ok-good c.check.result (sym c.is_err.ensures.value ∙ c.if-is_err.false), sym c.wrong.ensures ∙ c.if-wrong.false, c.if-nodes-v.false)

pub returns : goal.returns
returns c =
    let ok = sym c.check.ensures ∙ ok-good c.check.result (sym c.is_err.ensures.value ∙ c.if-is_err.false) in
    c.part_by.ensures
    ∙ sym (run-part c.args.nodes c.args.table.now c.args.second.now c.args.direction c.args.v ok (sym c.wrong.ensures ∙ c.if-wrong.false) c.if-nodes-v.false)
