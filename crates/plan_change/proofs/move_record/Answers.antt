-- The test is the contract's.
use mathlib.Core.Path.{sym, ◌∙◌}
use Rattle.plan_change.proofs.CollectLaws.{not-moved, is-moved}
use Rattle.plan_change.proofs.move_record.Goals as goal

pub returns-then-plan-eq0 : goal.returns-then-plan-eq0
returns-then-plan-eq0 c =
    let k = not-moved c.args.file.now c.args.w c.args.i (sym c.plan.ensures ∙ c.if-plan-eq0.true) in
    (sym k.0, sym k.1)

pub returns : goal.returns
returns c =
    let k = is-moved c.args.file.now c.args.w c.args.i (λ z. c.if-plan-eq0.false (c.plan.ensures ∙ z)) in
    (c.copy.ensures ∙ sym k.0, sym k.1)
