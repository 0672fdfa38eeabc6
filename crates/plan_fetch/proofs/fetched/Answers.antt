-- The refusals in their order; where none of the first three holds, the answer.
use mathlib.Core.Path.{refl, sym, ◌∙◌}
use Rattle.plan_fetch.proofs.FetchLaws.{refused-file, refused-request, refused-there, answered}
use Rattle.plan_fetch.proofs.fetched.Goals as goal

pub returns-then-wrong : goal.returns-then-wrong
returns-then-wrong c =
    refused-file c.args.file.now c.args.plan c.args.slots.now c.args.width _ c.args.slots.now (sym c.wrong.ensures ∙ c.if-wrong.true) c.plain.ensures refl

pub returns-then-plan-eq0 : goal.returns-then-plan-eq0
returns-then-plan-eq0 c =
    refused-request c.args.file.now c.args.plan c.args.slots.now c.args.width _ c.args.slots.now (sym c.wrong.ensures ∙ c.if-wrong.false) c.if-plan-eq0.true
    c.plain-then-plan-eq0.ensures refl

pub returns-then-not-has_plan : goal.returns-then-not-has_plan
returns-then-not-has_plan c =
    refused-there c.args.file.now c.args.plan c.args.slots.now c.args.width _ c.args.slots.now (sym c.wrong.ensures ∙ c.if-wrong.false) c.if-plan-eq0.false
    (sym c.has_plan.ensures ∙ c.if-not-has_plan.true) c.plain-then-not-has_plan.ensures refl

pub returns : goal.returns
returns c =
    answered c.args.file.now c.args.plan c.args.slots.now c.args.width _ c.answer.new.slots (sym c.wrong.ensures ∙ c.if-wrong.false) c.if-plan-eq0.false
    (sym c.has_plan.ensures ∙ c.if-not-has_plan.false) c.answer.ensures.told c.answer.ensures.area
