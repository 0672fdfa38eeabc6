-- The tests in their order.
use mathlib.Core.Path.{sym, ap, ◌∙◌}
use Rattle.outcome.specs.Outcome.{plain}
use Rattle.plan_change.proofs.WithdrawLaws.{told-file, told-request, told-there, told-found}
use Rattle.plan_change.proofs.refused.Goals as goal

pub returns-then-wrong : goal.returns-then-wrong
returns-then-wrong c = c.plain.ensures ∙ ap plain (sym (told-file c.args.file.now c.args.plan (sym c.wrong.ensures ∙ c.if-wrong.true)))

pub returns-then-plan-eq0 : goal.returns-then-plan-eq0
returns-then-plan-eq0 c = c.plain-then-plan-eq0.ensures ∙ ap plain (sym (told-request c.args.file.now c.args.plan (sym c.wrong.ensures ∙ c.if-wrong.false) c.if-plan-eq0.true))

pub returns-then-not-has_plan : goal.returns-then-not-has_plan
returns-then-not-has_plan c =
    c.plain-then-not-has_plan.ensures
    ∙ ap plain (sym (told-there c.args.file.now c.args.plan (sym c.wrong.ensures ∙ c.if-wrong.false) c.if-plan-eq0.false (sym c.has_plan.ensures ∙ c.if-not-has_plan.true)))

pub returns : goal.returns
returns c = ap plain (sym (told-found c.args.file.now c.args.plan (sym c.wrong.ensures ∙ c.if-wrong.false) c.if-plan-eq0.false (sym c.has_plan.ensures ∙ c.if-not-has_plan.false)))
