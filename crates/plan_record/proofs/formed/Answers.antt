-- The test of the plan number is the definition's, and each arm is its own function.
use mathlib.Core.Path.{sym, ◌∙◌}
use borrow.Author.Tests.{eq-eqb, ne_eqb}
use Rattle.plan_record.specs.Record.{plan_at, formed}
use Rattle.plan_record.proofs.formed.Goals as goal

pub returns-then-plan-eq0 : goal.returns-then-plan-eq0
unfolding formed
returns-then-plan-eq0 c = rw (eq-eqb (plan_at c.args.file.now c.args.i) 0 (sym c.plan.ensures ∙ c.if-plan-eq0.true)) c.blank.ensures

pub returns-else-plan-eq0 : goal.returns-else-plan-eq0
unfolding formed
returns-else-plan-eq0 c = rw (ne_eqb (plan_at c.args.file.now c.args.i) 0 (λ z. c.if-plan-eq0.false (c.plan.ensures ∙ z))) c.formed_use.ensures
