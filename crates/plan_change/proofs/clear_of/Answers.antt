-- The test is the contract's; a record that is not the plan's stays, as if it were put on itself.
use mathlib.Core.Path.{sym, ◌∙◌}
use borrow.Author.Tests.{eq-eqb, ne_eqb}
use Rattle.plan_record.specs.Record.{plan_at}
use Rattle.plan_change.proofs.WithdrawLaws.{put_same}
use Rattle.plan_change.proofs.clear_of.Goals as goal

pub returns-then-plan : goal.returns-then-plan
returns-then-plan c = rw (eq-eqb (plan_at c.args.file.now c.args.i) c.args.plan (sym c.plan.ensures ∙ c.if-plan.true)) c.clear.ensures

pub returns-else-plan : goal.returns-else-plan
returns-else-plan c =
    rw (ne_eqb (plan_at c.args.file.now c.args.i) c.args.plan (λ z. c.if-plan.false (c.plan.ensures ∙ z))) (sym (put_same c.args.file.now c.args.i c.requires))
