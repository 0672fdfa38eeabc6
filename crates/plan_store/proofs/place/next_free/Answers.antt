-- A free record is the first from itself on, and one in use is passed over; from the file's end on there is none.
use mathlib.Core.Path.{◌≡◌, sym, ◌∙◌}
use mathlib.Core.Logic.{⊎_elim}
use Rattle.std.proofs.Common.{arith}
use borrow.Author.Tests.{eq-eqb, ne_eqb}
use Rattle.lists.proofs.Cases.{order}
use Rattle.lists.proofs.IndexLaws.{first_step, first-stop}
use Rattle.plan_record.specs.Record.{records}
use Rattle.plan_store.specs.Placing.{next_free}
use Rattle.plan_store.proofs.PlaceLaws.{is_free, next-done}
use Rattle.plan_store.proofs.place.next_free.Goals as goal

pub returns-then-plan-eq0 : goal.returns-then-plan-eq0
unfolding next_free
returns-then-plan-eq0 c =
    sym (first-stop (is_free c.args.file.now) (records c.args.file.now) c.loop-i.i c.loop-i-test.true (eq-eqb _ _ (sym c.plan.ensures ∙ c.if-plan-eq0.true))) ∙ c.loop-i.invariant

pub loop-i-preserved : goal.loop-i-preserved
unfolding next_free
loop-i-preserved c =
    sym (first_step (is_free c.args.file.now) (records c.args.file.now) c.loop-i.i c.loop-i-test.true (ne_eqb _ _ (λ e. c.if-plan-eq0.false (c.plan.ensures ∙ e)))) ∙ c.loop-i.invariant

pub returns : goal.returns
returns c =
    ⊎_elim
    (λ w. let e : c.max.result ≡ c.args.at = omega arith in e ∙ sym (next-done c.args.file.now c.args.at w))
    (λ w. let e : c.max.result ≡ c.loop-i.i = omega arith in e ∙ sym (next-done c.args.file.now c.loop-i.i c.loop-i-test.false) ∙ c.loop-i.invariant)
    (order (records c.args.file.now) c.args.at)
