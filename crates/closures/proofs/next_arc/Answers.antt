-- An open arc is the next one (`next-stop`), a closed one is passed (`next-step`), and at the run's end none is left (`next-end`).
use Rattle.std.proofs.Common.{sym, ◌∙◌, arith}
use borrow.Author.Tests.{not-true, not-false}
use Rattle.closures.proofs.ClosedLaws.{next-end, next-stop, next-step}
use Rattle.closures.proofs.next_arc.Goals as goal

pub returns-then-not-is_closed : goal.returns-then-not-is_closed
returns-then-not-is_closed c =
    sym (next-stop _ _ _ c.loop-a-test.true (not-false _ (sym c.is_closed.ensures ∙ c.if-not-is_closed.true))) ∙ c.loop-a.invariant

pub loop-a-preserved : goal.loop-a-preserved
loop-a-preserved c =
    sym (next-step _ _ _ c.loop-a-test.true (not-true _ (sym c.is_closed.ensures ∙ c.if-not-is_closed.false))) ∙ c.loop-a.invariant

pub returns : goal.returns
returns c = sym (next-end _ _ _ (omega arith)) ∙ c.loop-a.invariant
