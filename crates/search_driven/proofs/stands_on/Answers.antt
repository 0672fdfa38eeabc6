-- A word that is the arc ends the search (`any-stop`), another is passed (`any_step`); from a blank word on the slot is blank (`any-blank`).
use Rattle.std.proofs.Common.{eqb, sym, ◌∙◌, arith}
use borrow.Author.Tests.{eq-eqb, ne_eqb}
use Rattle.search_driven.proofs.DrivenLaws.{any-done, any_step, any-stop, any-blank}
use Rattle.search_driven.proofs.stands_on.Goals as goal

pub returns-then-word-arc : goal.returns-then-word-arc
returns-then-word-arc c =
    sym (any-stop (eqb c.args.arc) c.args.slot.now c.loop-word.word-index c.loop-word-test.true (eq-eqb _ _ (sym c.if-word-arc.true))) ∙ c.loop-word.invariant

pub returns-then-word : goal.returns-then-word
returns-then-word c =
    sym (any-blank (eqb c.args.arc) (ne_eqb _ _ c.requires.1) c.args.slot.now c.requires.0 c.loop-word.word-index c.loop-word-test.true c.if-word.true) ∙ c.loop-word.invariant

pub loop-word-preserved : goal.loop-word-preserved
loop-word-preserved c =
    sym (any_step (eqb c.args.arc) c.args.slot.now c.loop-word.word-index c.loop-word-test.true (ne_eqb _ _ (λ e. c.if-word-arc.false (sym e)))) ∙ c.loop-word.invariant

pub returns : goal.returns
returns c = sym (any-done (eqb c.args.arc) c.args.slot.now c.loop-word.word-index (omega arith)) ∙ c.loop-word.invariant
