-- Where none of the run's arcs fits, none does: `none_left` at the table's end, `none_more` at an arc that starts elsewhere.
use mathlib.Core.Logic.{⊎_elim}
use Rattle.std.proofs.Common.{arith, sym, ap, ◌∙◌}
use Rattle.lists.proofs.Cases.{order}
use Rattle.reach.specs.Choice.{fits}
use Rattle.reach.proofs.ChoiceLaws.{none_left, none_more}
use Rattle.reach.proofs.choice.open_arc.Goals as goal

pub loop-a-init : goal.loop-a-init
loop-a-init c = λ i p q. absurd (omega (arith, c.requires.1))

pub returns-then-from_of-w : goal.returns-then-from_of-w
returns-then-from_of-w c =
    none_more c.args.nodes c.args.table.now c.args.closed.now c.requires.0 c.args.w c.args.v c.args.len c.loop-a.a (omega (arith, c.requires.1)) c.loop-a.invariant
    (λ z. c.if-from_of-w.true (c.from_of.ensures ∙ z))

pub returns-then-fits : goal.returns-then-fits
returns-then-fits c = (c.loop-a-test.true, sym c.from_of.ensures ∙ c.if-from_of-w.false, sym c.fits.ensures ∙ c.if-fits.true)

pub loop-a-preserved : goal.loop-a-preserved
loop-a-preserved c =
    λ i p q. ⊎_elim
    (λ z. ap (fits c.args.table.now c.args.closed.now c.args.v c.args.len) (omega arith) ∙ sym c.fits.ensures ∙ c.if-fits.false)
    (λ z. c.loop-a.invariant i p z) (order c.loop-a.a i)

pub returns : goal.returns
returns c =
    none_left c.args.nodes c.args.table.now c.args.closed.now c.requires.0 c.args.w c.args.v c.args.len c.loop-a.a (omega (arith, c.requires.1)) c.loop-a.invariant c.loop-a-test.false
