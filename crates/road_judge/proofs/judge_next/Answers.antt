-- The test is the definition's.
use Rattle.std.proofs.Common.{◌∙◌}
use borrow.Author.Tests.{eq-eqb, ne_eqb}
use Rattle.road_judge.specs.Judged.{pick_next}
use Rattle.road_judge.proofs.judge_next.Goals as goal

pub returns-then-r-before : goal.returns-then-r-before
unfolding pick_next
returns-then-r-before c = rw (eq-eqb c.args.r.count c.args.before c.if-r-before.true)

pub returns : goal.returns
unfolding pick_next
returns c = c.judge.ensures ∙ rw (ne_eqb c.args.r.count c.args.before c.if-r-before.false)
