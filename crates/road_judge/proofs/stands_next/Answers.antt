-- The test is the definition's.
use Rattle.std.proofs.Common.{◌∙◌}
use borrow.Author.Tests.{eq-eqb, ne_eqb}
use Rattle.road_judge.specs.Judged.{stands_next}
use Rattle.road_judge.proofs.stands_next.Goals as goal

pub returns-then-r-before : goal.returns-then-r-before
unfolding stands_next
returns-then-r-before c = rw (eq-eqb c.args.r.count c.args.before c.if-r-before.true)

pub returns : goal.returns
unfolding stands_next
returns c = c.stands.ensures ∙ rw (ne_eqb c.args.r.count c.args.before c.if-r-before.false)
