-- The start nodes decide where they differ, else the places.
use Rattle.std.proofs.Common.{sym, ◌∙◌}
use Rattle.road_judge.specs.Judged.{stands_by}
use Rattle.road_judge.proofs.JudgeLaws.{one-if, stands-other, stands-same}
use Rattle.road_judge.proofs.stands.Goals as goal

pub returns-then-r-place : goal.returns-then-r-place
unfolding stands_by
returns-then-r-place c = c.from.ensures ∙ one-if _ ∙ sym (stands-other c.args.r.from c.args.place.start c.args.i c.args.place.at c.if-r-place.true)

pub returns : goal.returns
unfolding stands_by
returns c = c.from-2.ensures ∙ one-if _ ∙ sym (stands-same c.args.r.from c.args.place.start c.args.i c.args.place.at c.if-r-place.false)
