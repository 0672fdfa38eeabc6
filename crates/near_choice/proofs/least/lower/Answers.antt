-- One of the two, as they compare (`lower-new`, `lower-old`).
use Rattle.std.proofs.Common.{sym, ◌∙◌}
use Rattle.variety.specs.Variety.{less}
use Rattle.near_choice.proofs.RankLaws.{lower-new, lower-old}
use Rattle.near_choice.proofs.least.lower.Goals as goal

pub returns-then-is_less : goal.returns-then-is_less
unfolding less
returns-then-is_less c = (sym (lower-new c.args.x c.args.y (sym c.is_less.ensures ∙ c.if-is_less.true)), c.requires.1)

pub returns-else-is_less : goal.returns-else-is_less
unfolding less
returns-else-is_less c = (sym (lower-old c.args.x c.args.y (sym c.is_less.ensures ∙ c.if-is_less.false)), c.requires.0)
