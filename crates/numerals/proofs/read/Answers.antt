-- The digits may be a number, and then they are collected, which gives the number at the place; or they may not, by a zero that leads others or
-- because there are none, and then there is no number.
use Rattle.std.proofs.Common.{sym, drop, ◌∙◌}
use Rattle.numerals.proofs.ReadLaws.{number-none}
use Rattle.numerals.proofs.read.Goals as goal

pub returns-else-well_formed : goal.returns-else-well_formed
returns-else-well_formed c = sym (number-none (drop c.args.at c.args.text.now) (sym c.well_formed-2.ensures ∙ c.if-well_formed.false))
