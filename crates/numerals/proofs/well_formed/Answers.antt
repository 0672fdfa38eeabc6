-- With no digit at the place there are no digits. A digit that is no zero may lead any others; a zero stands alone, so no digit may follow it.
use Rattle.std.proofs.Common.{arith}
use Rattle.numerals.proofs.ReadLaws.{formed-none, formed-lead, formed-zero}
use Rattle.numerals.proofs.well_formed.Goals as goal

pub returns-then-text-at-ne48 : goal.returns-then-text-at-ne48
returns-then-text-at-ne48 c = grind (arith, formed-lead c.args.text.now c.args.at)

pub returns-else-text-at-ne48 : goal.returns-else-text-at-ne48
returns-else-text-at-ne48 c = grind (arith, formed-zero c.args.text.now c.args.at)

pub returns-else-digit_at : goal.returns-else-digit_at
returns-else-digit_at c = grind (arith, formed-none c.args.text.now c.args.at)
