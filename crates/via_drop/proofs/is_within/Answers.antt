-- The products fit: b is at most 1,000 and an overlap below 2⁴¹. Where the length is beyond every
-- overlap, so is the one taken in its place (`within-far`).
use Rattle.via_drop.proofs.DropLaws.{within-far}
use Rattle.via_drop.proofs.is_within.Goals as goal

pub returns : goal.returns
returns c =
    within-far c.args.ask.a c.args.ask.b c.args.overlap c.args.len c.min.result c.requires.1 c.requires.2 c.min.ensures
