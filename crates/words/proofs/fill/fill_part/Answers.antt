-- The part from a to e is lent, within the slice by what is required. It comes back filled to its length, which is e - a, and the whole around it is
-- as it was.
use Rattle.words.proofs.FillLaws.{fill-part}
use Rattle.words.proofs.fill.fill_part.Goals as goal

pub returns : goal.returns
returns g c = fill-part c.args.a c.args.e c.args.v c.args.b.now _ c.requires.0 c.requires.1 c.fill.ensures
