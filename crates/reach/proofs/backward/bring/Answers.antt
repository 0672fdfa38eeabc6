-- An arc that is found is one of the table's, so its number fits a word.
use Rattle.std.proofs.Common.{arith}
use Rattle.table.proofs.FaultLaws.{good-size}
use Rattle.reach.proofs.backward.bring.Goals as goal

pub look-requires : goal.look-requires
look-requires c =
    (c.requires.1, c.requires.2, c.requires.3, omega (arith, c.in-Some.ensures.0, (good-size c.args.nodes c.args.table.now c.requires.0).3))
