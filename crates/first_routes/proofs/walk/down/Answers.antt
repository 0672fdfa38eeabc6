-- The arc's end is a node, so it has a record in the room; the arc's number fits a word.
use Rattle.std.proofs.Common.{arith}
use Rattle.table.proofs.FaultLaws.{all-good, good-size}
use Rattle.first_routes.proofs.walk.down.Goals as goal

pub start_of-first-requires : goal.start_of-first-requires
start_of-first-requires c =
    (c.requires.1, c.requires.4, omega (arith, c.to_of-w.ensures, (all-good c.args.nodes c.args.table.now c.requires.0 c.args.arc c.requires.2).end))

pub overflow_cast-arc : goal.overflow_cast-arc
overflow_cast-arc c = omega (arith, c.requires.2, (good-size c.args.nodes c.args.table.now c.requires.0).3)

pub enter-requires : goal.enter-requires
enter-requires c =
    omega (arith, c.requires.1.enough, c.to_of-w.ensures, (all-good c.args.nodes c.args.table.now c.requires.0 c.args.arc c.requires.2).end)
