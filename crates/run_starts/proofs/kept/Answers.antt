-- The start is found whatever was kept, and fits a word.
use Rattle.std.proofs.Common.{arith}
use Rattle.table.proofs.FaultLaws.{good-size}
use Rattle.table.proofs.RunLaws.{run-le}
use Rattle.run_starts.proofs.kept.Goals as goal

pub overflow_cast-starts : goal.overflow_cast-starts
overflow_cast-starts c =
    omega (arith, run-le c.args.table.now c.args.v, (good-size c.args.nodes c.args.table.now c.requires.0).3)
