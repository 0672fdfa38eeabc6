-- The start lies after each record that lies below v.
use Rattle.std.proofs.Common.{arith, ◌-◌}
use Rattle.table.proofs.RunLaws.{run_past}
use Rattle.run_starts.proofs.low.Goals as goal

pub returns-then-from_of-v : goal.returns-then-from_of-v
returns-then-from_of-v c =
    omega (arith, run_past c.args.nodes c.args.table.now c.requires c.args.v (c.args.g - 64) (omega arith) (omega arith))
