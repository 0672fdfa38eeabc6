-- The start lies no later than a record that does not lie below v, nor than the end.
use Rattle.std.proofs.Common.{arith, ◌+◌}
use Rattle.table.proofs.RunLaws.{run-le, run-to}
use Rattle.run_starts.proofs.high.Goals as goal

pub returns-then-v-from_of : goal.returns-then-v-from_of
returns-then-v-from_of c = (run-to c.args.table.now c.args.v (c.args.g + 64) (omega arith), omega arith)

pub returns-else-end-gt-REACH : goal.returns-else-end-gt-REACH
returns-else-end-gt-REACH c = (run-le c.args.table.now c.args.v, omega arith)
