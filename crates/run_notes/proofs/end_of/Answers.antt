-- The runs of the table end where all records do (`run_end`).
use Rattle.std.proofs.Common.{◌+◌, arith}
use Rattle.run_notes.proofs.NotedLaws.{run_end}
use Rattle.run_notes.proofs.end_of.Goals as goal

pub returns : goal.returns
returns c = run_end c.args.nodes c.args.table.now c.requires.0 (c.args.v + 1) (omega arith)
