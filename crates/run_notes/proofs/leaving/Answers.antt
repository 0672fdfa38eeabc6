-- Where the arcs of a node start is told by their start nodes.
use Rattle.std.proofs.Common.{arith}
use Rattle.table.specs.Run.{run_start}
use Rattle.table.proofs.FaultLaws.{good-size}
use Rattle.run_notes.specs.Noted.{start_by}
use Rattle.run_notes.proofs.leaving.Goals as goal

pub note_by-requires : goal.note_by-requires
note_by-requires c = (omega (arith, (good-size c.args.nodes c.args.table.now c.requires.0).3), c.requires.1)

pub returns : goal.returns
unfolding run_start start_by
returns c = (c.note_by.ensures.0, record { at = c.note_by.ensures.1 })
