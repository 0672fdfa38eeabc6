-- Where the records that come to a node start is told by their end nodes; there are as many as arcs.
use Rattle.std.proofs.Common.{arith}
use Rattle.table.proofs.FaultLaws.{good-size}
use Rattle.second.specs.Lookup.{coming_start}
use Rattle.second.proofs.ComingLaws.{coming-count}
use Rattle.run_notes.specs.Noted.{start_by}
use Rattle.run_notes.proofs.coming.Goals as goal

pub note_by-requires : goal.note_by-requires
note_by-requires c =
    (omega (arith, coming-count c.args.nodes c.args.table.now c.requires.0 c.args.second.now c.requires.1, (good-size c.args.nodes c.args.table.now c.requires.0).3), c.requires.2)

pub returns : goal.returns
unfolding coming_start start_by
returns c = (c.note_by.ensures.0, record { at = c.note_by.ensures.1 })
