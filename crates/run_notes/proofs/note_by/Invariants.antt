-- A node a turn. The invariant: `first` is where the records of v start, the nodes below v have their notes, and nothing but these has changed.
use Rattle.std.proofs.Common.{◌≡◌}
use Rattle.working_room.specs.Field.{Within}
use Rattle.run_notes.specs.Noted.{Noted, start_by}
use Rattle.run_notes.proofs.note_by.Given as goal

abbrev pub invariant-loop-v : goal.invariant-loop-v
invariant-loop-v g l = record {
  at : l.first ≡ start_by g.O.Order.node_at l.table l.v;
  within : Within g.O.Order.NOTE 4 l.initial.room l.room;
  noted : Noted g.O.Order.NOTE (start_by g.O.Order.node_at l.table) l.v l.room;
}
