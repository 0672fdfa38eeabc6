-- A node a turn. The invariant: only first arcs have changed, and the nodes below v have theirs.
use Rattle.table.specs.Table.{net_of}
use Rattle.working_room.specs.Field.{Within}
use Rattle.first_routes.specs.Firsts.{back}
use Rattle.first_routes.specs.Measured.{Measured}
use Rattle.first_routes.specs.Picking.{GoesOn, PickedTo}
use Rattle.first_routes.proofs.pick.all.Given as goal

abbrev pub invariant-loop-v : goal.invariant-loop-v
invariant-loop-v l = record {
  within : Within 28 4 l.initial.room l.room;
  measured : Measured back l.nodes l.table l.room;
  on : GoesOn (net_of l.nodes l.table l.closed) l.goal l.room;
  picked : PickedTo (net_of l.nodes l.table l.closed) l.goal l.room l.v;
}
