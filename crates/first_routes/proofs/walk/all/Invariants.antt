-- The ranks are unset but that of s, and the walk starts there. A turn is a step. The invariant: the walk goes on, or is over; what is left falls at each step.
use Rattle.working_room.specs.Field.{Within}
use Rattle.first_routes.specs.Walking.{Ready, Stood, left}
use Rattle.first_routes.proofs.walk.all.Given as goal

abbrev pub invariant-loop-next : goal.invariant-loop-next
invariant-loop-next l = record {
  within : Within 20 8 l.initial.room l.room;
  ready : Ready l.nodes l.table l.closed l.s l.room;
  stood : Stood l.nodes l.table l.closed l.s l.room l.next;
}

abbrev pub decreases-loop-next : goal.decreases-loop-next
decreases-loop-next l = left l.nodes l.table l.s l.room l.next
