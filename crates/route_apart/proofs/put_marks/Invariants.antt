-- The invariant: the marks of the arcs that are left, put into the room as it stands, make the room with the marks of all. A blank word ends the route.
use Rattle.std.proofs.Common.{◌≡◌, drop}
use Rattle.search_ask.specs.Earlier.{route_in}
use Rattle.route_apart.specs.Marks.{put_marks}
use Rattle.route_apart.proofs.put_marks.Given as goal

abbrev pub invariant-loop-x : goal.invariant-loop-x
invariant-loop-x l = put_marks l.table l.on (route_in (drop l.x-index l.slot)) l.room ≡ put_marks l.table l.on (route_in l.slot) l.fn.room
