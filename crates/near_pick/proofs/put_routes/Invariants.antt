-- The invariant: the area is as it was, with the routes of the first j ranks in their slots (`at_turn`).
use Rattle.std.proofs.Common.{◌≡◌}
use Rattle.near_pick.proofs.SlotLaws.{at_turn}
use Rattle.near_pick.proofs.put_routes.Given as goal

abbrev pub invariant-loop-j : goal.invariant-loop-j
invariant-loop-j l = l.area ≡ at_turn l.w l.list l.ranks l.fn.area l.j
