-- The invariant: the total and what is marked of the words that are left make what is marked of all. A blank word ends the route.
use Rattle.std.proofs.Common.{◌≡◌, ◌+◌, ◌*◌, ◌≤◌, drop}
use Rattle.net.specs.Limits.{most_length}
use Rattle.route_apart.specs.Marks.{marked_of}
use Rattle.route_apart.proofs.shared.Given as goal

abbrev pub invariant-loop-x : goal.invariant-loop-x
invariant-loop-x l = (l.total ≤ l.x-index * most_length) × (l.total + marked_of l.table l.room (drop l.x-index l.slot) ≡ marked_of l.table l.room l.slot)
