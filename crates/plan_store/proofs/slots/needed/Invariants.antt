-- The slots in order: what the routes so far take, and what those from slot r on take, is what all take. At twelve slots of 65,535 words it stays small.
use Rattle.std.proofs.Common.{◌≡◌, ◌+◌, ◌*◌, ◌≤◌}
use Rattle.lists.proofs.LoopLaws.{gives}
use Rattle.plan_store.specs.Slots.{most_width, routes_in}
use Rattle.plan_store.specs.Placing.{needed_for}
use Rattle.plan_store.proofs.SlotLaws.{route_at}
use Rattle.plan_store.proofs.slots.needed.Given as goal

abbrev pub invariant-loop-r : goal.invariant-loop-r
invariant-loop-r l = (l.n ≤ l.r * most_width) × (l.n + needed_for (gives (route_at l.slots l.width) l.r l.routes) ≡ needed_for (routes_in l.slots l.routes l.width))
