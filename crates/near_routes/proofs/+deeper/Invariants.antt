-- Each arc of the run that goes on is gone by, and what is found there is listed; the invariant: what is listed and what the arcs from a on find make the whole. The measure of
-- the recursion is the path's length less its depth: a node more is visited with each call.
use Rattle.std.proofs.Common.{◌-◌, ◌≤◌, length}
use Rattle.table.specs.Run.{run_start}
use Rattle.near_routes.specs.Deep.{Turning}
use Rattle.near_routes.proofs.+deeper.Given as goal

abbrev pub decreases-deeper : goal.decreases-deeper
decreases-deeper l = length l.path.now - l.depth

abbrev pub invariant-loop-a : goal.invariant-loop-a
invariant-loop-a l = (run_start l.table l.v ≤ l.a) × Turning l.x l.table l.closed l.fn.list l.fn.path l.fn.room l.depth l.n l.a l.end l.list l.path l.room l.found
