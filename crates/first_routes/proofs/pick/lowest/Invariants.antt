-- The loop goes along the run of v. The invariant: no arc before `arc` is as wanted. There is one that is, so the run's end is never come to.
use Rattle.std.proofs.Common.{ℕ, ◌≤◌}
use Rattle.table.specs.Table.{net_of}
use Rattle.distances.specs.Greedy.{Nearer}
use Rattle.reach.specs.Stand.{dist_in}
use Rattle.first_routes.specs.Firsts.{back}
use Rattle.first_routes.proofs.pick.lowest.Given as goal

abbrev pub invariant-loop-arc : goal.invariant-loop-arc
invariant-loop-arc l = (b : ℕ) → Nearer (net_of l.nodes l.table l.closed) (dist_in back l.nodes l.room) l.v b → l.arc ≤ b
