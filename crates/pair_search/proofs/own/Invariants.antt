-- u's turn goes along its run. The invariant: of what leaves u, its own arcs from `a` on and the arc
-- back are yet to be looked at, and `a` is no earlier than its run.
use Rattle.std.proofs.Common.{◌≤◌}
use Rattle.table.specs.Table.{net_of}
use Rattle.table.specs.Run.{run_start}
use Rattle.pair.specs.Walked.{Waits}
use Rattle.pair_room.specs.Room.{kept_in}
use Rattle.pair_room.specs.Stages.{last_of}
use Rattle.pair_search.specs.Turn.{At}
use Rattle.pair_search.proofs.own.Given as goal

abbrev pub invariant-loop-a : goal.invariant-loop-a
invariant-loop-a l =
    let net = net_of l.nodes l.table l.closed in
    record {
      begun : run_start l.table l.u ≤ l.a;
      turn : At net l.s l.goal l.initial.room l.room l.first l.u l.d
          (Waits net (kept_in l.nodes l.room) (last_of l.room) l.u l.a);
    }
