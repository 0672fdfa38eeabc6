-- The invariant: the search goes on between two nodes, and `key` is that of the first of the queue. At each turn one node more is done. The notes
-- are those at first, for the search leaves them.
use Rattle.std.proofs.Common.{◌≡◌}
use Rattle.node_queue.specs.Queue.{key_at}
use Rattle.reach.specs.Stand.{done_in, Elsewhere}
use Rattle.reach.specs.Turn.{Ready}
use Rattle.reach.specs.Way.{along}
use Rattle.reach.proofs.LookingLaws.{left}
use Rattle.reach.proofs.way.search.Given as goal

abbrev pub invariant-loop-key : goal.invariant-loop-key
invariant-loop-key g l = record {
  elsewhere : Elsewhere l.x l.fn.room l.room;
  first : l.key ≡ key_at l.room l.root;
  ready : Ready (along g.A.Arcs.turn l.nodes l.table l.closed) l.s l.x l.room l.root;
}

abbrev pub decreases-loop-key : goal.decreases-loop-key
decreases-loop-key g l = left (done_in l.x l.nodes l.room) l.nodes
