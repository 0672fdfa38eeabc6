-- u is done, and its turn goes along its run. The invariant: the turn has come to record i. Each turn of the loop is done with one.
use Rattle.reach.specs.Way.{along, At}
use Rattle.reach.proofs.way.leave.Given as goal

abbrev pub invariant-loop-i : goal.invariant-loop-i
invariant-loop-i g l = At (g.A.Arcs.Place l.nodes l.table l.walked l.u) (along g.A.Arcs.turn l.nodes l.table l.closed) l.s l.x l.fn.room l.room l.root l.u l.d l.i
