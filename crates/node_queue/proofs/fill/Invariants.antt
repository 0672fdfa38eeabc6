-- Invariant: the nodes before v have the key x, and each is the winner that it has.
use Rattle.node_queue.proofs.KeyLaws.{FilledTo}
use Rattle.node_queue.proofs.fill.Given as goal

abbrev pub invariant-loop-v : goal.invariant-loop-v
invariant-loop-v l = FilledTo l.v l.initial.room l.x l.room
