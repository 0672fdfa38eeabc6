-- Invariant: of the nodes before v nothing is known. A node more is `blank-more`.
use Rattle.via_drop.specs.Walks.{Blank}
use Rattle.via_drop.proofs.blank.Given as goal

abbrev pub invariant-loop-v : goal.invariant-loop-v
invariant-loop-v l = Blank l.v l.initial.room l.room
