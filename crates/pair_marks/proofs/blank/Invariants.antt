-- Invariant: the nodes before v have no mark.
use Rattle.pair_marks.specs.Way.{Blank}
use Rattle.pair_marks.proofs.blank.Given as goal

abbrev pub invariant-loop-v : goal.invariant-loop-v
invariant-loop-v l = Blank l.initial.room l.room l.v
