-- The invariant: the nodes below v are far, and nothing else has changed.
use Rattle.reach.specs.Steps.{Cleared}
use Rattle.reach.proofs.step.clear.Given as goal

abbrev pub invariant-loop-v : goal.invariant-loop-v
invariant-loop-v l = Cleared l.x.dist l.x.far l.v l.initial.room l.room
