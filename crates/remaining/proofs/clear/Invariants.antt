-- The invariant: the nodes below v are far, and nothing else has changed.
use Rattle.remaining.specs.Standing.{Cleared}
use Rattle.remaining.proofs.clear.Given as goal

abbrev pub invariant-loop-v : goal.invariant-loop-v
invariant-loop-v l = Cleared l.v l.fn.room l.room
