-- The list is filled from the front. Invariant: as many elements as turns are v, the others stand as they stood at the start. Each turn adds one v; at
-- the end nothing of the old list is left.
use Rattle.std.proofs.Common.{◌≡◌, ◌++◌, replicate, drop}
use Rattle.words.proofs.fill.fill.Given as goal

abbrev pub invariant-loop-x : goal.invariant-loop-x
invariant-loop-x g l = l.b ≡ replicate l.x-index l.v ++ drop l.x-index l.initial.b
