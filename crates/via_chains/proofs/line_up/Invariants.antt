-- At first no node has a key, and any node is the first. The loop gives the nodes theirs in turn;
-- entering one changes only keys and winners, so every other candidate is read as before.
use Rattle.via_chains.specs.Candidate.{Lined}
use Rattle.via_chains.proofs.line_up.Given as goal

abbrev pub invariant-loop-v : goal.invariant-loop-v
invariant-loop-v l = Lined l.n l.v l.initial.room l.room l.root
