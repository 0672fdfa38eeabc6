-- A block whose nodes are all below n is its own part that matters (`narrowed-whole`); another is narrowed.
use Rattle.node_queue.proofs.ClimbLaws.{narrowed-whole}
use Rattle.node_queue.proofs.winner.first_in.Goals as goal

pub first_of-requires : goal.first_of-requires
first_of-requires c = (c.requires.0, c.requires.1, c.requires.2, narrowed-whole _ _ _ c.requires.4 c.if-e-half.true)
