-- The keys of both are compared first, and where they are equal the arc numbers of both candidates.
use Rattle.search_queue.specs.Order.{own_at}
use Rattle.search_queue.proofs.OrderLaws.{sooner-apart, sooner-even}
use Rattle.search_queue.proofs.winner.is_sooner.Goals as goal

pub returns-then-k-m : goal.returns-then-k-m
returns-then-k-m c = sooner-apart _ _ _ _ _ c.key-k.ensures c.key-m.ensures c.if-k-m.true

pub returns : goal.returns
unfolding own_at
returns c = cc (sooner-even _ _ _ _ _ c.key-k.ensures c.key-m.ensures c.if-k-m.false)
