-- Label j's where it comes before label i's, and else label i's, which then does not come after it.
use Rattle.search_queue.proofs.OrderLaws.{chosen-first, chosen-second}
use Rattle.search_queue.proofs.winner.choose.Goals as goal

pub returns-then-is_sooner : goal.returns-then-is_sooner
returns-then-is_sooner c = chosen-second _ _ _ _ c.is_sooner.ensures c.if-is_sooner.true

pub returns-else-is_sooner : goal.returns-else-is_sooner
returns-else-is_sooner c = chosen-first _ _ _ _ c.is_sooner.ensures c.if-is_sooner.false
