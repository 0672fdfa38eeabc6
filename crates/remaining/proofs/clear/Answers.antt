-- A store at node v makes it far and leaves the others' distances.
use Rattle.remaining.proofs.StandingLaws.{clear-more}
use Rattle.remaining.proofs.clear.Goals as goal

pub loop-v-preserved : goal.loop-v-preserved
loop-v-preserved c = clear-more c.args.n c.loop-v.v c.args.room.now c.loop-v.room c.requires c.loop-v-test.true c.loop-v.invariant _ c.put_long.ensures
