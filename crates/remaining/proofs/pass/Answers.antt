-- An arc that is looked at brings its node nearer, and the sum falls, or nothing changes (`passed-more`).
use Rattle.remaining.proofs.StandingLaws.{passed-more}
use Rattle.remaining.proofs.pass.Goals as goal

pub loop-a-preserved : goal.loop-a-preserved
loop-a-preserved c =
    passed-more c.args.nodes c.args.table.now c.args.closed.now c.args.goal c.requires.0 c.loop-a.a c.args.room.now c.loop-a.room _ c.loop-a.nearer _ c.requires.1 c.loop-a-test.true c.loop-a.invariant c.look-nearer.ensures
