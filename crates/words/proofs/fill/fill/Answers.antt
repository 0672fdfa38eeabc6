use Rattle.words.proofs.FillLaws.{fill_step}
use Rattle.words.proofs.fill.fill.Goals as goal

pub loop-x-preserved : goal.loop-x-preserved
loop-x-preserved g c = fill_step _ _ c.args.v c.loop-x.x-index c.loop-x.invariant c.loop-x-test.true
