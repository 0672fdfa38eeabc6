-- A turn counts one record more.
use Rattle.std.proofs.Common.{arith}
use Rattle.plan_file.proofs.SoundLaws.{sound-e}
use Rattle.plan_fetch.proofs.PassLaws.{counted_none, counted_step, counted-all}
use Rattle.plan_fetch.proofs.routes.Goals as goal

pub loop-i-init : goal.loop-i-init
loop-i-init c = counted_none c.args.file.now c.args.plan

pub loop-i-preserved : goal.loop-i-preserved
loop-i-preserved c =
    rw c.counted-count.ensures
    (counted_step c.args.file.now (sound-e c.args.file.now c.requires.0) c.args.plan c.requires.1 c.loop-i.i c.loop-i.count (omega arith) c.loop-i.invariant)

pub returns : goal.returns
returns c = counted-all c.args.file.now (sound-e c.args.file.now c.requires.0) c.args.plan c.requires.1 c.loop-i.i c.loop-i.count (omega arith) c.loop-i.invariant
