-- A turn is `one-withdrawn`, and after the last record all is withdrawn.
use Rattle.std.proofs.Common.{arith, ◌<◌}
use Rattle.plan_record.specs.Record.{records}
use Rattle.plan_change.proofs.WithdrawLaws.{none-withdrawn, one-withdrawn, all-withdrawn}
use Rattle.plan_change.proofs.clear_all.Goals as goal

pub loop-i-init : goal.loop-i-init
loop-i-init c = none-withdrawn c.args.file.now c.args.plan

pub loop-i-preserved : goal.loop-i-preserved
loop-i-preserved c =
    let more : c.loop-i.i < records c.args.file.now = omega arith in
    rw c.clear_of.ensures (one-withdrawn c.args.file.now c.args.plan c.loop-i.file c.loop-i.i c.loop-i.invariant more)

pub returns : goal.returns
returns c = all-withdrawn c.args.file.now c.args.plan c.loop-i.file c.loop-i.i c.loop-i.invariant (omega arith) c.requires
