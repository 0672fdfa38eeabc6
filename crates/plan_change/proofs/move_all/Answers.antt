-- A turn is `one-moved`, and after the last record all in use are at the front.
use Rattle.std.proofs.Common.{arith, ◌<◌}
use Rattle.plan_record.specs.Record.{records}
use Rattle.plan_change.proofs.CollectLaws.{none-moved, one-moved, all_moved}
use Rattle.plan_change.proofs.move_all.Goals as goal

pub loop-i-init : goal.loop-i-init
loop-i-init c = none-moved c.args.file.now

pub move_record-w-requires : goal.move_record-w-requires
move_record-w-requires c = (c.loop-i.invariant.4, omega (arith, c.loop-i.invariant.3))

pub loop-i-preserved : goal.loop-i-preserved
loop-i-preserved c =
    let more : c.loop-i.i < records c.args.file.now = omega arith in
    rw (c.move_record-w.ensures.0, c.move_record-w.ensures.1) (one-moved c.args.file.now c.loop-i.file c.loop-i.w c.loop-i.i c.loop-i.invariant more)

pub returns : goal.returns
returns c = all_moved c.args.file.now c.loop-i.file c.loop-i.w c.loop-i.i c.loop-i.invariant (omega arith)
