-- A turn puts one more behind them (`puts-turn`).
use Rattle.std.proofs.Common.{◌+◌, ◌*◌, ◌∙◌, arith}
use Rattle.labels.specs.Field.{label_bytes, head_bytes}
use Rattle.labels.proofs.PutsLaws.{puts_none, puts-turn}
use Rattle.labels.proofs.field.put_overlaps.Goals as goal

pub loop-r-init : goal.loop-r-init
loop-r-init c = puts_none c.args.labels.now (c.args.label * label_bytes + head_bytes)

pub loop-r-preserved : goal.loop-r-preserved
loop-r-preserved c =
    c.write64.ensures
    ∙ puts-turn c.args.labels.now c.loop-r.labels (c.args.label * label_bytes + head_bytes) _ c.args.overlaps.now c.loop-r.r c.loop-r-test.true c.loop-r.invariant (omega arith)
