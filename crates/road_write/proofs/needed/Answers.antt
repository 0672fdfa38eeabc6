-- A line is `lines-longer`, and no longer than `arc-most` says.
use Rattle.std.proofs.Common.{ap, arith, length}
use Rattle.table.specs.Table.{records, arc_at}
use Rattle.road_write.specs.Text.{lines_text}
use Rattle.road_write.proofs.TextLaws.{sizes-most, arc-most, lines-most, lines-longer, lines-all, text-length}
use Rattle.road_write.proofs.needed.Goals as goal

pub loop-i-init : goal.loop-i-init
unfolding lines_text
loop-i-init c = omega (arith, c.sizes_bytes-bytes.ensures)

pub overflow_add-bytes : goal.overflow_add-bytes
overflow_add-bytes c =
    let t = c.args.table.now in
    omega (arith, c.loop-i.invariant, c.arc_bytes-bytes.ensures, sizes-most c.args.nodes (records t), lines-most t c.loop-i.i, arc-most (arc_at t c.loop-i.i))

pub loop-i-preserved : goal.loop-i-preserved
loop-i-preserved c = omega (arith, c.loop-i.invariant, c.arc_bytes-bytes.ensures, lines-longer c.args.table.now c.loop-i.i)

pub returns : goal.returns
returns c =
    let t = c.args.table.now in
    omega (arith, c.loop-i.invariant, ap length (lines-all t c.loop-i.i (omega arith)), text-length t c.args.nodes)
