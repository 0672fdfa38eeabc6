-- A turn is `lines-turn`, and its room `lines-room`.
use Rattle.std.proofs.Common.{arith}
use Rattle.text_put.proofs.AppendLaws.{appended-none}
use Rattle.road_write.specs.Text.{lines_text}
use Rattle.road_write.proofs.TextLaws.{lines-room, lines-turn, lines-all}
use Rattle.road_write.proofs.lines.Goals as goal

pub loop-i-init : goal.loop-i-init
unfolding lines_text
loop-i-init c = appended-none _ _

pub arc_line-next-requires : goal.arc_line-next-requires
arc_line-next-requires c =
    (omega arith, omega (arith, c.loop-i.invariant.place, lines-room c.args.table.now c.loop-i.i (omega arith)))

pub loop-i-preserved : goal.loop-i-preserved
loop-i-preserved c = lines-turn c.args.table.now _ _ _ _ c.loop-i.i _ _ c.loop-i.invariant c.arc_line-next.ensures (omega arith)

pub returns : goal.returns
returns c = rw (lines-all c.args.table.now c.loop-i.i (omega arith)) at c.loop-i.invariant
