-- A slot's part stands in the area, as the slots of all answers do, and 12 lines of at most 1023 arcs have their room.
use Rattle.std.proofs.Common.{◌*◌, ◌≤◌, ap, arith}
use Rattle.summary.specs.declared.Summary.{Summary}
use Rattle.text_put.proofs.AppendLaws.{appended-none}
use Rattle.desk_text.proofs.TextLaws.{lines_none, lines-length, lines-turn, part_length}
use Rattle.desk_text.proofs.print.lines.Goals as goal

pub loop-j-init : goal.loop-j-init
loop-j-init c = rw (lines_none c.args.sums c.args.w c.args.area.now 0) (appended-none c.args.out.now c.args.at)

pub route-next-requires : goal.route-next-requires
route-next-requires c =
    let j = c.loop-j.j in
    let m : c.at-s.result.arcs ≤ c.args.w = omega (arith, ap (λ (x : Summary). x.arcs) c.at-s.ensures, c.requires.5 j (omega arith)) in
    omega (
      arith,
      c.loop-j.invariant.place,
      lines-length c.args.sums c.args.w c.args.area.now j (λ i h. c.requires.5 i (omega arith)) (omega arith),
      part_length c.args.area.now (j * c.args.w) c.at-s.result.arcs,
    )

pub loop-j-preserved : goal.loop-j-preserved
loop-j-preserved c =
    lines-turn c.args.sums c.args.w c.args.area.now c.args.out.now c.args.at _ _ c.loop-j.j c.at-s.result _ _ c.loop-j.invariant c.at-s.ensures c.route-next.ensures
    (omega arith)
