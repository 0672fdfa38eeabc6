-- Record i of the table itself is arc i, and it is the next that is yet to be looked at.
use Rattle.std.proofs.Common.{◌+◌, ◌<◌, arith, refl, sym, ap, subst, ◌∙◌}
use Rattle.table.specs.Table.{records, from_at, to_at, len_at, net_of}
use Rattle.table.proofs.FaultLaws.{good-size}
use Rattle.reach.specs.Turn.{Turn}
use Rattle.reach.proofs.ForwardLaws.{end-node, forward-pass}
use Rattle.reach.proofs.forward.ByStartArcs.look.Goals as goal

pub pass-requires : goal.pass-requires
pass-requires c =
    let at = c.requires.5 in
    let high : c.args.i < records c.args.table.now = omega (arith, c.requires.3, ap records c.requires.1) in (
      at.2.looking.stands,
      at.2.looking.queue,
      omega (arith, c.to_of-w.ensures, ap (λ y. to_at y c.args.i) c.requires.1, end-node c.args.nodes c.args.table.now c.requires.0 c.args.i high),
      omega (arith, high, (good-size c.args.nodes c.args.table.now c.requires.0).3),
    )

pub returns : goal.returns
returns c =
    let at = c.requires.5 in
    let net = net_of c.args.nodes c.args.table.now c.args.closed.now in
    let turn : Turn net c.args.s c.args.x c.args.room.now c.args.room.now c.args.root c.args.v c.args.d c.args.i = subst (Turn net c.args.s c.args.x c.args.room.now c.args.room.now c.args.root c.args.v c.args.d) at.1.0 at.2 in
    let high : c.args.i < records c.args.table.now = omega (arith, c.requires.3, ap records c.requires.1) in
    let w = c.to_of-w.ensures ∙ ap (λ y. to_at y c.args.i) c.requires.1 in (
      c.args.i + 1,
      (refl, omega (arith, at.1.1)),
      forward-pass c.args.nodes c.args.table.now c.args.closed.now c.requires.0 c.args.s c.args.x c.args.room.now c.args.room.now c.args.root c.args.v c.args.d c.args.i turn high
          (sym (ap (λ y. from_at y c.args.i) c.requires.1) ∙ c.requires.4) c.to_of-w.result (c.args.d + c.length_of-len.result) w
          (omega (arith, w, end-node c.args.nodes c.args.table.now c.requires.0 c.args.i high))
          (omega (arith, c.length_of-len.ensures, ap (λ y. len_at y c.args.i) c.requires.1)) c.pass.new.room c.pass.result c.pass.ensures,
    )
