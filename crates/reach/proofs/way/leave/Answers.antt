-- The laws of a turn (`LookingLaws`); where the run starts and ends, the walk tells.
use Rattle.std.proofs.Common.{arith, sym, subst, inl, inr, ◌∙◌}
use Rattle.reach.specs.Way.{along}
use Rattle.reach.proofs.LookingLaws.{turn-begin, turn-skip, turn-over, turn-since}
use Rattle.reach.proofs.way.leave.Goals as goal

pub loop-i-init : goal.loop-i-init
loop-i-init g c =
    let net = along g.A.Arcs.turn c.args.nodes c.args.table.now c.args.closed.now in
    let k = c.set_key-root in
    let t = turn-begin net c.args.s c.args.x c.args.room.now c.args.u c.requires.5 c.requires.6 k.new.room k.result k.ensures c.long-d.result c.long-d.ensures in
    let b = c.requires.2.begins c.args.u in (
      b.0,
      subst (λ i. g.A.Arcs.Place c.args.nodes c.args.table.now c.args.walked.now c.args.u i b.0) (sym c.requires.7) b.1,
      turn-skip net c.args.s c.args.x c.args.room.now k.new.room k.result c.args.u c.long-d.result 0 t b.0 (λ e o from p q. absurd (omega (arith, b.2 e o from))),
    )

pub loop-i-preserved : goal.loop-i-preserved
loop-i-preserved g c =
    let l = c.loop-i in
    let k = c.look-root in
    let i = k.ensures in
    (i.0, i.1, turn-since (along g.A.Arcs.turn c.args.nodes c.args.table.now c.args.closed.now) c.args.s c.args.x c.args.room.now l.room k.new.room k.result c.args.u c.long-d.result i.0 l.invariant.2.since i.2)

pub returns : goal.returns
returns g c =
    let l = c.loop-i in
    let i = l.invariant in
    turn-over (along g.A.Arcs.turn c.args.nodes c.args.table.now c.args.closed.now) c.args.s c.args.x c.args.room.now l.room l.root c.args.u c.long-d.result i.0 i.2
    (c.requires.2.ends c.args.u l.i i.0 i.1 (inl (omega arith)))

pub returns-then-node_of-v : goal.returns-then-node_of-v
returns-then-node_of-v g c =
    let l = c.loop-i in
    let i = l.invariant in
    turn-over (along g.A.Arcs.turn c.args.nodes c.args.table.now c.args.closed.now) c.args.s c.args.x c.args.room.now l.room l.root c.args.u c.long-d.result i.0 i.2
    (c.requires.2.ends c.args.u l.i i.0 i.1 (inr (λ e. c.if-node_of-v.true (c.node_of.ensures ∙ e))))
