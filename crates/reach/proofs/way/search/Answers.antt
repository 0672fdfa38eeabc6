-- The laws of a search between two nodes (`LookingLaws`), and that it leaves the notes (`NotesLaws`).
use Rattle.std.proofs.Common.{arith}
use Rattle.reach.specs.Way.{along}
use Rattle.reach.proofs.LookingLaws.{ready-start, over-less}
use Rattle.reach.proofs.way.search.Goals as goal

pub loop-key-init : goal.loop-key-init
loop-key-init g c = record {
  elsewhere = c.start-root.ensures.elsewhere;
  first = c.long-key.ensures;
  ready = ready-start (along g.A.Arcs.turn c.args.nodes c.args.table.now c.args.closed.now) c.args.s c.args.x c.args.room.now c.start-root.new.room c.start-root.result c.requires.4 c.requires.3 c.start-root.ensures;
}

pub loop-key-smaller : goal.loop-key-smaller
loop-key-smaller g c =
    let l = c.loop-key in
    over-less (along g.A.Arcs.turn c.args.nodes c.args.table.now c.args.closed.now) c.args.s c.args.x l.room c.leave-root.new.room l.root c.leave-root.result l.invariant.ready (omega (arith, c.loop-key-test.true, l.invariant.first)) c.leave-root.ensures
