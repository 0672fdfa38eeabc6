-- Each turn of the loop looks at one arc (`own-pass`); it ends where the run does (`own-over`) or
-- with the table (`own-end`).
use Rattle.std.proofs.Common.{◌≡◌, sym, ◌∙◌, arith}
use Rattle.table.specs.Table.{net_of, from_at}
use Rattle.pair.specs.Walked.{Waits}
use Rattle.pair_room.specs.Room.{kept_in}
use Rattle.pair_room.specs.Stages.{last_of}
use Rattle.pair_search.proofs.TurnLaws.{at-queue, at-far, near-far, detour-fits, own_first, own-pass, own-end, own-over}
use Rattle.pair_search.proofs.own.Goals as goal

pub start_of-a-requires : goal.start_of-a-requires
start_of-a-requires c =
    let l = c.args.room.now in
    let net = net_of c.args.nodes c.args.table.now c.args.closed.now in
    let queue = at-queue net c.args.s c.args.goal l l c.args.root c.args.u c.args.d
    (Waits net (kept_in c.args.nodes l) (last_of l) c.args.u 0) c.requires.2 in
    (queue.roomy, c.requires.3, c.requires.1)

pub loop-a-init : goal.loop-a-init
loop-a-init c =
    let l = c.args.room.now in
    record {
      begun = omega (arith, c.start_of-a.ensures);
      turn = own_first c.args.nodes c.args.table.now c.args.closed.now c.requires.0 c.args.s c.args.goal l l
          c.args.root c.args.u c.args.d c.start_of-a.result c.start_of-a.ensures c.requires.2;
    }

pub returns-then-from_of-v : goal.returns-then-from_of-v
returns-then-from_of-v c =
    own-over c.args.nodes c.args.table.now c.args.closed.now c.requires.0 c.args.s c.args.goal c.args.room.now
    c.loop-a.room c.loop-a.first c.args.u c.args.d c.loop-a.a c.loop-a.invariant.turn c.loop-a.invariant.begun
    (λ e. c.if-from_of-v.true (c.from_of.ensures ∙ e))

pub pass-first-requires : goal.pass-first-requires
pass-first-requires c =
    let nodes = c.args.nodes in
    let t = c.args.table.now in
    let closed = c.args.closed.now in
    let ok = c.requires.0 in
    let s = c.args.s in
    let goal = c.args.goal in
    let u = c.args.u in
    let net = net_of nodes t closed in
    let l = c.loop-a.room in
    let turn = c.loop-a.invariant.turn in
    let pending = Waits net (kept_in nodes l) (last_of l) u c.loop-a.a in
    let own : from_at t c.loop-a.a ≡ u = sym c.from_of.ensures ∙ c.if-from_of-v.false in (
      ok,
      at-queue net s goal c.args.room.now l c.loop-a.first u c.args.d pending turn,
      c.requires.1,
      c.loop-a-test.true,
      at-far net s goal c.args.room.now l c.loop-a.first u c.args.d pending turn,
      near-far nodes t closed ok s goal l turn.marked u c.requires.1,
      detour-fits nodes t closed ok s goal l turn.marked u c.requires.1 c.loop-a.a c.loop-a-test.true own,
    )

pub loop-a-preserved : goal.loop-a-preserved
loop-a-preserved c =
    let own : from_at c.args.table.now c.loop-a.a ≡ c.args.u = sym c.from_of.ensures ∙ c.if-from_of-v.false in
    record {
      begun = omega (arith, c.loop-a.invariant.begun);
      turn = own-pass c.args.nodes c.args.table.now c.args.closed.now c.requires.0 c.args.s c.args.goal
          c.args.room.now c.loop-a.room c.loop-a.first c.args.u c.args.d c.loop-a.a c.loop-a.invariant.turn
          c.requires.1 c.loop-a-test.true own c.pass-first.new.room c.pass-first.result c.pass-first.ensures;
    }

pub returns : goal.returns
returns c =
    own-end c.args.nodes c.args.table.now c.args.closed.now c.requires.0 c.args.s c.args.goal c.args.room.now
    c.loop-a.room c.loop-a.first c.args.u c.args.d c.loop-a.a c.loop-a.invariant.turn c.loop-a.invariant.begun
    c.loop-a-test.false
