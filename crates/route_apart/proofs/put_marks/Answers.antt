-- A word that is no blank puts its mark (`put_step`); from a blank one on there is none to put (`route-blank`).
use Rattle.std.proofs.Common.{sym, ◌∙◌, arith}
use Rattle.remaining.proofs.StandingLaws.{from_in}
use Rattle.route_list.proofs.WordLaws.{route-done, route-blank}
use Rattle.route_apart.proofs.PutLaws.{put-none, put_step}
use Rattle.route_apart.proofs.put_marks.Goals as goal

pub returns-then-x : goal.returns-then-x
returns-then-x c =
    sym (put-none c.args.table.now c.args.on c.args.slot.now c.loop-x.x-index c.loop-x.room (route-blank c.args.slot.now c.requires.1.formed c.loop-x.x-index c.loop-x-test.true c.if-x.true))
    ∙ c.loop-x.invariant

pub put_word-requires : goal.put_word-requires
put_word-requires c =
    let below = c.requires.1.arcs c.loop-x.x-index c.loop-x-test.true c.if-x.false in
    (omega (arith, c.from_of-v.ensures, from_in c.args.nodes c.args.table.now _ c.args.room.now c.requires.0 c.requires.3 below), omega arith)

pub loop-x-preserved : goal.loop-x-preserved
loop-x-preserved c =
    let e = put_step c.args.table.now c.args.on c.args.slot.now c.loop-x.x-index c.loop-x.room c.loop-x-test.true c.if-x.false in
    cc (e, c.loop-x.invariant, c.from_of-v.ensures, c.mark_of.ensures, c.put_word.ensures)

pub returns : goal.returns
returns c =
    sym (put-none c.args.table.now c.args.on c.args.slot.now c.loop-x.x-index c.loop-x.room (route-done c.args.slot.now c.loop-x.x-index c.loop-x-test.false))
    ∙ c.loop-x.invariant
