-- A word that is no blank counts where it is marked (`marked_step`); from a blank one on nothing is left (`route-blank`).
use Rattle.std.proofs.Common.{get_or, arith}
use Rattle.table.proofs.FaultLaws.{all-good}
use Rattle.route_list.proofs.WordLaws.{route-done, route-blank}
use Rattle.route_apart.proofs.MarkLaws.{part-most, marked-none, marked_step}
use Rattle.route_apart.proofs.shared.Goals as goal

pub returns-then-x : goal.returns-then-x
returns-then-x c =
    let e = marked-none c.args.table.now c.args.room.now c.args.slot.now c.loop-x.x-index (route-blank c.args.slot.now c.requires.1.formed c.loop-x.x-index c.loop-x-test.true c.if-x.true) in
    omega (arith, e, c.loop-x.invariant.1)

pub overflow_add-total : goal.overflow_add-total
overflow_add-total c =
    let below = c.requires.1.arcs c.loop-x.x-index c.loop-x-test.true c.if-x.false in
    let m = part-most c.args.table.now c.args.room.now (get_or c.args.slot.now c.loop-x.x-index 0) (all-good c.args.nodes c.args.table.now c.requires.0 _ below).most in
    omega (arith, m, c.part-total.ensures, c.loop-x.invariant.0, c.requires.2)

pub loop-x-preserved : goal.loop-x-preserved
loop-x-preserved c =
    let below = c.requires.1.arcs c.loop-x.x-index c.loop-x-test.true c.if-x.false in
    let e = marked_step c.args.table.now c.args.room.now c.args.slot.now c.loop-x.x-index c.loop-x-test.true c.if-x.false below in
    let m = part-most c.args.table.now c.args.room.now (get_or c.args.slot.now c.loop-x.x-index 0) (all-good c.args.nodes c.args.table.now c.requires.0 _ below).most in
    (omega (arith, c.loop-x.invariant.0, c.part-total.ensures), omega (arith, e, c.part-total.ensures, c.loop-x.invariant.1))

pub returns : goal.returns
returns c =
    let e = marked-none c.args.table.now c.args.room.now c.args.slot.now c.loop-x.x-index (route-done c.args.slot.now c.loop-x.x-index c.loop-x-test.false) in
    omega (arith, e, c.loop-x.invariant.1)
