-- What each step asks and leaves is in DeepLaws; here it is read off the steps.
use Rattle.std.proofs.Common.{sym, ◌∙◌, subst, arith}
use Rattle.near_routes.specs.Deep.{Went}
use Rattle.near_routes.proofs.DeepLaws.{size_below, arrive-asks, arrived, turn-begin, next-node, goes-asks, skipped, enter-asks, call_asks, call-falls, leave-asks, went_on, went-over, turn-done}
use Rattle.near_routes.proofs.+deeper.Goals as goal
use Rattle.near_routes.proofs.+deeper.Goals.{then-goes+in_ok-found, else-goes}

pub arrive-requires : goal.arrive-requires
arrive-requires t c = arrive-asks c.args.x c.args.table.now c.args.closed.now c.args.list.now c.args.path.now c.args.room.now c.args.depth c.args.v c.args.size c.args.n c.requires

pub returns-then-v-x : goal.returns-then-v-x
returns-then-v-x t c = arrived c.args.x c.args.table.now c.args.closed.now c.args.list.now c.args.path.now c.args.room.now c.args.depth c.args.v c.args.size c.args.n c.requires c.if-v-x.true _ _ c.arrive.ensures

pub overflow_add-v : goal.overflow_add-v
overflow_add-v t c = omega (arith, next-node c.args.x c.args.table.now c.args.closed.now c.args.list.now c.args.path.now c.args.room.now c.args.depth c.args.v c.args.size c.args.n c.requires)

pub loop-a-init : goal.loop-a-init
loop-a-init t c =
    turn-begin c.args.x c.args.table.now c.args.closed.now c.args.list.now c.args.path.now c.args.room.now c.args.depth c.args.v c.args.size c.args.n c.requires
    c.run_start-a.result c.run_start-end.result c.run_start-a.ensures c.run_start-end.ensures c.if-v-x.false

pub goes-requires : goal.goes-requires
goes-requires t c =
    goes-asks c.args.x c.args.table.now c.args.closed.now c.args.list.now c.args.path.now c.args.room.now c.args.depth c.args.v c.args.size c.args.n c.requires
    c.loop-a.a c.run_start-end.result c.loop-a.list c.loop-a.path c.loop-a.room c.loop-a.found c.loop-a.invariant.1 c.loop-a-test.true c.run_start-end.ensures c.loop-a.invariant.0

pub to_of-u-requires : goal.to_of-u-requires
to_of-u-requires t c =
    (goes-asks c.args.x c.args.table.now c.args.closed.now c.args.list.now c.args.path.now c.args.room.now c.args.depth c.args.v c.args.size c.args.n c.requires
    c.loop-a.a c.run_start-end.result c.loop-a.list c.loop-a.path c.loop-a.room c.loop-a.found c.loop-a.invariant.1 c.loop-a-test.true c.run_start-end.ensures c.loop-a.invariant.0).1

pub length_of-requires : goal.length_of-requires
length_of-requires t c =
    (goes-asks c.args.x c.args.table.now c.args.closed.now c.args.list.now c.args.path.now c.args.room.now c.args.depth c.args.v c.args.size c.args.n c.requires
    c.loop-a.a c.run_start-end.result c.loop-a.list c.loop-a.path c.loop-a.room c.loop-a.found c.loop-a.invariant.1 c.loop-a-test.true c.run_start-end.ensures c.loop-a.invariant.0).1

pub overflow_add-on : goal.overflow_add-on
overflow_add-on t c = omega (arith, size_below c.args.x c.args.table.now c.args.closed.now c.args.list.now c.args.path.now c.args.room.now c.args.depth c.args.v c.args.size c.args.n c.requires)

pub enter-requires : goal.enter-requires
enter-requires t c =
    enter-asks c.args.x c.args.table.now c.args.closed.now c.args.list.now c.args.path.now c.args.room.now c.args.depth c.args.v c.args.size c.args.n c.requires
    c.loop-a.a c.run_start-end.result c.loop-a.list c.loop-a.path c.loop-a.room c.loop-a.found c.loop-a.invariant.1 c.loop-a-test.true c.run_start-end.ensures c.loop-a.invariant.0 (sym c.goes.ensures ∙ c.if-goes.true) c.to_of-u.result c.to_of-u.ensures

pub deeper-listed-requires : goal.deeper-listed-requires
deeper-listed-requires t c = (
  omega (
    arith,
    call-falls c.args.x c.args.table.now c.args.closed.now c.args.list.now c.args.path.now c.args.room.now c.args.depth c.args.v c.args.size c.args.n c.requires
        c.loop-a.a c.run_start-end.result c.loop-a.list c.loop-a.path c.loop-a.room c.loop-a.found c.loop-a.invariant.1 c.loop-a-test.true c.run_start-end.ensures c.loop-a.invariant.0 (sym c.goes.ensures ∙ c.if-goes.true) c.enter.new.path c.enter.new.room c.to_of-u.result c.length_of.result c.enter.ensures.0 c.enter.ensures.1 c.to_of-u.ensures c.length_of.ensures,
    c.decreases,
  ),
  call_asks c.args.x c.args.table.now c.args.closed.now c.args.list.now c.args.path.now c.args.room.now c.args.depth c.args.v c.args.size c.args.n c.requires
      c.loop-a.a c.run_start-end.result c.loop-a.list c.loop-a.path c.loop-a.room c.loop-a.found c.loop-a.invariant.1 c.loop-a-test.true c.run_start-end.ensures c.loop-a.invariant.0 (sym c.goes.ensures ∙ c.if-goes.true) c.enter.new.path c.enter.new.room c.to_of-u.result c.length_of.result c.enter.ensures.0 c.enter.ensures.1 c.to_of-u.ensures c.length_of.ensures,
)

pub leave-requires : goal.leave-requires
leave-requires t c =
    leave-asks c.args.x c.args.table.now c.args.closed.now c.args.list.now c.args.path.now c.args.room.now c.args.depth c.args.v c.args.size c.args.n c.requires
    c.loop-a.a c.run_start-end.result c.loop-a.list c.loop-a.path c.loop-a.room c.loop-a.found c.loop-a.invariant.1 c.loop-a-test.true c.run_start-end.ensures c.loop-a.invariant.0 (sym c.goes.ensures ∙ c.if-goes.true) c.enter.new.path c.enter.new.room c.to_of-u.result c.length_of.result c.enter.ensures.0 c.enter.ensures.1 c.to_of-u.ensures c.length_of.ensures _ _ _ _ c.deeper-listed.ensures

pub returns-in_err-found : goal.returns-in_err-found
returns-in_err-found t c =
    subst (Went c.args.x c.args.table.now c.args.closed.now c.args.list.now c.args.path.now c.args.room.now c.args.depth c.args.n _ _ _) (sym c.from_residual.ensures)
    (went-over c.args.x c.args.table.now c.args.closed.now c.args.list.now c.args.path.now c.args.room.now c.args.depth c.args.v c.args.size c.args.n c.requires
    c.loop-a.a c.run_start-end.result c.loop-a.list c.loop-a.path c.loop-a.room c.loop-a.found c.loop-a.invariant.1 c.loop-a-test.true c.run_start-end.ensures c.loop-a.invariant.0 (sym c.goes.ensures ∙ c.if-goes.true) c.enter.new.path c.enter.new.room c.to_of-u.result c.length_of.result c.enter.ensures.0 c.enter.ensures.1 c.to_of-u.ensures c.length_of.ensures _ _ _ _ c.deeper-listed.ensures c.leave.new.room c.leave.ensures c.in_err-found.was)

pub loop-a-preserved : goal.loop-a-preserved
loop-a-preserved t c = (
  omega (arith, c.loop-a.invariant.0),
  elim c.if-goes.branch [
    | then-goes+in_ok-found w ↦ rw (w.list-is, w.path-is, w.room-is, w.found-is)
        (went_on c.args.x c.args.table.now c.args.closed.now c.args.list.now c.args.path.now c.args.room.now c.args.depth c.args.v c.args.size c.args.n c.requires
        c.loop-a.a c.run_start-end.result c.loop-a.list c.loop-a.path c.loop-a.room c.loop-a.found c.loop-a.invariant.1 c.loop-a-test.true c.run_start-end.ensures c.loop-a.invariant.0 (sym c.goes.ensures ∙ w.if-goes.true) w.enter.new.path w.enter.new.room w.to_of-u.result w.length_of.result w.enter.ensures.0 w.enter.ensures.1 w.to_of-u.ensures w.length_of.ensures _ _ _ _ w.deeper-listed.ensures w.leave.new.room w.leave.ensures _ w.in_ok-found.was)
    | else-goes w ↦ rw (w.list-is, w.path-is, w.room-is, w.found-is)
        (skipped c.args.x c.args.table.now c.args.closed.now c.args.list.now c.args.path.now c.args.room.now c.args.depth c.args.v c.args.size c.args.n c.requires
        c.loop-a.a c.run_start-end.result c.loop-a.list c.loop-a.path c.loop-a.room c.loop-a.found c.loop-a.invariant.1 c.loop-a-test.true c.run_start-end.ensures c.loop-a.invariant.0 (sym c.goes.ensures ∙ w.if-goes.false))
  ],
)

pub returns : goal.returns
returns t c = turn-done c.args.x c.args.table.now c.args.closed.now c.args.list.now c.args.path.now c.args.room.now c.args.depth c.args.v c.args.size c.args.n c.requires
    c.loop-a.a c.run_start-end.result c.loop-a.list c.loop-a.path c.loop-a.room c.loop-a.found c.loop-a.invariant.1 c.loop-a-test.false
