-- From an empty room (`root`): the distances to go, the start marked, and the empty path. Where the start is not reached nothing is listed.
use Rattle.std.proofs.Common.{◌+◌, ◌≤◌, refl, arith}
use Rattle.std.proofs.Math.Nat.{mul-le-mul}
use Rattle.near_list.proofs.NearLaws.{room-long, shortest-few, unreached, root, lists}
use Rattle.near_list.proofs.list.Goals as goal

pub returns-then-shortest-ge-FAR : goal.returns-then-shortest-ge-FAR
returns-then-shortest-ge-FAR c = (
  unreached c.args.table.now c.args.closed.now c.args.nodes c.args.start c.args.goal c.args.c c.args.d c.args.path.now c.args.room.now c.requires.0 _ _ c.fill.ensures c.distances.ensures
      (omega (arith, c.long-shortest.ensures, c.if-shortest-ge-FAR.true)) _ _ _,
  refl,
  refl,
  room-long c.args.table.now c.args.closed.now c.args.nodes c.args.start c.args.goal c.args.c c.args.d c.args.path.now c.args.room.now c.requires.0 _ _ c.fill.ensures c.distances.ensures,
)

pub overflow_mul-most : goal.overflow_mul-most
overflow_mul-most c =
    let sum : c.args.d + c.args.c ≤ 2000 = omega (arith, c.requires.0.d-most, c.requires.0.c-most) in
    let few : c.long-shortest.result ≤ 1099511627776 = omega (
      arith,
      c.long-shortest.ensures,
      shortest-few c.args.table.now c.args.closed.now c.args.nodes c.args.start c.args.goal c.args.c c.args.d c.args.path.now c.args.room.now c.requires.0 _ _ c.fill.ensures c.distances.ensures,
    ) in
    omega (arith, mul-le-mul sum few)

pub deeper-requires : goal.deeper-requires
deeper-requires c =
    root c.args.table.now c.args.closed.now c.args.nodes c.args.start c.args.goal c.args.c c.args.d c.args.path.now c.args.room.now c.requires.0 _ _ c.fill.ensures c.distances.ensures
    c.args.slots c.args.list.now _ c.long-shortest.result c.put_word.ensures c.long-shortest.ensures (omega (arith, c.if-shortest-ge-FAR.false)) _ c.requires.1 (omega arith)

pub returns : goal.returns
returns c =
    lists c.args.table.now c.args.closed.now c.args.nodes c.args.start c.args.goal c.args.c c.args.d c.args.path.now c.args.room.now c.requires.0 _ _ c.fill.ensures c.distances.ensures
    c.args.slots c.args.list.now _ c.long-shortest.result c.put_word.ensures c.long-shortest.ensures (omega (arith, c.if-shortest-ge-FAR.false)) _ _ _ _ c.deeper.ensures
