-- The laws of where the records of a node start, at the record that is looked at.
use Rattle.std.proofs.Common.{◌+◌, arith}
use Rattle.run_notes.proofs.NotedLaws.{start-le, start-mono, start-to, start-past}
use Rattle.run_notes.proofs.end_by.Goals as goal

pub loop-i-init : goal.loop-i-init
loop-i-init g c = omega (arith, c.requires, start-mono g.O.Order.node_at c.args.table.now c.args.v)

pub returns-then-v-node_of : goal.returns-then-v-node_of
returns-then-v-node_of g c =
    omega (arith, c.loop-i.invariant, start-to g.O.Order.node_at c.args.table.now (c.args.v + 1) c.loop-i.i (omega (arith, c.node_of.ensures)))

pub loop-i-preserved : goal.loop-i-preserved
loop-i-preserved g c =
    start-past g.O.Order.node_at c.args.table.now (c.args.v + 1) c.loop-i.i (omega arith) c.loop-i.invariant (omega (arith, c.node_of.ensures))

pub returns : goal.returns
returns g c = omega (arith, c.requires, c.loop-i.invariant, start-le g.O.Order.node_at c.args.table.now (c.args.v + 1), start-le g.O.Order.node_at c.args.table.now c.args.v)
