-- A node more is `filled_more`; at the end every winner is right (`filled-all`).
use Rattle.std.proofs.Common.{arith}
use Rattle.node_queue.proofs.WinnerLaws.{room_at, roomy-kept}
use Rattle.node_queue.proofs.KeyLaws.{filled_none, filled_more, filled-all}
use Rattle.node_queue.proofs.fill.Goals as goal

pub loop-v-init : goal.loop-v-init
loop-v-init c = filled_none _ _

pub fill_node-requires : goal.fill_node-requires
fill_node-requires c =
    (room_at (roomy-kept c.loop-v.invariant.within c.requires) _ c.loop-v-test.true, omega (arith, c.requires.few))

pub loop-v-preserved : goal.loop-v-preserved
loop-v-preserved c =
    filled_more _ _ _ _ _ _ c.requires c.loop-v-test.true (omega arith) c.loop-v.invariant c.fill_node.ensures

pub returns : goal.returns
returns c = filled-all _ _ _ _ _ (omega arith) c.loop-v.invariant
