-- Before the loop no node has a key; each turn enters one node; after it all are entered, and what
-- a candidate is read from is as it was.
use Rattle.std.proofs.Common.{arith}
use Rattle.working_room.proofs.RoomLaws.{within-trans}
use Rattle.search_ask.proofs.AskLaws.{nodes-least}
use Rattle.via_chains.proofs.CandidateLaws.{lined-none, lined-free, lined-more, lined-all}
use Rattle.via_chains.proofs.line_up.Goals as goal

pub fill-requires : goal.fill-requires
fill-requires c = c.requires.1.roomy

pub loop-v-init : goal.loop-v-init
loop-v-init c = lined-none _ _ _ (nodes-least c.requires.0) c.requires.1.roomy c.fill.ensures

pub enter-root-requires : goal.enter-root-requires
enter-root-requires c =
    let lined = c.loop-v.invariant in
    (lined.queue, c.loop-v-test.true, lined-free _ c.loop-v.v _ _ _ c.loop-v-test.true lined)

pub loop-v-preserved : goal.loop-v-preserved
loop-v-preserved c = lined-more _ _ _ _ _ _ _ (omega arith) c.loop-v.invariant c.enter-root.ensures

pub returns : goal.returns
returns c =
    let lined = c.loop-v.invariant in (
      within-trans c.fill.ensures.within lined.within,
      lined.queue,
      lined-all _ c.loop-v.v _ _ _ _ c.loop-v-test.false c.fill.ensures lined,
    )
