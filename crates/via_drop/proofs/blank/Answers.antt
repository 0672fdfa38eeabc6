-- Each node's record lies in the room, whose length stays.
use Rattle.std.proofs.Common.{◌≡◌, ◌+◌, ◌*◌, length, subst, ap, arith}
use Rattle.words.proofs.NumberLaws.{length-put}
use Rattle.node_queue.proofs.WinnerLaws.{room_at}
use Rattle.via_drop.specs.Walks.{Blank}
use Rattle.via_drop.proofs.WalkLaws.{blank_none, blank-more}
use Rattle.via_drop.proofs.blank.Goals as goal

pub loop-v-init : goal.loop-v-init
loop-v-init c = blank_none _

pub put_long-requires : goal.put_long-requires
put_long-requires c = (omega (arith, room_at c.requires c.loop-v.v c.loop-v-test.true), omega arith)

pub put_long-requires-in-loop-v : goal.put_long-requires-in-loop-v
put_long-requires-in-loop-v c =
    let kept = length-put 8 c.loop-v.room (c.loop-v.v * 64 + 40) 18446744073709551615 in (
      omega (arith, room_at c.requires c.loop-v.v c.loop-v-test.true, ap length c.put_long.ensures, kept),
      omega arith,
    )

pub loop-v-preserved : goal.loop-v-preserved
loop-v-preserved c =
    blank-more c.args.n c.loop-v.v _ _ _ _ c.requires c.loop-v-test.true c.loop-v.invariant
    c.put_long.ensures c.put_long-in-loop-v.ensures

pub returns : goal.returns
returns c =
    let last : c.loop-v.v ≡ c.args.n = omega arith in
    subst (λ n. Blank n c.args.room.now c.loop-v.room) last c.loop-v.invariant
