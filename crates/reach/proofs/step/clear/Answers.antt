-- A node more is `clear-more`.
use Rattle.std.proofs.Common.{◌≡◌, arith}
use Rattle.reach.proofs.StandLaws.{clear_none, clear-record, clear-more}
use Rattle.reach.proofs.step.clear.Goals as goal

pub loop-v-init : goal.loop-v-init
loop-v-init c = clear_none _ _ _

pub put_long-requires : goal.put_long-requires
put_long-requires c =
    let x = c.args.x in
    let z = c.requires.0 in
    (clear-record x.dist x.far c.args.n c.loop-v.v c.args.room.now c.loop-v.room z.dist-in z.far-most c.requires.1 c.loop-v-test.true c.loop-v.invariant, z.dist-in)

pub loop-v-preserved : goal.loop-v-preserved
loop-v-preserved c =
    let x = c.args.x in
    let z = c.requires.0 in
    clear-more x.dist x.far c.args.n c.loop-v.v c.args.room.now c.loop-v.room z.dist-in z.far-most c.requires.1 c.loop-v-test.true c.loop-v.invariant _ c.put_long.ensures

pub returns : goal.returns
returns c = let e : c.loop-v.v ≡ c.args.n = omega arith in rw e at c.loop-v.invariant
