-- Two stores to fields apart from the queue's, so its tree stands; then the key.
use Rattle.std.proofs.Common.{arith}
use Rattle.reach.proofs.StandLaws.{lower-roomy, lower-tree, lowered}
use Rattle.reach.proofs.step.lower.Goals as goal

pub set_key-requires : goal.set_key-requires
set_key-requires c =
    let x = c.args.x in
    let z = c.requires.0 in (
      lower-roomy x z c.args.n c.args.room.now c.put_long.new.room _ c.args.w c.args.a c.args.d c.put_long.ensures c.put_word.ensures c.requires.1,
      c.requires.3,
      lower-tree x z c.args.n c.args.room.now c.put_long.new.room _ c.args.w c.args.a c.args.d c.put_long.ensures c.put_word.ensures c.requires.2,
    )

pub returns : goal.returns
returns c =
    lowered c.args.x c.requires.0 c.args.n c.args.room.now c.put_long.new.room c.put_word.new.room c.args.w c.args.a c.args.d c.put_long.ensures c.put_word.ensures c.requires.1 c.requires.3 c.requires.4
    (omega arith) _ _ c.set_key.ensures
