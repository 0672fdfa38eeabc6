-- All nodes far, all keys `far`, then node s at 0 by both.
use Rattle.reach.proofs.StandLaws.{begin-roomy, begin-tree, begun}
use Rattle.reach.proofs.step.start.Goals as goal

pub set_key-requires : goal.set_key-requires
set_key-requires c =
    let x = c.args.x in
    let z = c.requires.0 in (
      begin-roomy x z c.args.n c.args.room.now c.clear.new.room c.fill.new.room _ c.args.s c.clear.ensures c.fill.ensures c.put_long.ensures c.requires.1,
      c.requires.2,
      begin-tree x z c.args.n c.args.room.now c.clear.new.room c.fill.new.room _ c.args.s c.clear.ensures c.fill.ensures c.put_long.ensures,
    )

pub returns : goal.returns
returns c =
    begun c.args.x c.requires.0 c.args.n c.args.room.now c.clear.new.room c.fill.new.room c.put_long.new.room c.args.s c.clear.ensures c.fill.ensures c.put_long.ensures c.requires.1 c.requires.2 _ _
    c.set_key.ensures
