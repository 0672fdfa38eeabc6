-- The search from nothing chosen; since there are enough routes, a choice is found (`all-chosen`).
use Rattle.near_choice.proofs.SeekLaws.{seek-asks, all-chosen}
use Rattle.near_choice.proofs.choose.Goals as goal

pub seek-requires : goal.seek-requires
seek-requires c = seek-asks c.args.table.now c.args.nodes c.args.w c.args.n c.args.list.now c.args.room.now c.args.ranks.now c.args.best.now c.requires.0 c.requires.1 c.requires.2

pub returns : goal.returns
returns c = (
  all-chosen c.args.table.now c.args.nodes c.args.w c.args.n c.args.list.now c.args.room.now c.args.ranks.now c.args.best.now c.requires.0 c.requires.1 c.requires.2 c.requires.3 _ _ _ _ c.seek.ensures,
  c.seek.ensures.room-long,
)
