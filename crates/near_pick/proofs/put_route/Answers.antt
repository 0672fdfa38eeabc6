-- Slot j is lent, and comes back with the words of slot r.
use Rattle.std.proofs.Common.{◌+◌, ◌*◌, length, ap, ◌∙◌, arith}
use Rattle.words.specs.Part.{patch}
use Rattle.words.proofs.PartLaws.{back, lent}
use Rattle.near_pick.proofs.SlotLaws.{slot-words}
use Rattle.near_pick.proofs.put_route.Goals as goal

pub copy-requires : goal.copy-requires
copy-requires c =
    omega (
      arith,
      lent (c.args.j * c.args.w) (c.args.j * c.args.w + c.args.w) c.args.area.now (omega arith) c.requires.1,
      ap length c.slot.ensures,
      slot-words c.args.w c.args.r c.args.list.now c.requires.0,
    )

pub returns : goal.returns
returns c =
    back (c.args.j * c.args.w) (c.args.j * c.args.w + c.args.w) c.args.area.now c.copy.new.to (omega arith)
    ∙ ap (patch (c.args.j * c.args.w) (c.args.j * c.args.w + c.args.w) c.args.area.now) (c.copy.ensures ∙ c.slot.ensures)
