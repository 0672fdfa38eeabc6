-- One route more is put in its slot (`turn-next`).
use Rattle.std.proofs.Common.{◌+◌, ◌*◌, get_or, sym, ap, ◌∙◌}
use Rattle.words.specs.Part.{patch, slot}
use Rattle.near_pick.proofs.SlotLaws.{turn-first, turn-next, turn_last}
use Rattle.near_pick.proofs.put_routes.Goals as goal

pub loop-j-init : goal.loop-j-init
loop-j-init c = sym (turn-first c.args.w c.args.list.now c.args.ranks.now c.args.area.now c.requires)

pub loop-j-preserved : goal.loop-j-preserved
loop-j-preserved c =
    c.put_route.ensures
    ∙ ap (λ z. patch (c.loop-j.j * c.args.w) (c.loop-j.j * c.args.w + c.args.w) z (slot c.args.w (get_or c.args.ranks.now c.loop-j.j 0) c.args.list.now)) c.loop-j.invariant
    ∙ turn-next c.args.w c.args.list.now c.args.ranks.now c.args.area.now c.requires c.loop-j.j c.loop-j-test.true

pub returns : goal.returns
returns c =
    c.loop-j.invariant
    ∙ turn_last c.args.w c.args.list.now c.args.ranks.now c.args.area.now c.requires c.loop-j.j c.loop-j-test.false c.loop-j.auto.j-end
