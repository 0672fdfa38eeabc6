-- A byte taken is one more of the part.
use Rattle.std.proofs.Common.{refl, sym, ap, ◌∙◌, arith, get_or}
use Rattle.std.proofs.Math.Seq.{take_all}
use Rattle.desk_feed.specs.Taken.{state, state_byte, state_from}
use Rattle.desk_feed.proofs.TakenLaws.{state-next, state-turned}
use Rattle.desk_feed.proofs.feed.Goals as goal

pub loop-byte-init : goal.loop-byte-init
unfolding state_from
loop-byte-init c = refl

pub take-y-requires : goal.take-y-requires
take-y-requires c = omega (arith, c.requires, c.loop-byte.auto.table)

pub loop-byte-preserved : goal.loop-byte-preserved
loop-byte-preserved c =
    let b = get_or c.args.part.now c.loop-byte.byte-index 0 in
    let e = c.take-y.ensures in
    state-turned c.loop-byte.y _ c.loop-byte.first _ c.loop-byte.table _ b e.0 e.1 e.2
    ∙ ap (λ z. state_byte z b) c.loop-byte.invariant
    ∙ sym (state-next (state c.args.x c.args.first.now c.args.table.now) c.args.part.now c.loop-byte.byte-index (omega arith))

pub returns : goal.returns
returns c =
    c.loop-byte.invariant
    ∙ ap (state_from (state c.args.x c.args.first.now c.args.table.now)) (take_all c.loop-byte.byte-index c.args.part.now (omega arith))
