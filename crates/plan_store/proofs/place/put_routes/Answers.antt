-- A turn puts the route in slot r; after the last all are stored.
use mathlib.Core.Path.{ap, ◌∙◌}
use Rattle.std.proofs.Common.{arith, length}
use Rattle.plan_store.specs.Slots.{route_in}
use Rattle.plan_store.specs.Placing.{Placing, parts_left, placed_on}
use Rattle.plan_store.proofs.SlotLaws.{slot-within, length-slot}
use Rattle.plan_store.proofs.TurnLaws.{none-stored, room-route, one-stored, all-stored}
use Rattle.plan_store.proofs.place.put_routes.Goals as goal

pub loop-r-init : goal.loop-r-init
loop-r-init c = none-stored c.args.plan c.args.slots.now c.args.routes c.args.width (record { file = c.args.file.now; at = 0 }) c.requires.3

pub slot_of-requires : goal.slot_of-requires
slot_of-requires c = slot-within c.args.slots.now c.args.routes c.args.width c.requires.0 c.loop-r.r c.loop-r-test.true

pub put_slot-next-requires : goal.put_slot-next-requires
put_slot-next-requires c =
    let e = c.slot_of.ensures in (
      rw e
          (room-route c.args.plan c.args.slots.now c.args.routes c.args.width (record { file = c.args.file.now; at = 0 }) (record { file = c.loop-r.file; at = c.loop-r.next }) c.loop-r.r
          c.loop-r.invariant c.loop-r-test.true),
      omega (arith, ap length e, length-slot c.args.slots.now c.args.routes c.args.width c.requires.0 c.loop-r.r c.loop-r-test.true, c.requires.2),
    )

pub loop-r-preserved : goal.loop-r-preserved
loop-r-preserved c =
    let s : Placing = record { file = c.args.file.now; at = 0 } in
    let t : Placing = record { file = c.loop-r.file; at = c.loop-r.next } in
    one-stored c.args.plan c.args.slots.now c.args.routes c.args.width s t c.loop-r.r c.loop-r.invariant _ c.loop-r-test.true
    (c.put_slot-next.ensures ∙ ap (λ l. placed_on t (parts_left c.args.plan c.loop-r.r 0 (route_in l))) c.slot_of.ensures)

pub returns : goal.returns
returns c =
    ap (λ t. t.file)
    (all-stored c.args.plan c.args.slots.now c.args.routes c.args.width (record { file = c.args.file.now; at = 0 }) (record { file = c.loop-r.file; at = c.loop-r.next }) c.loop-r.r
    c.loop-r.invariant c.loop-r-test.false)
