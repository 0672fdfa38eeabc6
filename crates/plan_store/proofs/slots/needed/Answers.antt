-- A turn adds what the route in slot r takes, the first of those that are left.
use mathlib.Core.Path.{◌≡◌, sym, ap, ◌∙◌}
use native.Mathlib.Nat.{sub-zero}
use Rattle.std.proofs.Common.{arith, ℕ, List, ◌+◌, ◌-◌, ◌*◌, ◌/◌, ◌≤◌, ◌<◌, length}
use Rattle.lists.proofs.LoopLaws.{gives, gives-done, gives-step}
use Rattle.words.specs.Part.{slot}
use Rattle.plan_record.specs.Record.{part_arcs}
use Rattle.plan_store.specs.Slots.{most_width, arcs_in, routes_in}
use Rattle.plan_store.specs.Placing.{part_count, needed_for}
use Rattle.plan_store.proofs.SlotLaws.{route_at, length-route_in, length-slot, slot-within, arcs-le}
use Rattle.plan_store.proofs.slots.needed.Goals as goal

-- the arcs of slot r, and that they are few
few : (slots : List ℕ) (routes width r n : ℕ) (s : List ℕ) → length slots ≡ routes * width → width ≤ most_width → r < routes → s ≡ slot width r slots → n ≡ arcs_in s
    → (n ≡ length (route_at slots width r)) × (n ≤ most_width)
few slots routes width r n s size narrow more here e =
    let w = slot width r slots in
    let k : n ≡ arcs_in w = e ∙ ap arcs_in here in
    let long : length w ≡ width = length-slot slots routes width size r more in
    (k ∙ sym (length-route_in w), omega (arith, arcs-le w))

pub loop-r-init : goal.loop-r-init
unfolding routes_in
loop-r-init c = (omega arith, rw sub-zero (omega arith))

pub slot_of-requires : goal.slot_of-requires
slot_of-requires c = slot-within c.args.slots.now c.args.routes c.args.width c.requires.0 c.loop-r.r c.loop-r-test.true

pub part_count-n-requires : goal.part_count-n-requires
part_count-n-requires c = (few c.args.slots.now c.args.routes c.args.width c.loop-r.r c.arcs_in.result c.slot_of.result.now c.requires.0 c.requires.2 c.loop-r-test.true c.slot_of.ensures c.arcs_in.ensures).1

pub overflow_add-n : goal.overflow_add-n
overflow_add-n c = omega (arith, (few c.args.slots.now c.args.routes c.args.width c.loop-r.r c.arcs_in.result c.slot_of.result.now c.requires.0 c.requires.2 c.loop-r-test.true c.slot_of.ensures c.arcs_in.ensures).1, c.requires.1)

pub loop-r-preserved : goal.loop-r-preserved
unfolding needed_for
loop-r-preserved c =
    let k = few c.args.slots.now c.args.routes c.args.width c.loop-r.r c.arcs_in.result c.slot_of.result.now c.requires.0 c.requires.2 c.loop-r-test.true c.slot_of.ensures c.arcs_in.ensures in
    let g = route_at c.args.slots.now c.args.width in
    let r = c.loop-r.r in
    let more : needed_for (gives g r c.args.routes) ≡ part_count (g r) + needed_for (gives g (r + 1) c.args.routes) = ap needed_for (gives-step g r c.args.routes c.loop-r-test.true) in
    let here : c.part_count-n.result ≡ part_count (g r) = c.part_count-n.ensures ∙ ap (λ n. (n + (part_arcs - 1)) / part_arcs) k.0 in
    (omega (arith, k.1), omega (arith, c.loop-r.invariant.1))

pub returns : goal.returns
unfolding needed_for
returns c =
    let g = route_at c.args.slots.now c.args.width in
    let none : needed_for (gives g c.loop-r.r c.args.routes) ≡ 0 = ap needed_for (gives-done g c.loop-r.r c.args.routes (omega arith)) in
    omega (arith, c.loop-r.invariant.1)
