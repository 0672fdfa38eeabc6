-- A turn puts the first six arcs of what is left; after as many parts as the route has, nothing is left.
use mathlib.Core.Path.{◌≡◌, refl, ap, subst, ◌∙◌}
use Rattle.std.proofs.Common.{arith, ◌+◌, ◌*◌, take}
use Rattle.plan_record.specs.Record.{part_arcs}
use Rattle.plan_store.specs.Placing.{Placing, placed_next}
use Rattle.plan_store.proofs.SlotLaws.{from-there}
use Rattle.plan_store.proofs.TurnLaws.{Partly, partly-room, partly_more, partly-done}
use Rattle.plan_store.proofs.place.put_route.Goals as goal

pub loop-part-init : goal.loop-part-init
loop-part-init c = (refl, c.requires.0, refl)

pub put_part-next-requires : goal.put_part-next-requires
put_part-next-requires c =
    partly-room c.args.plan c.args.rank c.args.route.now (record { file = c.args.file.now; at = c.args.at }) (record { file = c.loop-part.file; at = c.loop-part.next }) c.loop-part.part
    (c.loop-part.part * part_arcs) c.loop-part.invariant (omega arith)

pub loop-part-preserved : goal.loop-part-preserved
loop-part-preserved c =
    let from = c.loop-part.part * part_arcs in
    let route = c.args.route.now in
    let s : Placing = record { file = c.args.file.now; at = c.args.at } in
    let t : Placing = record { file = c.loop-part.file; at = c.loop-part.next } in
    let put = c.put_part-next.ensures
    ∙ ap (λ l. placed_next t (record { plan = c.args.plan; rank = c.args.rank; part = c.loop-part.part; arcs = take part_arcs l })) (from-there route from) in
    let e : from + part_arcs ≡ (c.loop-part.part + 1) * part_arcs = omega arith in
    subst (Partly c.args.plan c.args.rank route s (record { file = c.put_part-next.new.file; at = c.put_part-next.result }) (c.loop-part.part + 1)) e
    (partly_more c.args.plan c.args.rank route s t c.loop-part.part from c.loop-part.invariant _ (omega arith) put)

pub returns : goal.returns
returns c =
    partly-done c.args.plan c.args.rank c.args.route.now (record { file = c.args.file.now; at = c.args.at }) (record { file = c.loop-part.file; at = c.loop-part.next }) c.loop-part.part
    (c.loop-part.part * part_arcs) c.loop-part.invariant (omega arith)
