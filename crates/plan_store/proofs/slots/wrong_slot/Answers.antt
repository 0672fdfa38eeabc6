-- The three tests in their order; the arcs are a front part of the slot.
use mathlib.Core.Path.{sym, ap, ◌∙◌}
use mathlib.Core.Bool.{not}
use lib.Dec.{ltb, eqb}
use lib.Seq.{length-take-le}
use borrow.Author.Tests.{eq-eqb, not-true, not-false}
use Rattle.std.proofs.Common.{arith, take, drop}
use Rattle.std.proofs.lemmas.Bool.{both_ways}
use Rattle.lists.specs.Tests.{every}
use Rattle.net.specs.Limits.{most_arcs}
use Rattle.labels.specs.Field.{no_number}
use Rattle.plan_store.proofs.SlotLaws.{from-there, arcs-le, wrong-empty, wrong-arc, wrong-rest}
use Rattle.plan_store.proofs.slots.wrong_slot.Goals as goal
use Rattle.plan_store.proofs.slots.wrong_slot.Goals.{then-n-eq0, else-n-eq0}

pub slice_bounds-all_arcs-end : goal.slice_bounds-all_arcs-end
slice_bounds-all_arcs-end c = sym (length-take-le c.arcs_in-n.result c.args.slot.now (omega (arith, c.arcs_in-n.ensures, arcs-le c.args.slot.now)))

pub offset_bounds-slot-n : goal.offset_bounds-slot-n
offset_bounds-slot-n c = omega (arith, c.arcs_in-n.ensures, arcs-le c.args.slot.now)

pub slice_bounds-all_none-count : goal.slice_bounds-all_none-count
slice_bounds-all_none-count c = omega (arith, c.arcs_in-n.ensures, arcs-le c.args.slot.now)

pub slice_bounds-all_none-start : goal.slice_bounds-all_none-start
slice_bounds-all_none-start c = omega (arith, c.arcs_in-n.ensures, arcs-le c.args.slot.now)

pub returns-then-not-all_arcs : goal.returns-then-not-all_arcs
returns-then-not-all_arcs c =
    let words = c.args.slot.now in
    c.if-not-all_arcs.true
    ∙ sym
    (elim c.if-n-eq0.branch [
      | then-n-eq0 w ↦ wrong-empty words (sym c.arcs_in-n.ensures ∙ w.if-n-eq0.true)
      | else-n-eq0 w ↦
          let e = w.all_arcs.ensures ∙ ap (λ n. every (λ a. ltb a most_arcs) (take n words)) c.arcs_in-n.ensures in
          wrong-arc words (λ z. w.if-n-eq0.false (c.arcs_in-n.ensures ∙ z)) (sym e ∙ not-true _ (sym w.value-is ∙ c.if-not-all_arcs.true))
    ])

pub returns-else-not-all_arcs : goal.returns-else-not-all_arcs
returns-else-not-all_arcs c =
    let words = c.args.slot.now in
    let rest = c.all_none.ensures
    ∙ ap (every (λ a. eqb a no_number)) (from-there words c.arcs_in-n.result)
    ∙ ap (λ n. every (λ a. eqb a no_number) (drop n words)) c.arcs_in-n.ensures in
    ap not rest
    ∙ sym
    (elim c.if-n-eq0.branch [
      | then-n-eq0 w ↦ absurd (both_ways _ c.if-not-all_arcs.false (w.value-is ∙ eq-eqb _ _ w.if-n-eq0.true))
      | else-n-eq0 w ↦
          let e = w.all_arcs.ensures ∙ ap (λ n. every (λ a. ltb a most_arcs) (take n words)) c.arcs_in-n.ensures in
          wrong-rest words (λ z. w.if-n-eq0.false (c.arcs_in-n.ensures ∙ z)) (sym e ∙ not-false _ (sym w.value-is ∙ c.if-not-all_arcs.false))
    ])
