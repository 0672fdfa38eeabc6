-- What was set stays set, and the next slot's bits come to it (`has_more`); those of all r slots make the filter.
use Rattle.std.proofs.Common.{◌≡◌, ℕ, ◌+◌, ◌<◌, length, sym, ap, subst, ◌∙◌, arith}
use Rattle.words.specs.Part.{slot}
use Rattle.table.proofs.FaultLaws.{good-size}
use Rattle.search_ask.specs.Ask.{width}
use Rattle.search_driven.specs.Marks.{mark_words, with_marks}
use Rattle.search_driven.proofs.MarksLaws.{HasMarks, has_more, filter}
use Rattle.search_driven.proofs.marks.mark_earlier.Goals as goal

pub mark_slot-requires : goal.mark_slot-requires
mark_slot-requires c = ((good-size _ _ c.requires.0.no-fault).3, omega (arith, c.loop-j.auto.marks, c.requires.2))

pub loop-j-preserved : goal.loop-j-preserved
loop-j-preserved c =
    let long : length c.loop-j.marks ≡ mark_words = omega (arith, c.loop-j.auto.marks, c.requires.2) in
    let slots : ℕ → _ = λ i. slot (width c.args.ask) i c.args.area.now in
    subst (λ m. (i : ℕ) → i < c.loop-j.j + 1 → HasMarks c.args.table.now (slot (width c.args.ask) i c.args.area.now) m)
    (sym (c.mark_slot.ensures ∙ ap (λ l. with_marks c.args.table.now l c.loop-j.marks) c.slot.ensures))
    (has_more c.args.table.now slots c.loop-j.marks c.loop-j.j long c.loop-j.invariant)

pub returns : goal.returns
returns c =
    filter c.args.table.now c.args.area.now (width c.args.ask) c.args.r c.loop-j.marks (omega (arith, c.loop-j.auto.marks, c.requires.2))
    (λ i h. c.loop-j.invariant i (omega arith))
