-- A turn marks the first of the words that are left (`marks-step`); at the end none is left.
use Rattle.std.proofs.Common.{◌+◌, drop, sym, ap, ◌∙◌, arith}
use Rattle.search_driven.specs.Marks.{with_marks}
use Rattle.search_driven.proofs.MarksLaws.{marks-done, marks-step}
use Rattle.search_driven.proofs.marks.mark_slot.Goals as goal

pub loop-word-preserved : goal.loop-word-preserved
loop-word-preserved c =
    ap (with_marks c.args.table.now (drop (c.loop-word.word-index + 1) c.args.slot.now)) c.mark.ensures
    ∙ sym (marks-step c.args.table.now c.args.slot.now c.loop-word.marks c.loop-word.word-index c.loop-word-test.true)
    ∙ c.loop-word.invariant

pub returns : goal.returns
returns c = sym (marks-done c.args.table.now c.args.slot.now c.loop-word.marks c.loop-word.word-index (omega arith)) ∙ c.loop-word.invariant
