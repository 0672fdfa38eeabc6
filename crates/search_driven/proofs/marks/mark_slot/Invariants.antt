-- The words are looked at in order. To mark the words from here on makes of these bits what marking all makes of those at first.
use Rattle.std.proofs.Common.{◌≡◌, drop}
use Rattle.search_driven.specs.Marks.{with_marks}
use Rattle.search_driven.proofs.marks.mark_slot.Given as goal

abbrev pub invariant-loop-word : goal.invariant-loop-word
invariant-loop-word l = with_marks l.table (drop l.word-index l.slot) l.marks ≡ with_marks l.table l.slot l.initial.marks
