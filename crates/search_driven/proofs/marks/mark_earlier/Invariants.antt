-- The slots are marked one after the other: the bit of each arc on the first j slots is set.
use Rattle.std.proofs.Common.{ℕ, ◌<◌}
use Rattle.words.specs.Part.{slot}
use Rattle.search_ask.specs.Ask.{width}
use Rattle.search_driven.proofs.MarksLaws.{HasMarks}
use Rattle.search_driven.proofs.marks.mark_earlier.Given as goal

abbrev pub invariant-loop-j : goal.invariant-loop-j
invariant-loop-j l = (i : ℕ) → i < l.j → HasMarks l.table (slot (width l.ask) i l.area) l.marks
