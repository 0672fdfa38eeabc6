-- The loop puts one line more after those that stand. Invariant: the lines of the first i arcs are put into the buffer at `at`, up to `next`. They and one line
-- more are no longer than the lines of all, so it has its room; at the end the first i arcs are all.
use Rattle.text_put.specs.Put.{Appended}
use Rattle.road_write.proofs.TextLaws.{lines_to}
use Rattle.road_write.proofs.lines.Given as goal

abbrev pub invariant-loop-i : goal.invariant-loop-i
invariant-loop-i l = Appended l.initial.out l.at (lines_to l.table l.i) l.out l.next
