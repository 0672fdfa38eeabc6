-- The lines of the first j answers stand in the buffer, which is as long as before.
use Rattle.text_put.specs.Put.{Appended}
use Rattle.desk_text.specs.Lines.{lines_from}
use Rattle.desk_text.proofs.print.lines.Given as goal

abbrev pub invariant-loop-j : goal.invariant-loop-j
invariant-loop-j l = Appended l.fn.out l.at (lines_from l.sums l.w l.area l.j 0) l.out l.next
