-- The numbers so far are put into the buffer at `at`, up to `next`, with at most 21 bytes each, and the buffer's length is as it was.
use Rattle.std.proofs.Common.{◌+◌, ◌*◌, ◌≤◌, take}
use Rattle.text_put.specs.Put.{Appended}
use Rattle.desk_output.specs.Line.{numbers_text}
use Rattle.desk_output.proofs.numbers.Given as goal

abbrev pub invariant-loop-v : goal.invariant-loop-v
invariant-loop-v l = (l.next ≤ l.at + l.v-index * 21) × Appended l.fn.out l.at (numbers_text (take l.v-index l.vs)) l.out l.next
