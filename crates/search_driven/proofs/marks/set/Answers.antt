-- A shift to the left by less than 64 is the power of two, and that is put into the word.
use Rattle.std.proofs.Common.{◌%◌, arith}
use Rattle.search_driven.specs.Marks.{with_mark}
use Rattle.search_driven.proofs.MarksLaws.{one_shifted}
use Rattle.search_driven.proofs.marks.set.Goals as goal

pub returns : goal.returns
unfolding with_mark
returns c = rw (one_shifted (c.args.h % 64) (omega arith))
