-- A record with arcs is one more; at one without the loop ends.
use Rattle.std.proofs.Common.{arith}
use Rattle.desk_text.proofs.RoundsLaws.{each_more}
use Rattle.desk_text.proofs.print.leading.Goals as goal

pub returns-then-sums-j-eq0 : goal.returns-then-sums-j-eq0
returns-then-sums-j-eq0 c = record { few = omega arith; each = c.loop-j.invariant; stop = λ h. c.if-sums-j-eq0.true }

pub loop-j-preserved : goal.loop-j-preserved
loop-j-preserved c = each_more c.args.sums.arcs c.loop-j.j c.loop-j.invariant c.if-sums-j-eq0.false

pub returns : goal.returns
returns c = record { few = omega arith; each = λ i h. c.loop-j.invariant i (omega arith); stop = λ h. absurd (omega arith) }
