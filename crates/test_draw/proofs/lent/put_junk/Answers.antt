use Rattle.std.proofs.Common.{sym}
use Rattle.test_cells.specs.Bounded.{sum}
use Rattle.test_draw.proofs.WrittenLaws.{written_none, written_more}
use Rattle.test_draw.proofs.lent.put_junk.Goals as goal

pub loop-i-init : goal.loop-i-init
loop-i-init c = sym (written_none (λ i. sum c.args.at i) (λ i. 77) c.args.due.now)

pub loop-i-preserved : goal.loop-i-preserved
loop-i-preserved c =
    let more = written_more (λ i. sum c.args.at i) (λ i. 77) c.loop-i.i c.args.due.now in
    cc
