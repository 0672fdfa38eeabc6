use Rattle.std.proofs.Common.{sym, get_or}
use Rattle.test_cells.specs.Bounded.{sum}
use Rattle.test_draw.proofs.WrittenLaws.{written_none, written_more}
use Rattle.test_draw.proofs.lent.put_area.Goals as goal

pub loop-i-init : goal.loop-i-init
loop-i-init c = sym (written_none (λ i. sum c.args.at i) (λ i. get_or c.args.area.now i 0) c.args.answer.now)

pub loop-i-preserved : goal.loop-i-preserved
loop-i-preserved c =
    let more = written_more (λ i. sum c.args.at i) (λ i. get_or c.args.area.now i 0) c.loop-i.i c.args.answer.now in
    cc
