use Rattle.std.proofs.Common.{sym}
use Rattle.test_cells.specs.Bounded.{sum, product}
use Rattle.test_draw.proofs.WrittenLaws.{written_none, written_more}
use Rattle.test_draw.proofs.cells.clear_roads.Goals as goal

pub loop-i-init : goal.loop-i-init
loop-i-init c = sym (written_none (λ i. sum (sum (product i 5) 13) 3) (λ i. 0) c.args.case.now)

pub loop-i-preserved : goal.loop-i-preserved
loop-i-preserved c =
    let more = written_more (λ i. sum (sum (product i 5) 13) 3) (λ i. 0) c.loop-i.i c.args.case.now in
    cc
