use Rattle.std.proofs.Common.{◌<◌, length, arith}
use Rattle.std.proofs.lemmas.Grind.{elements}
use Rattle.test_draw.proofs.Places.{from_eight}
use Rattle.test_draw.specs.Held.{closure_byte}
use Rattle.test_draw.proofs.lent.closures.Goals as goal

pub loop-i-preserved : goal.loop-i-preserved
loop-i-preserved c =
    let there : c.loop-i.i < length c.loop-i.closed = omega arith in
    record {
      size = grind (arith, elements);
      before = λ k h. grind (arith, elements, c.loop-i.invariant.before k h);
      lent = from_eight (λ i. closure_byte c.args.case.now i) _ _ _ there c.closure.ensures c.loop-i.invariant.lent;
    }
