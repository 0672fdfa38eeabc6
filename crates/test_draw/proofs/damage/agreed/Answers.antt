use Rattle.std.proofs.Common.{arith}
use Rattle.test_draw.proofs.Places.{counted}
use Rattle.test_draw.proofs.damage.agreed.Goals as goal

pub loop-damage-preserved : goal.loop-damage-preserved
loop-damage-preserved g c =
    omega (arith, counted c.agrees-same.result c.loop-damage.agreed c.add-agreed.result c.add-agreed.ensures)
