-- Each turn is a law of the first road number.
use Rattle.std.proofs.Common.{arith, sym, ◌∙◌}
use Rattle.road_write.proofs.RoadLaws.{road-le, road-past, road-here}
use Rattle.road_write.proofs.first_road.Goals as goal

pub returns-then-road_of-ne0 : goal.returns-then-road_of-ne0
returns-then-road_of-ne0 c =
    (omega arith, road-here c.args.table.now c.loop-i.i c.loop-i.invariant (λ z. c.if-road_of-ne0.true (c.road_of.ensures ∙ z)))

pub loop-i-preserved : goal.loop-i-preserved
loop-i-preserved c =
    omega (arith, road-past c.args.table.now c.loop-i.i c.loop-i.invariant (omega arith) (sym c.road_of.ensures ∙ c.if-road_of-ne0.false))

pub returns : goal.returns
returns c = omega (arith, road-le c.args.table.now)
