-- The record in the middle, by its end node.
use Rattle.std.proofs.Common.{arith, ◌+◌, ◌-◌, ◌/◌}
use Rattle.second.proofs.ComingLaws.{coming-le, coming-to, coming-past}
use Rattle.second.proofs.coming_start.Goals as goal

pub loop-from-init : goal.loop-from-init
loop-from-init c = record { after = omega arith; before = coming-le c.args.second.now c.args.v; inside = omega arith }

pub loop-from-preserved-then-to_of-v : goal.loop-from-preserved-then-to_of-v
loop-from-preserved-then-to_of-v c =
    let mid = c.loop-from.from + (c.loop-from.to - c.loop-from.from) / 2 in
    record {
      after = omega (arith, coming-past c.args.nodes c.args.table.now c.requires.0 c.args.second.now c.requires.1 c.args.v mid (omega arith) (omega arith));
      before = omega arith;
      inside = omega arith;
    }

pub loop-from-preserved : goal.loop-from-preserved
loop-from-preserved c =
    let mid = c.loop-from.from + (c.loop-from.to - c.loop-from.from) / 2 in
    record { after = omega arith; before = omega (arith, coming-to c.args.second.now c.args.v mid (omega arith)); inside = omega arith }
