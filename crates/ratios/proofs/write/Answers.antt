-- One more record is written: what `at` gives, stored to place i.
use Rattle.std.proofs.Common.{◌<◌, length, arith}
use Rattle.ratios.proofs.Filled.{written_step}
use Rattle.ratios.proofs.write.Goals as goal

pub loop-i-preserved : goal.loop-i-preserved
loop-i-preserved c =
    let h : c.loop-i.i < length c.args.s.now = omega arith in
    let e = written_step c.args.t c.loop-i.i c.args.s.now h in cc
