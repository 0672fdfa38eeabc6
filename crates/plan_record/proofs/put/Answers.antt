-- The fields before the arc numbers, and then the arc numbers behind them, make the record.
use Rattle.plan_record.proofs.StoreLaws.{head-and-arcs}
use Rattle.plan_record.proofs.put.Goals as goal

pub returns : goal.returns
returns c =
    cc (head-and-arcs c.args.file.now c.args.i
    (record { plan = c.args.plan; rank = c.args.rank; part = c.args.part; arcs = c.args.arcs.now }) c.requires.0)
