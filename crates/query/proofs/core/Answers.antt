-- The ask is made of the five numbers, and the query is decided into rows of zeros.
use Rattle.std.proofs.Common.{[]}
use Rattle.query.proofs.DecideLaws.{cored-same}
use Rattle.query.proofs.core.Goals as goal

pub returns : goal.returns
returns c =
    cored-same c.args.table.now [] _ c.args.labels.now c.args.area.now _ _ _ c.got_of.result _ _ c.ask_of-ask.ensures c.got_of.ensures c.decide-d.ensures
