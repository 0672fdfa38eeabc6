-- The ask is made of the three numbers, and the query is decided.
use Rattle.query_pair.proofs.DecideLaws.{cored-same}
use Rattle.query_pair.proofs.core.Goals as goal

pub returns : goal.returns
returns c =
    cored-same c.args.table.now c.args.closed.now c.args.area.now c.args.lent c.args.work.now _ _ c.decide.result _ _
    c.ask_of-ask.ensures c.decide.ensures
