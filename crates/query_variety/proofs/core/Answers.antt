-- The ask and the wish are made of the numbers, and the call is decided.
use Rattle.query_variety.proofs.DecideLaws.{replied-same}
use Rattle.query_variety.proofs.core.Goals as goal

pub returns : goal.returns
returns c = replied-same c.args.table.now c.args.closed.now c.args.list.now c.args.area.now c.args.work.now _ _ _ c.decide.result _ _ _ c.ask_of-ask.ensures c.decide.ensures
