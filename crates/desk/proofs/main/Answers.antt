-- At first what is kept is that of no input, and a part that is fed stands behind what was kept.
use Rattle.std.proofs.Common.{rules, ap, [], replicate}
use Rattle.desk_feed.specs.Taken.{first_bytes, table_bytes, state, state_from, state_of}
use Rattle.desk.proofs.main.Goals as goal

pub loop-init : goal.loop-init
unfolding state_of state_from
loop-init c = (([], ap (λ x. state x (replicate first_bytes 0) (replicate table_bytes 0)) c.begin-x.ensures), search rules)

pub loop-preserved : goal.loop-preserved
loop-preserved c = ((_, c.feed-x.ensures c.loop.invariant.0.0 c.loop.invariant.0.1), search rules)
