-- The turns, one after the other, until k routes are kept or none is left.
use Rattle.std.proofs.Common.{[], ◌-◌}
use Rattle.search_ask.specs.Ask.{query_for, width}
use Rattle.via_rounds.proofs.TurnLaws.{Midway}
use Rattle.via_rounds.proofs.all.Given as goal

abbrev pub invariant-loop-ask : goal.invariant-loop-ask
invariant-loop-ask l =
    Midway (query_for l.ask l.table l.closed []) (width l.ask) l.k l.initial.area l.initial.room l.area l.room l.x

abbrev pub decreases-loop-ask : goal.decreases-loop-ask
decreases-loop-ask l = l.k - l.x.r
