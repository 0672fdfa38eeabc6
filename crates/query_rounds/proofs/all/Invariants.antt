-- The slots are blank at first; each round keeps the query underway and the answers in their slots, and the labels' length.
use Rattle.std.proofs.Common.{◌+◌, ◌-◌}
use Rattle.search_ask.specs.Ask.{query_for, width}
use Rattle.query_rounds.specs.Progress.{progress, to_end}
use Rattle.query_rounds.proofs.RoundsLaws.{Gone}
use Rattle.query_rounds.proofs.all.Given as goal

abbrev pub invariant-loop-x : goal.invariant-loop-x
invariant-loop-x l =
    Gone (query_for l.ask l.table l.closed l.initial.labels) (width l.ask) l.k l.initial.labels l.initial.area l.labels l.area (progress l.x.r l.x.stage l.lens l.arcs l.counts)

abbrev pub decreases-loop-x : goal.decreases-loop-x
decreases-loop-x l = l.k - l.x.r + to_end l.x.stage
