-- The rounds as the query makes them, over slots that are blank at first: each keeps the query underway and no length changes.
use Rattle.std.proofs.Common.{[], ◌+◌, ◌-◌}
use Rattle.search_ask.specs.Ask.{query_for, width}
use Rattle.query_rounds.specs.Progress.{progress, to_end}
use Rattle.query_rounds.proofs.RoundsLaws.{Gone}
use Rattle.test_round_figures.proofs.run.rounds.Given as goal

abbrev pub invariant-loop-x : goal.invariant-loop-x
invariant-loop-x l =
    Gone (query_for l.ask l.t [] l.initial.labels) (width l.ask) l.k l.initial.labels l.initial.area l.labels l.area (progress l.x.r l.x.stage l.lens l.arcs l.counts)

abbrev pub decreases-loop-x : goal.decreases-loop-x
decreases-loop-x l = l.k - l.x.r + to_end l.x.stage
