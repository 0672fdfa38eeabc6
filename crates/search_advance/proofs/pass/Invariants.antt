-- The loop goes along the run of the label's end: `arc` is in the run or just past it, and the best so far is right of the arcs below it.
use Rattle.std.proofs.Common.{◌+◌, ◌≤◌}
use Rattle.table.specs.Run.{run_start}
use Rattle.search_advance.specs.Own.{AtCursor}
use Rattle.search_advance.proofs.pass.Given as goal

abbrev pub invariant-loop-arc : goal.invariant-loop-arc
invariant-loop-arc l =
    record { in_run : l.arc ≤ run_start l.table (l.v + 1); best : AtCursor l.ask l.table l.closed l.area l.lens l.labels l.x l.arc l.best }
