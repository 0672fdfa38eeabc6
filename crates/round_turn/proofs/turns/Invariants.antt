-- The filter is made first. Since `begin` the bytes have kept their length and are those of the chains taken up, the state is at its stage, and of the area only the
-- round's own slot has changed, which has the labels in their lists. So the earlier answers, and with them the filter, are what they were.
use Rattle.std.proofs.Common.{length}
use Rattle.table.specs.Table.{records}
use Rattle.search_ask.specs.Ask.{net_for, query_for}
use Rattle.search_ask.specs.Earlier.{earlier_of}
use Rattle.search_batch.specs.Batch.{Ahead}
use Rattle.round_label.specs.Lists.{Listing}
use Rattle.round_turn.specs.Turn.{left_in}
use Rattle.round_turn.proofs.SinceLaws.{Since}
use Rattle.round_turn.proofs.turns.Given as goal

abbrev pub invariant-loop-x : goal.invariant-loop-x
invariant-loop-x l =
    record {
      since : Since (query_for l.ask l.table l.closed l.initial.labels) (earlier_of l.ask l.initial.area l.lens) l.initial.labels l.initial.x l.labels l.x;
      listing : Listing l.ask l.table (length l.lens) l.initial.area l.area l.labels l.x;
      ahead : Ahead (net_for l.ask l.table l.closed) (records l.table) l.ahead;
    }

abbrev pub decreases-loop-x : goal.decreases-loop-x
decreases-loop-x l = left_in (query_for l.ask l.table l.closed l.initial.labels) l.labels l.x
