-- The rounds with an answer are looked at in order: the first i of the n records are those of the first i routes, the others zeros, and the rows have a place for
-- each route that may be wanted.
use Rattle.std.proofs.Common.{◌≡◌, [], length}
use Rattle.net.specs.Limits.{most_routes}
use Rattle.search_ask.specs.Ask.{net_for, width}
use Rattle.search_ask.specs.Earlier.{earlier_in}
use Rattle.ratios.proofs.RowsLaws.{Rowed}
use Rattle.ratios.proofs.all.Given as goal

abbrev pub invariant-loop-i : goal.invariant-loop-i
invariant-loop-i l =
    (length l.t.overlap ≡ most_routes) × (length l.t.detour ≡ most_routes) × Rowed (net_for l.ask l.table []) l.t l.n (earlier_in (width l.ask) l.i l.area)
