-- The total is the overlap of the arcs so far.
use Rattle.std.proofs.Common.{◌≡◌, [], take}
use Rattle.net.specs.Route.{overlap}
use Rattle.search_ask.specs.Ask.{net_for}
use Rattle.search_ask.specs.Earlier.{route_in}
use Rattle.ratios.proofs.share.overlap.Given as goal

abbrev pub invariant-loop-arc : goal.invariant-loop-arc
invariant-loop-arc l = l.total ≡ overlap (net_for l.ask l.table []) (take l.arc-index l.q) (route_in l.p)
