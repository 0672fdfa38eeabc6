-- The routes before route i are looked at in order: f is the greatest share with the first j.
use Rattle.std.proofs.Common.{◌≡◌, []}
use Rattle.search_ask.specs.Ask.{net_for, width}
use Rattle.search_ask.specs.Earlier.{earlier_in}
use Rattle.ratios.specs.Ratios.{greatest_from, no_share}
use Rattle.ratios.specs.Routes.{route_at}
use Rattle.ratios.proofs.share.greatest.Given as goal

abbrev pub invariant-loop-j : goal.invariant-loop-j
invariant-loop-j l = l.f ≡ greatest_from (net_for l.ask l.table []) (route_at l.ask l.area l.i) no_share (earlier_in (width l.ask) l.j l.area)
