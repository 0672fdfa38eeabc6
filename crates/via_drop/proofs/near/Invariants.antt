-- The route has no filler (`route-is`), so its slot is the route. Invariant: since `begin`, which
-- shows in nothing (`judged-since`), the nodes before v have been judged. A node more is
-- `judged-more`; after the last all keys are as defined (`dropped-all`).
use Rattle.search_ask.specs.Earlier.{route_in}
use Rattle.via_drop.specs.Walks.{Dropping, JudgedTo}
use Rattle.via_drop.proofs.near.Given as goal

abbrev pub invariant-loop-v : goal.invariant-loop-v
invariant-loop-v l = record {
  dropping : Dropping l.ask l.table l.route l.marks l.room;
  judged : JudgedTo l.ask l.table (route_in l.route) l.initial.room l.v l.room l.first;
}
