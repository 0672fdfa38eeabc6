-- Route after route, as `Stored-to` says.
use Rattle.plan_store.proofs.TurnLaws.{Stored-to}
use Rattle.plan_store.proofs.place.put_routes.Given as goal

abbrev pub invariant-loop-r : goal.invariant-loop-r
invariant-loop-r l = Stored-to l.plan l.slots l.routes l.width (record { file = l.fn.file; at = 0 }) (record { file = l.file; at = l.next }) l.r
