-- Part after part, as `Partly` says; part p starts at arc 6 p, and of at most 65,535 arcs each part has a number of 16 bits.
use Rattle.std.proofs.Common.{◌*◌}
use Rattle.plan_record.specs.Record.{part_arcs}
use Rattle.plan_store.proofs.TurnLaws.{Partly}
use Rattle.plan_store.proofs.place.put_route.Given as goal

abbrev pub invariant-loop-part : goal.invariant-loop-part
invariant-loop-part l = Partly l.plan l.rank l.route (record { file = l.fn.file; at = l.fn.at }) (record { file = l.file; at = l.next }) l.part (l.part * part_arcs)
