-- The route in a slot is its front part.
use mathlib.Core.Path.{sym}
use Rattle.std.proofs.Common.{arith}
use lib.Seq.{length-take-le}
use Rattle.plan_store.proofs.SlotLaws.{arcs-le}
use Rattle.plan_store.proofs.place.put_slot.Goals as goal

pub slice_bounds-put_route-end : goal.slice_bounds-put_route-end
slice_bounds-put_route-end c = sym (length-take-le c.arcs_in-n.result c.args.slot.now (omega (arith, c.arcs_in-n.ensures, arcs-le c.args.slot.now)))
