-- There is a free record, so the next one lies in the file.
use mathlib.Core.Path.{ap}
use Rattle.std.proofs.Common.{arith, length}
use Rattle.plan_store.specs.Placing.{placed_next}
use Rattle.plan_store.proofs.PartLaws.{take_part}
use Rattle.plan_store.proofs.PlaceLaws.{next-within}
use Rattle.plan_store.proofs.place.put_part.Goals as goal

pub put-requires : goal.put-requires
put-requires c = (
  omega (arith, c.next_free-i.ensures, next-within c.args.file.now c.args.at c.requires),
  omega (arith, ap length c.first_part.ensures, take_part c.args.arcs.now),
)

pub overflow_add-result : goal.overflow_add-result
overflow_add-result c = omega (arith, c.next_free-i.ensures, next-within c.args.file.now c.args.at c.requires)

pub returns : goal.returns
unfolding placed_next
returns c = cc
