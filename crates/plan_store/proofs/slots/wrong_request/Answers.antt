-- The tests in their order.
use Rattle.std.proofs.Common.{arith}
use Rattle.std.proofs.lemmas.Grind.{common_steps}
use Rattle.std.proofs.lemmas.Bool.Decides.{nat_tests}
use Rattle.plan_store.specs.Slots.{wrong_request}
use Rattle.plan_store.proofs.slots.wrong_request.Goals as goal

pub returns-then-slots-routes : goal.returns-then-slots-routes
unfolding wrong_request
returns-then-slots-routes c = grind (arith, common_steps, nat_tests)

pub returns-else-slots-routes : goal.returns-else-slots-routes
unfolding wrong_request
returns-else-slots-routes c = grind (arith, common_steps, nat_tests)
