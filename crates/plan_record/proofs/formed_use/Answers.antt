-- The tests are those of the definition, in its order.
use Rattle.std.proofs.Common.{arith}
use Rattle.std.proofs.lemmas.Grind.{common_steps}
use Rattle.std.proofs.lemmas.Bool.Decides.{nat_tests}
use Rattle.plan_record.specs.Record.{formed_use}
use Rattle.plan_record.proofs.RecordLaws.{formed_use-is}
use Rattle.plan_record.proofs.formed_use.Goals as goal

pub returns-then-n-le-PART : goal.returns-then-n-le-PART
returns-then-n-le-PART c = grind (arith, formed_use-is)

pub returns-else-n-le-PART : goal.returns-else-n-le-PART
unfolding formed_use
returns-else-n-le-PART c = grind (arith, common_steps, nat_tests)
