-- The two tests are those of the definition, one where the number is used and one where it is not.
use Rattle.std.proofs.Common.{arith}
use borrow.Author.Tests.{lt-ltb, le-ltb}
use Rattle.plan_record.specs.Record.{used_at, formed_arc}
use Rattle.plan_record.proofs.formed_arc.Goals as goal

pub returns-then-j-used : goal.returns-then-j-used
unfolding formed_arc
returns-then-j-used c = rw (lt-ltb c.args.j (used_at c.args.file.now c.args.i) (omega arith)) (cc)

pub returns-else-j-used : goal.returns-else-j-used
unfolding formed_arc
returns-else-j-used c = rw (le-ltb c.args.j (used_at c.args.file.now c.args.i) (omega arith)) (cc)
