-- The zeros behind the records in use: `moved-zeros`.
use mathlib.Core.Path.{◌∙◌}
use Rattle.std.proofs.Common.{arith}
use Rattle.plan_change.proofs.CollectLaws.{moved-within, moved-zeros}
use Rattle.plan_change.proofs.collect_all.Goals as goal

pub overflow_mul-from : goal.overflow_mul-from
overflow_mul-from c = omega (arith, moved-within c.args.file.now c.move_all-from.result c.move_all-from.new.file c.move_all-from.ensures)

pub fill_part-requires : goal.fill_part-requires
fill_part-requires c = (moved-within c.args.file.now c.move_all-from.result c.move_all-from.new.file c.move_all-from.ensures, omega arith)

pub returns : goal.returns
returns c = c.fill_part.ensures ∙ moved-zeros c.args.file.now c.move_all-from.result c.move_all-from.new.file c.move_all-from.ensures c.requires
