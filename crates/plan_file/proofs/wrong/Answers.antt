-- The two tests are those of the definition, in its order.
use mathlib.Core.Path.{sym, ◌∙◌}
use borrow.Author.Tests.{ne_eqb}
use Rattle.std.proofs.Common.{◌%◌, length}
use Rattle.plan_record.specs.Record.{record_bytes}
use Rattle.plan_file.proofs.FileLaws.{wrong-length, wrong-records}
use Rattle.plan_file.proofs.wrong.Goals as goal

pub returns-then-file-ne0 : goal.returns-then-file-ne0
returns-then-file-ne0 c = rw (ne_eqb (length c.args.file.now % record_bytes) 0 c.if-file-ne0.true) (sym (wrong-length c.args.file.now c.if-file-ne0.true))

pub returns-else-file-ne0 : goal.returns-else-file-ne0
returns-else-file-ne0 c = c.wrong_records.ensures ∙ sym (wrong-records c.args.file.now c.if-file-ne0.false)
