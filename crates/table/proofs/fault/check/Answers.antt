-- Where the size is right, the scan of the records decides.
use Rattle.std.proofs.Common.{sym, ◌∙◌}
use Rattle.table.specs.Fault.{table_fault}
use Rattle.table.proofs.FaultLaws.{size-right}
use Rattle.table.proofs.fault.check.Goals as goal

pub check_records-requires : goal.check_records-requires
check_records-requires c = (size-right _ _ (sym c.wrong_size.ensures ∙ c.if-wrong_size.false)).3

pub returns : goal.returns
unfolding table_fault
returns c = rw (sym c.wrong_size.ensures ∙ c.if-wrong_size.false) c.check_records.ensures
