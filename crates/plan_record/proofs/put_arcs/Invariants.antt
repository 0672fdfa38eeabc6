-- Invariant: the first j arc numbers stand in the record, and all else as it stood at the start. A turn stores the next right behind them.
use Rattle.std.proofs.Common.{◌≡◌, ◌*◌}
use Rattle.plan_record.specs.Record.{record_bytes}
use Rattle.plan_record.proofs.StoreLaws.{stored_to}
use Rattle.plan_record.proofs.put_arcs.Given as goal

abbrev pub invariant-loop-j : goal.invariant-loop-j
invariant-loop-j l = l.file ≡ stored_to l.fn.file (l.i * record_bytes) l.arcs l.j
