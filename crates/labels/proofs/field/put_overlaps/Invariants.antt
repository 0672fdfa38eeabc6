-- The numbers are put in order: the first r of them stand in their places over the bytes as they were.
use Rattle.std.proofs.Common.{◌≡◌, ◌+◌, ◌*◌, take}
use Rattle.labels.specs.Field.{label_bytes, head_bytes, puts}
use Rattle.labels.proofs.field.put_overlaps.Given as goal

abbrev pub invariant-loop-r : goal.invariant-loop-r
invariant-loop-r l = l.labels ≡ puts l.initial.labels (l.label * label_bytes + head_bytes) (take l.r l.overlaps)
