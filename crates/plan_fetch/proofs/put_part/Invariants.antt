-- A copy, arc after arc. Invariant: the first j arcs of the record stand in their place, and the rest is as it was (`paste`).
use Rattle.std.proofs.Common.{◌≡◌, ◌+◌, ◌*◌}
use Rattle.std.proofs.Math.Seq.{paste}
use Rattle.plan_record.specs.Record.{rank_at, part_at, part_arcs, arcs_at}
use Rattle.plan_fetch.proofs.put_part.Given as goal

abbrev pub invariant-loop-j : goal.invariant-loop-j
invariant-loop-j l = l.slots ≡ paste l.fn.slots (rank_at l.file l.i * l.width + part_at l.file l.i * part_arcs) (arcs_at l.file l.i) l.j
