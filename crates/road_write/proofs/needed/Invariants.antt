-- The loop adds one line's bytes more. Invariant: `bytes` is the length of the first line and of the lines of the first i arcs. At most 262,144 lines of at most 65
-- bytes do not overflow; at the end the first i arcs are all.
use Rattle.std.proofs.Common.{◌≡◌, ◌+◌, length}
use Rattle.table.specs.Table.{records}
use Rattle.road_write.specs.Text.{sizes_text, ended}
use Rattle.road_write.proofs.TextLaws.{lines_to}
use Rattle.road_write.proofs.needed.Given as goal

abbrev pub invariant-loop-i : goal.invariant-loop-i
invariant-loop-i l = l.bytes ≡ length (ended (sizes_text l.nodes (records l.table))) + length (lines_to l.table l.i)
