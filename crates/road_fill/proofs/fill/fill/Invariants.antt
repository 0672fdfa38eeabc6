-- After i bytes the table holds the arcs of the first i in front.
use Rattle.std.proofs.Common.{◌≡◌}
use Rattle.road_file.specs.Reader.{reader_of}
use Rattle.road_file.proofs.GrowLaws.{fed_to}
use Rattle.road_fill.specs.Filled.{filled}
use Rattle.road_fill.proofs.fill.fill.Given as goal

abbrev pub invariant-loop-byte : goal.invariant-loop-byte
invariant-loop-byte l =
    (l.r ≡ reader_of (fed_to l.text l.byte-index)) × (l.table ≡ filled (fed_to l.text l.byte-index).said.arcs l.initial.table)
