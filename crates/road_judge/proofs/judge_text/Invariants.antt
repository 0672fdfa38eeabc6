-- After i bytes the reader and the pick are those of what was fed by the first i; at the end that is the text.
use Rattle.std.proofs.Common.{◌≡◌}
use Rattle.road_file.specs.Reader.{reader_of}
use Rattle.road_file.proofs.GrowLaws.{Begun, fed_to}
use Rattle.road_judge.specs.Judged.{pick_of, pick_in}
use Rattle.road_judge.proofs.judge_text.Given as goal

abbrev pub invariant-loop-byte : goal.invariant-loop-byte
invariant-loop-byte l =
    (l.reader ≡ reader_of (fed_to l.text l.byte-index)) × (pick_of l.faulty ≡ pick_in (fed_to l.text l.byte-index)) × Begun (fed_to l.text l.byte-index).said
