-- After i bytes the reader and the rank are those of what was fed by the first i; at the end that is the text.
use Rattle.std.proofs.Common.{◌≡◌, ℕ}
use Rattle.road_order.specs.Lowest.{rank}
use Rattle.road_file.specs.Reader.{reader_of}
use Rattle.road_file.proofs.GrowLaws.{fed_to}
use Rattle.road_judge.specs.Judged.{pick_at}
use Rattle.road_judge.proofs.rank_text.Given as goal

abbrev pub invariant-loop-byte : goal.invariant-loop-byte
invariant-loop-byte l =
    (l.r ≡ reader_of (fed_to l.text l.byte-index)) × ((fault : ℕ) → l.n ≡ rank (pick_at fault l.place) (fed_to l.text l.byte-index).said.arcs)
