-- After i bytes all that is kept is that of the first i.
use Rattle.std.proofs.Common.{◌≡◌, take}
use Rattle.desk_feed.specs.Taken.{state, state_from}
use Rattle.desk_feed.proofs.feed.Given as goal

abbrev pub invariant-loop-byte : goal.invariant-loop-byte
invariant-loop-byte l = state l.y l.first l.table ≡ state_from (state l.fn.x l.fn.first l.fn.table) (take l.byte-index l.part)
