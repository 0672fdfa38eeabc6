-- After i turns the first i records are cleared: the next store clears one record more, `cleared-step`. That the bytes
-- of the table at the start are bytes goes with it.
use Rattle.std.proofs.Common.{◌≡◌, ℕ, ◌<◌, get_or}
use Rattle.road_fill.specs.Filled.{cleared}
use Rattle.road_fill.proofs.clear.clear.Given as goal

abbrev pub invariant-loop-i : goal.invariant-loop-i
invariant-loop-i l = (l.table ≡ cleared l.i l.initial.table) × ((k : ℕ) → get_or l.initial.table k 0 < 256)
