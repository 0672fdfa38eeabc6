use Rattle.std.proofs.Common.{◌≡◌, ◌<◌, ℕ, get_or}
use Rattle.test_draw.proofs.drawn.Table.put.Given as goal

abbrev pub invariant-loop-i : goal.invariant-loop-i
invariant-loop-i l = (k : ℕ) → k < 13 → get_or l.case k 0 ≡ get_or l.initial.case k 0
