use Rattle.std.proofs.Common.{◌≡◌, ◌<◌, ◌≤◌, length, get_or}
use Rattle.test_draw.proofs.routes.grow.Given as goal

abbrev pub invariant-loop-arc : goal.invariant-loop-arc
invariant-loop-arc l = 3328 < length l.rows → 1 ≤ get_or l.initial.rows 3328 0 → get_or l.initial.rows 3328 0 ≤ 256
    → (1 ≤ get_or l.rows 3328 0) × (get_or l.rows 3328 0 ≤ 256) × (get_or l.rows 0 0 ≡ get_or l.initial.rows 0 0)
