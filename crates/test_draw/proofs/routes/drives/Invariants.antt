use Rattle.std.proofs.Common.{◌≡◌, ◌<◌, ℕ}
use Rattle.test_draw.specs.Held.{step_of}
use Rattle.test_draw.proofs.routes.drives.Given as goal

abbrev pub invariant-loop-j : goal.invariant-loop-j
invariant-loop-j l = (k : ℕ) → k < l.j → step_of l.rows l.row k ≡ l.number → ⊥
