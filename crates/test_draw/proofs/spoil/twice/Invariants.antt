use Rattle.std.proofs.Common.{◌≡◌, ◌≤◌, ℕ}
use Rattle.test_draw.specs.Written.{written}
use Rattle.test_draw.proofs.spoil.twice.Given as goal

abbrev pub invariant-loop-kind : goal.invariant-loop-kind
invariant-loop-kind g l = (at : ℕ → ℕ) × (value : ℕ → ℕ) × (n : ℕ)
    × (n ≤ l.kind-index)
    × (l.case ≡ written at value n l.initial.case)
