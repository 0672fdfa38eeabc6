use Rattle.std.proofs.Common.{◌≡◌, ◌<◌, ℕ}
use Rattle.test_cells.specs.Bounded.{sum}
use Rattle.test_draw.specs.Written.{written}
use Rattle.test_draw.proofs.lent.put_due.Given as goal

abbrev pub invariant-loop-i : goal.invariant-loop-i
invariant-loop-i g l = (value : ℕ → ℕ)
    × ((k : ℕ) → k < l.i → goal.F-post g l.word k (value k))
    × (l.due ≡ written (λ k. sum l.first k) value l.i l.initial.due)
