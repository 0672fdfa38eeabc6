use Rattle.std.proofs.Common.{◌≡◌, ◌<◌, ◌≤◌, ◌-◌, ℕ, length, get_or}
use Rattle.test_draw.specs.Held.{closure_byte}
use Rattle.test_draw.proofs.lent.closures.Given as goal

abbrev pub invariant-loop-i : goal.invariant-loop-i
invariant-loop-i l = record {
  size : length l.closed ≡ 32;
  before : (k : ℕ) → k < 8 → get_or l.closed k 0 ≡ 85;
  lent : (k : ℕ) → 8 ≤ k → k < l.i → get_or l.closed k 0 ≡ closure_byte l.case (k - 8);
}
