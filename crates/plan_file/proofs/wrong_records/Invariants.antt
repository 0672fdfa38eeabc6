-- Invariant: no record before the i-th is wrong, and `Passed` holds of those before.
use Rattle.std.proofs.Common.{◌≡◌, ℕ, ◌<◌, false}
use Rattle.plan_file.specs.File.{wrong_at}
use Rattle.plan_file.specs.Pass.{Passed}
use Rattle.plan_file.proofs.wrong_records.Given as goal

abbrev pub invariant-loop-i : goal.invariant-loop-i
invariant-loop-i l = Passed l.file l.i l.top l.run × ((k : ℕ) → k < l.i → wrong_at l.file k ≡ false)
