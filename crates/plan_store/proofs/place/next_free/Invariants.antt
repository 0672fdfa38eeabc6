-- The records in order: the first free one from record i on is the first from `at` on.
use Rattle.std.proofs.Common.{◌≡◌}
use Rattle.plan_store.specs.Placing.{next_free}
use Rattle.plan_store.proofs.place.next_free.Given as goal

abbrev pub invariant-loop-i : goal.invariant-loop-i
invariant-loop-i l = next_free l.file l.i ≡ next_free l.file l.at
