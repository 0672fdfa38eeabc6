-- The overlaps are looked at in order: those from the j-th on give what all give.
use Rattle.std.proofs.Common.{◌≡◌, ℕ, Bool, ◌*◌, List, length, get_or}
use lib.Dec.{leb}
use Rattle.lists.specs.Tests.{every}
use Rattle.lists.proofs.LoopLaws.{rest}
use Rattle.search_trial.specs.Trial.{within_each}
use Rattle.search_trial.proofs.within.Given as goal

abbrev pub test : ℕ → ℕ → List ℕ → List ℕ → ℕ → Bool
test a b lens own j = leb (b * get_or own j 0) (a * get_or lens j 0)

abbrev pub invariant-loop-j : goal.invariant-loop-j
invariant-loop-j l = every (test l.above l.below l.lens l.own) (rest (length l.own) l.j) ≡ within_each l.above l.below l.lens l.own
