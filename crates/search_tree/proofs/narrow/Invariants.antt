-- Invariant: s numbers from e on are a block, no larger than the one asked for, and have all of it that are below n.
use Rattle.std.proofs.Common.{◌≡◌, ◌⊎◌, ◌+◌, ◌≤◌}
use Rattle.search_tree.specs.Tree.{Block}
use Rattle.search_tree.proofs.narrow.Given as goal

abbrev pub invariant-loop-s : goal.invariant-loop-s
invariant-loop-s l = record { block : Block l.e l.s; inside : l.s ≤ l.size; all : (l.s ≡ l.size) ⊎ (l.n ≤ l.e + l.s) }

abbrev pub decreases-loop-s : goal.decreases-loop-s
decreases-loop-s l = l.s
