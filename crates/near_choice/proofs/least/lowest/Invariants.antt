-- The invariant: the fraction so far and the dissimilarities of the ranks that are left make the lowest of all.
use Rattle.std.proofs.Common.{◌≡◌, drop}
use Rattle.near_choice.specs.Choosing.{Few, lowest, aparts_by}
use Rattle.near_choice.proofs.least.lowest.Given as goal

abbrev pub invariant-loop-i : goal.invariant-loop-i
invariant-loop-i l = Few l.x × (lowest l.x (aparts_by l.table l.w l.list l.room l.size (drop l.i-index l.ranks)) ≡ lowest l.fn.least (aparts_by l.table l.w l.list l.room l.size l.ranks))
