-- Each rank with which there is hope is chosen next, and searched from. The invariant: the search from rank i on with the best so far makes the whole. The measure of the
-- recursion is the number of ranks still to choose.
use Rattle.std.proofs.Common.{◌-◌, length}
use Rattle.near_choice.specs.Choosing.{Turning}
use Rattle.near_choice.proofs.+seek.Given as goal

abbrev pub decreases-seek : goal.decreases-seek
decreases-seek l = length l.ranks.now - l.depth

abbrev pub invariant-loop-i : goal.invariant-loop-i
invariant-loop-i l = Turning l.table l.nodes l.w l.n l.list l.fn.room l.fn.ranks l.fn.best l.depth l.from l.fn.known l.i l.room l.ranks l.best l.found
