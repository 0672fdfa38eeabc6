-- `spread` asks `deeper` for the same number of arcs left, and `deeper` asks `spread` for one less:
-- the measures are twice the number for `deeper`, and one more for `spread`.
use Rattle.std.proofs.Common.{◌+◌, ◌*◌}
use Rattle.test_listing.proofs.chains.+deeper_spread.Given as goal

abbrev pub decreases-deeper : goal.decreases-deeper
decreases-deeper l = 2 * l.left

abbrev pub decreases-spread : goal.decreases-spread
decreases-spread l = 2 * l.left + 1
