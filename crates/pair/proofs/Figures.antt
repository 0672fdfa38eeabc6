-- The least totals of small tables, and distances on T, computed.
use mathlib.Core.Path.{◌≡◌, refl}
use mathlib.Core.Option.{some}
use Rattle.net.specs.Net.{plain}
use Rattle.net.specs.Figures.{T}
use Rattle.pair.specs.Pair.{least_total}
use Rattle.distances.specs.Turned.{reversed}
use Rattle.distances.specs.Distance.{distance}
use Rattle.pair.specs.Figures.{shown, computed}

figures : computed ≡ shown
unfolding least_total
figures = refl

-- distances from node 0 and to node 3 on T
there : distance (plain 4 T) 0 2 ≡ some 3
unfolding distance
there = refl

back : distance (reversed (plain 4 T)) 3 0 ≡ some 4
unfolding distance reversed
back = refl
