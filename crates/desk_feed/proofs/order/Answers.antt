-- One after the other.
use Rattle.std.proofs.Common.{ap, ◌∙◌}
use Rattle.road_fill.specs.Filled.{cleared}
use Rattle.desk_feed.proofs.order.Goals as goal

pub returns : goal.returns
returns c = c.clear.ensures ∙ ap (cleared _) c.sort.ensures
