-- The reader after a `c`.
use Rattle.std.proofs.Common.{ap, ◌∙◌, false}
use Rattle.road_file.specs.Reader.{fed_by}
use Rattle.desk_feed.specs.declared.Taken.{Taken}
use Rattle.desk_feed.proofs.begin.Goals as goal

pub returns : goal.returns
returns c = ap {B = Taken} (λ r. record { first = 0; started = false; reader = r; sized = 0 }) (c.feed.ensures ∙ ap (λ r. fed_by r 99) c.begin.ensures)
