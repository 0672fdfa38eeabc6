-- What the reader is after the byte decides the rest.
use Rattle.std.proofs.Common.{ap, ap₂, ◌∙◌, true}
use Rattle.desk_feed.specs.declared.Taken.{Taken}
use Rattle.desk_feed.specs.Taken.{sized_by, stored_by, road_taken, road_stored}
use Rattle.desk_feed.proofs.road_byte.Goals as goal

pub returns : goal.returns
unfolding road_taken road_stored
returns c =
    let x = c.args.x in
    let e = c.feed-reader.ensures in (
      ap₂ {C = Taken} (λ r n. record { first = c.args.first; started = true; reader = r; sized = n }) e (c.sized_next.ensures ∙ ap (sized_by x.sized x.reader.begun) e),
      c.store.ensures ∙ ap (stored_by c.args.table.now x.reader.count) e,
    )
