-- The table itself is walked, by start node.
use Rattle.std.proofs.Common.{refl}
use Rattle.table.specs.Run.{run_start}
use Rattle.run_notes.specs.Noted.{start_by}
use Rattle.reach.proofs.ForwardLaws.{forward-begins, forward-ends}
use Rattle.reach.proofs.forward.search.Goals as goal

pub search-requires : goal.search-requires
unfolding run_start start_by
search-requires c =
    let t = c.args.table.now in (
      c.requires.0,
      refl,
      record {
        begins = λ u. forward-begins c.args.nodes t t c.args.closed.now u c.requires.0 refl;
        ends = λ u i lo. forward-ends c.args.nodes t t c.args.closed.now u i lo c.requires.0 refl;
      },
      c.requires.1,
      c.requires.2,
      c.requires.3,
      c.requires.4,
      c.requires.5,
      c.requires.5.at,
    )
