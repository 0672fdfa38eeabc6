-- The second table is walked, by end node, over the net turned round.
use Rattle.distances.specs.Turned.{reversed}
use Rattle.second.specs.Lookup.{coming_start}
use Rattle.run_notes.specs.Noted.{start_by}
use Rattle.reach.specs.Way.{turned_arcs}
use Rattle.reach.proofs.BackwardLaws.{backward-begins, backward-ends}
use Rattle.reach.proofs.backward.search.Goals as goal

pub search-requires : goal.search-requires
unfolding coming_start start_by
search-requires c =
    let t = c.args.table.now in
    let w = c.args.second.now in (
      c.requires.0,
      c.requires.1,
      record {
        begins = λ u. backward-begins c.args.nodes t w c.args.closed.now u c.requires.0 c.requires.1;
        ends = λ u i lo. backward-ends c.args.nodes t w c.args.closed.now u i lo c.requires.0 c.requires.1;
      },
      c.requires.2,
      c.requires.3,
      c.requires.4,
      c.requires.5,
      c.requires.6,
      c.requires.7.at,
    )

pub returns : goal.returns
unfolding reversed turned_arcs
returns c = c.search.ensures
