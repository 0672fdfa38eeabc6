-- The walk is written, and the words behind it are filled.
use Rattle.std.proofs.Common.{ℕ, List, ◌-◌, ◌≤◌, length, ap, ◌∙◌, arith}
use Rattle.table.specs.Table.{arcs_of}
use Rattle.pair_walks.specs.Way.{next_in, way_in}
use Rattle.pair_walks.proofs.FollowLaws.{follow-short, slot-filled}
use Rattle.pair_walks.proofs.walk.Goals as goal

short : (t : List ℕ) (nodes s to : ℕ) (l : List ℕ) (own other : ℕ) → length (way_in t nodes s to l own other) ≤ nodes - 1
unfolding way_in
short t nodes s to l own other = follow-short (arcs_of t) (next_in own other nodes l) to (nodes - 1) s

pub fill_part-requires : goal.fill_part-requires
fill_part-requires c =
    let fits = short c.args.table.now c.args.nodes c.args.s c.args.goal c.args.room.now c.args.own c.args.other in
    let way = c.follow-way.ensures in
    (omega (arith, way.0, ap (λ y. y.arcs) way.2, fits, c.requires.1), omega arith)

pub returns : goal.returns
returns c =
    let way = c.follow-way.ensures in (
      slot-filled _ _ _ c.follow-way.result.arcs (c.args.nodes - 1) (ap (λ y. y.arcs) way.2)
          (way.0 ∙ c.requires.1) way.1 c.fill_part.ensures,
      way.2,
    )
