-- Record i of the second table has the next arc that is yet to be looked at, or another such as it is taken (`BackwardLaws`).
use Rattle.std.proofs.Common.{◌+◌, arith, refl}
use Rattle.distances.specs.Turned.{reversed}
use Rattle.second.specs.Second.{number_at}
use Rattle.reach.specs.Way.{turned_arcs}
use Rattle.reach.proofs.BackwardLaws.{goes_on, along-on, from_in, backward-bring}
use Rattle.reach.proofs.backward.ByEndArcs.look.Goals as goal

pub bring-requires : goal.bring-requires
bring-requires c =
    let at = c.requires.5 in
    let t = c.args.table.now in
    let w = c.args.walked.now in
    let run = goes_on c.args.nodes t w c.requires.0 c.requires.1 c.args.v c.args.i c.requires.3 c.requires.4 in
    let from = from_in c.args.nodes t w c.requires.0 c.requires.1 c.args.v _ refl c.args.i at.0 (number_at c.args.nodes t c.args.i) at.1 run refl in
    (c.requires.0, at.2.looking.stands, at.2.looking.queue, omega (arith, from, c.from_of-w.ensures), c.requires.2)

pub returns : goal.returns
unfolding reversed turned_arcs
returns c =
    let at = c.requires.5 in
    let t = c.args.table.now in
    let w = c.args.walked.now in
    let b = number_at c.args.nodes t c.args.i in
    let run = goes_on c.args.nodes t w c.requires.0 c.requires.1 c.args.v c.args.i c.requires.3 c.requires.4 in (
      b + 1,
      along-on c.args.nodes t w c.requires.0 c.requires.1 c.args.v _ refl c.args.i at.0 b at.1 run refl,
      backward-bring c.args.nodes t c.args.closed.now w c.requires.0 c.requires.1 c.args.v _ refl c.args.s c.args.x c.args.room.now c.args.room.now c.args.root c.args.d c.args.i at.0 at.1 at.2 run
          c.from_of-w.result c.length_of-len.result (c.args.d + c.length_of-len.result) c.from_of-w.ensures c.length_of-len.ensures refl c.bring.new.room c.bring.result c.bring.ensures,
    )
