-- The arc's end is a node, so it has a record in the room, and a distance of at most `far`: the sum fits.
use Prim.Native.Nat.{◌<◌}
use native.Mathlib.Omega.{arith}
use borrow.Author.Rules.{rules}
use Rattle.table.proofs.FaultLaws.{all-good}
use Rattle.first_routes.specs.Firsts.{back}
use Rattle.first_routes.proofs.OutLaws.{dist-at}
use Rattle.first_routes.proofs.pick.nearer.Statement.{statement}
use Rattle.first_routes.proofs.pick.nearer.Tie as tie

abbrev start : tie.After-to_of-w → tie.Start
start c = c.before.before.before

end_below : (c : tie.After-to_of-w) → c.to_of-w.result < (start c).args.nodes
end_below c = let s = start c in omega (arith, c.to_of-w.ensures, (all-good s.args.nodes s.args.table.now s.requires.0.no-fault s.args.arc s.requires.2).end)

long-requires : tie.Need-long-rest-requires
long-requires c κs = (omega (arith, end_below c, (start c).requires.0.roomy.enough), omega arith)

add-result : tie.Need-overflow_add-result
add-result c =
    let e = c.before.before.before in
    let s = start e in
    let w = e.to_of-w.result in
    omega (arith, c.long-rest.ensures, s.requires.0.most w, dist-at back s.args.nodes s.args.room.now w (end_below e))

returns : tie.Need-returns
returns c = cc

pub nearer_spec : {M : Type 1} → statement M
nearer_spec =
    tie.close
    (tie.spec
    (λ c κs. search rules)
    (λ c. search rules)
    long-requires
    (λ c κs. search rules)
    (λ c κs. search rules)
    (λ c. search rules)
    add-result
    returns)
