-- Both lengths are at most the most that a route can have, and what is shared is no longer than either.
use native.Mathlib.Omega.{arith}
use borrow.Author.Rules.{rules}
use Rattle.route_apart.proofs.ApartLaws.{marked-short, route-most, apart-made}
use Rattle.route_apart.proofs.apart.Statement.{statement}
use Rattle.route_apart.proofs.apart.Tie as tie

abbrev start : tie.After-length → tie.Start
start c = c.before.before.before.before

add-both : tie.Need-overflow_add-both
add-both c =
    let s = start c in
    omega (arith, route-most s.args.table.now s.args.nodes s.args.slot.now s.requires.0 s.requires.2, c.length.ensures, s.requires.5)

sub-t9 : tie.Need-overflow_sub-result
sub-t9 c =
    let s = start c.before in
    omega (arith, marked-short s.args.table.now s.args.room.now s.args.slot.now, c.shared-common.ensures, c.length.ensures, s.requires.4)

returns : tie.Need-returns
returns c =
    let s = start c.before in
    apart-made s.args.table.now s.args.room.now s.args.slot.now s.args.size c.length.result c.shared-common.result c.length.ensures c.shared-common.ensures

pub apart_spec : {M : Type 1} → statement M
apart_spec =
    tie.close
    (tie.spec
    (λ c κs. search rules)
    add-both
    (λ c κs. search rules)
    (λ c. search rules)
    sub-t9
    (λ c. search rules)
    returns)
