-- The arc's end is a node, so it has a record in the room; the distance of v is at most `far`, so the sum fits. The two tests are the definition's.
use mathlib.Core.Path.{◌≡◌, sym, ap, ◌∙◌}
use Prim.Native.Nat.{◌+◌, ◌<◌}
use native.Mathlib.Omega.{arith}
use lib.Dec.{eqb}
use borrow.Author.Rules.{rules}
use Rattle.table.specs.Table.{len_at, to_at}
use Rattle.table.proofs.FaultLaws.{all-good}
use Rattle.working_room.specs.Field.{long_at}
use Rattle.first_routes.specs.Firsts.{forth, none, rank_in}
use Rattle.first_routes.proofs.OutLaws.{dist-at}
use Rattle.first_routes.proofs.WalkLaws.{leads-off, leads-by}
use Rattle.first_routes.proofs.walk.leads.Statement.{statement}
use Rattle.first_routes.proofs.walk.leads.Tie as tie

abbrev start : tie.After-to_of-w → tie.Start
start c = c.before.before.before

end_below : (c : tie.After-to_of-w) → c.to_of-w.result < (start c).args.nodes
end_below c = let s = start c in omega (arith, c.to_of-w.ensures, (all-good s.args.nodes s.args.table.now s.requires.0.no-fault s.args.arc s.requires.2).end)

-- what the first test compares
sum_is : (c : tie.After-length_of)
    → (c.long-near.result + c.length_of.result ≡ long_at 12 (start c.before.before.before).args.room.now (start c.before.before.before).args.v + len_at (start c.before.before.before).args.table.now (start c.before.before.before).args.arc)
    × (c.long-whole.result ≡ long_at 12 (start c.before.before.before).args.room.now (to_at (start c.before.before.before).args.table.now (start c.before.before.before).args.arc))
sum_is c =
    let e = c.before.before.before in
    (omega (arith, c.long-near.ensures, c.length_of.ensures), c.long-whole.ensures ∙ ap (long_at 12 (start e).args.room.now) e.to_of-w.ensures)

add-if1 : tie.Need-overflow_add-near
add-if1 c =
    let s = start c.before.before.before in
    omega (arith, c.long-near.ensures, s.requires.0.most s.args.v, dist-at forth s.args.nodes s.args.room.now s.args.v s.requires.1)

returns : tie.Need-returns-then-near-length_of
returns c =
    let l = c.before in
    let s = start l.before.before.before in
    sym (leads-off s.args.table.now s.args.room.now s.args.v s.args.arc (λ e. omega (arith, e, (sum_is l).0, (sum_is l).1, c.if-near-length_of.true)))

returns-2 : tie.Need-returns
returns-2 c =
    let l = c.before.before in
    let e = l.before.before.before in
    let s = start e in
    ap (λ k. eqb k none) (c.word.ensures ∙ ap (rank_in s.args.room.now) e.to_of-w.ensures)
    ∙ sym (leads-by s.args.table.now s.args.room.now s.args.v s.args.arc (omega (arith, (sum_is l).0, (sum_is l).1, c.if-near-length_of.false)))

pub leads_spec : {M : Type 1} → statement M
leads_spec =
    tie.close
    (tie.spec
    (λ c κs. search rules)
    (λ c κs. search rules)
    (λ c. search rules)
    (λ c κs. (omega (arith, end_below c.before, (start c.before).requires.0.roomy.enough), omega arith))
    (λ c κs. search rules)
    (λ c. search rules)
    add-if1
    returns
    (λ c. search rules)
    (λ c κs. let e = c.before.before.before.before in (omega (arith, end_below e, (start e).requires.0.roomy.enough), omega arith))
    returns-2)
