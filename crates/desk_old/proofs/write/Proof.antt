-- The road file is put where the query line ended: together one text, by `appended-more`. A line of five numbers and the lines of 4,096 arcs fit in the buffer.
use mathlib.Core.List.{[], ◌∷◌}
use native.Mathlib.Omega.{arith}
use borrow.Author.Rules.{rules}
use Rattle.text_put.proofs.AppendLaws.{appended-more}
use Rattle.desk_output.proofs.TextLaws.{route-length}
use Rattle.road_write.proofs.TextLaws.{text-most}
use Rattle.desk_old.proofs.write.Statement.{statement}
use Rattle.desk_old.proofs.write.Tie as tie

abbrev start : tie.After-route-at → tie.Start
start r = r.before.before.before.before.before.before.before.before

put-requires : tie.Need-put-requires
put-requires c κs =
    let r = c.before.before.before in
    let s = start r in
    let x = s.args.x in
    omega (arith, s.requires.0, s.requires.1, r.route-at.ensures.place, route-length x.s x.goal x.k (x.a ∷ x.b ∷ []), text-most s.args.table.now x.nodes)

returns : tie.Need-returns
returns c =
    let p = c in
    let r = p in
    appended-more r.args.out.now 0 _ _ _ _ _ _ r.route-at.ensures p.put.ensures (omega arith)

pub write_spec : {M : Type 1} → statement M
write_spec =
    tie.close
    (tie.spec
    (λ c. search rules)
    (λ c. search rules)
    (λ c. search rules)
    (λ c. search rules)
    (λ c κs. search rules)
    put-requires
    (λ c. search rules)
    returns)
