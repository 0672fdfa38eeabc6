-- The lines of the arcs are put where the first line ended: together one text, by `appended-more`, and that is the whole, by `text-parts`. Its length is the sum
-- of the two, so each has its room.
use native.Mathlib.Omega.{arith}
use borrow.Author.Rules.{rules}
use Rattle.text_put.proofs.AppendLaws.{appended-more}
use Rattle.road_write.proofs.TextLaws.{text-parts, text-length}
use Rattle.road_write.proofs.put.Statement.{statement}
use Rattle.road_write.proofs.put.Tie as tie

abbrev start : tie.After-sizes-first → tie.Start
start x = x.before.before.before.before

lines-requires : tie.Need-lines-requires
lines-requires c κs =
    let x = c in
    omega (arith, x.sizes-first.ensures.place, text-length x.args.table.now x.args.nodes)

returns : tie.Need-returns
returns c =
    let y = c in
    let x = y.before.before.before.before.before.before in
    let s = start x in
    rw (← text-parts s.args.table.now s.args.nodes)
    (appended-more s.args.text.now s.args.at _ _ _ _ _ _ x.sizes-first.ensures y.lines.ensures (omega arith))

pub put_spec : {M : Type 1} → statement M
put_spec =
    tie.close
    (tie.spec
    (λ c κs. let s = c in omega (arith, text-length s.args.table.now s.args.nodes))
    lines-requires
    (λ c. search rules)
    returns)
