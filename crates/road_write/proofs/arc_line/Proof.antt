-- The three numbers that are read are those of the arc, so the line written of them, with nodes counted from 1, is the arc's.
use mathlib.Core.Path.{◌≡◌, ap}
use Prim.Native.Nat.{◌+◌}
use native.Mathlib.Omega.{arith}
use borrow.Author.Rules.{rules}
use lib.ListN.{length}
use Rattle.table.specs.Table.{arc_at}
use Rattle.road_write.specs.Text.{line_text, arc_text, ended}
use Rattle.road_write.proofs.TextLaws.{line_as}
use Rattle.road_write.proofs.arc_line.Statement.{statement}
use Rattle.road_write.proofs.arc_line.Tie as tie

abbrev start : tie.After-length_of-len → tie.Start
start l = l.before.before.before.before.before

-- the line of the numbers that were read
same : (l : tie.After-length_of-len)
    → line_text (l.from_of.result + 1) (l.to_of.result + 1) l.length_of-len.result ≡ arc_text (arc_at l.args.table.now l.args.i)
same l = cc (l.from_of.ensures, l.to_of.ensures, l.length_of-len.ensures)

returns : tie.Need-returns
returns c =
    let x = c in
    line_as _ _ _ _ _ _ (same x.before.before.before.before) x.line.ensures

line-requires : tie.Need-line-requires
line-requires c κs = omega (arith, ap (λ z. length (ended z)) (same c.before))

pub arc_line_spec : {M : Type 1} → statement M
arc_line_spec =
    tie.close
    (tie.spec
    (λ c κs. search rules)
    (λ c. search rules)
    (λ c. search rules)
    (λ c κs. search rules)
    (λ c. search rules)
    (λ c. search rules)
    (λ c κs. search rules)
    (λ c. search rules)
    line-requires
    (λ c. search rules)
    returns)
