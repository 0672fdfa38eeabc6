-- The query leaves what the ratios ask wherever it was not refused, and then the rows are the ratios of its answers. As many records count as lent as the lesser of
-- the two numbers says.
use Prim.Native.Nat.{ℕ}
use borrow.Author.Rules.{rules}
use Rattle.query.specs.Query.{Input, input_closed}
use Rattle.query_ratios.proofs.AnsweredLaws.{cored-answered, rated, rated-same}
use Rattle.query_ratios.proofs.core_ratios.Statement.{statement}
use Rattle.query_ratios.proofs.core_ratios.Tie as tie

abbrev queried : tie.After-sums-1 → tie.After-core_closed-g
queried c = c.before.before.before.before.before

abbrev lesser : tie.After-sums-1 → tie.After-least-few
lesser c = (queried c).before.before.before

-- the input, with so many records lent
abbrev given : tie.After-sums-1 → ℕ → Input
given c n =
    let s = (lesser c).before.before.before.before.before in
    input_closed s.args.table.now s.args.nodes s.args.s s.args.goal s.args.k s.args.a s.args.b
    s.args.closed.now s.args.labels.now s.args.area.now n

rows-of-requires : tie.Need-rows_of-requires
rows-of-requires c κs = cored-answered (given c (lesser c).least-few.result) (queried c).core_closed-g.result _ _ (queried c).core_closed-g.ensures

returns : tie.Need-returns
returns c =
    let o = c.before in
    rated-same (given o) (lesser o).least-few.result _ _ _ _ (lesser o).least-few.ensures
    (rated (given o (lesser o).least-few.result) (queried o).core_closed-g.result _ _ (queried o).core_closed-g.ensures c.rows_of.result c.rows_of.ensures)

pub core_ratios_spec : {M : Type 1} → statement M
core_ratios_spec =
    tie.close
    (tie.spec
    (λ c κs. search rules)
    (λ c κs. search rules)
    rows-of-requires
    (λ c. search rules)
    (λ c. search rules)
    returns)
