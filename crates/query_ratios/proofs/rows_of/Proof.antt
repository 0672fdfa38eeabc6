-- Where nothing is to be written nothing is promised of the rows; else they are those of all rounds, which were answered as `all` asks.
use borrow.Author.Rules.{rules}
use Rattle.query_ratios.proofs.rows_of.Statement.{statement}
use Rattle.query_ratios.proofs.rows_of.Tie as tie

abbrev start : tie.After-sums-1 → tie.Start
start c = c.before.before.before.before.before

all-requires : tie.Need-all-requires
all-requires c κs = (start c).requires c.if-g-eq0.false

pub rows_of_spec : {M : Type 1} → statement M
rows_of_spec =
    tie.close
    (tie.spec
    (λ c n. absurd (n c.if-g-eq0.true))
    all-requires
    (λ c. search rules))
