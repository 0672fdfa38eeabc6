-- The two sides of the test.
use borrow.Author.Rules.{rules}
use borrow.Author.Tests.{lt-ltb, le-ltb}
use Rattle.numerals.specs.Decimal.{most_number}
use Rattle.road_file.specs.File.{next_line}
use Rattle.road_file.proofs.next_line.Statement.{statement}
use Rattle.road_file.proofs.next_line.Tie as tie

pub next_line_spec : {M : Type 1} → statement M
unfolding next_line
next_line_spec =
    tie.close
    (tie.spec
    (λ c. search rules)
    (λ c. rw (lt-ltb c.before.args.lines most_number c.if-lines-lt-MOST.true))
    (λ c. rw (le-ltb c.before.args.lines most_number c.if-lines-lt-MOST.false)))
