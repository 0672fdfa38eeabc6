-- The three numbers of an arc, each at its place in the record.
-- One stands behind the other, in the order in which the record is told.
use borrow.Author.Rules.{rules}
use Rattle.table.specs.Table.{put_arc}
use Rattle.table.proofs.arc.write.Statement.{statement}
use Rattle.table.proofs.arc.write.Tie as tie

pub write_spec : {M : Type 1} → statement M
unfolding put_arc
write_spec =
    tie.close
    (tie.spec
    (λ c. search rules)
    (λ c. search rules)
    (λ c κs. search rules)
    (λ c. search rules)
    (λ c. search rules)
    (λ c κs. search rules)
    (λ c. search rules)
    (λ c. search rules)
    (λ c κs. search rules)
    (λ c. search rules)
    (λ c. cc))
