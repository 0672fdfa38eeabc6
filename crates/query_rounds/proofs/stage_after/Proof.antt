-- The test is that of the definition.
use borrow.Author.Tests.{eq-eqb, ne_eqb}
use Rattle.query_rounds.proofs.stage_after.Statement.{statement}
use Rattle.query_rounds.proofs.stage_after.Tie as tie

pub stage_after_spec : {M : Type 1} → statement M
stage_after_spec = tie.close (tie.spec (λ c. rw (eq-eqb _ _ c.if-r-k.true)) (λ c. rw (ne_eqb _ _ c.if-r-k.false)))
