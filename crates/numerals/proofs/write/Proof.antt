-- A number has at most 20 digits, so what is required has room for them.
use native.Mathlib.Omega.{arith}
use borrow.Author.Rules.{rules}
use Rattle.numerals.proofs.DecimalLaws.{decimal-length}
use Rattle.numerals.proofs.write.Statement.{statement}
use Rattle.numerals.proofs.write.Tie as tie

pub write_spec : {M : Type 1} → statement M
write_spec = tie.close (tie.spec (λ c κs. omega (arith, decimal-length c.before.before.args.v)) (λ c. search rules) (λ c. c.before.before.put.ensures))
