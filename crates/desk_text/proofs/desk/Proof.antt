-- A buffer too small for some answer is left as it is, and nothing is written; any other one has room for the answer and gets it. The test that was made decides which of
-- the two cases of the contract is to be shown, and rules the other out.
use native.Mathlib.Omega.{arith}
use borrow.Author.Rules.{rules}
use mathlib.Core.Path.{refl}
use Rattle.desk_text.proofs.desk.Statement.{statement}
use Rattle.desk_text.proofs.desk.Tie as tie

returns : tie.Need-returns-then-out-lt-MOST_TEXT
returns c = record { due = λ h. absurd (omega (arith, c.if-out-lt-MOST_TEXT.true)); small = λ h. (refl, refl) }

returns-2 : tie.Need-returns
returns-2 c = record { due = λ h. c.answer.ensures; small = λ h. absurd (omega (arith, c.if-out-lt-MOST_TEXT.false)) }

pub desk_spec : {M : Type 1} → statement M
desk_spec = tie.close (tie.spec returns (λ c κs. search rules) (λ c. search rules) returns-2)
