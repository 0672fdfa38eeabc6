-- A buffer too small for some text is left as it is; any other one has room for the text and gets it.
use mathlib.Core.Path.{refl}
use native.Mathlib.Omega.{arith}
use borrow.Author.Rules.{rules}
use Rattle.desk_old.proofs.turn.Statement.{statement}
use Rattle.desk_old.proofs.turn.Tie as tie

returns : tie.Need-returns-then-out-lt-MOST_TURNED
returns c = record { due = λ h. absurd (omega (arith, c.if-out-lt-MOST_TURNED.true)); small = λ h. (refl, refl) }

returns-2 : tie.Need-returns
returns-2 c = record { due = λ h. c.turned.ensures; small = λ h. absurd (omega (arith, c.if-out-lt-MOST_TURNED.false)) }

pub turn_spec : {M : Type 1} → statement M
turn_spec = tie.close (tie.spec returns (λ c κs. search rules) (λ c. search rules) returns-2)
