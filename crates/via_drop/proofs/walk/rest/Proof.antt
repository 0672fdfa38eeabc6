-- A number that is known is what is left; else what the arc shares is taken off.
use mathlib.Core.Logic.{⊎_elim}
use borrow.Author.Rules.{rules}
use Rattle.via_drop.proofs.walk.rest.Statement.{statement}
use Rattle.via_drop.proofs.walk.rest.Tie as tie

returns : tie.Need-returns-then-known-ne-UNKNOWN
returns c = ⊎_elim (λ z. absurd (c.if-known-ne-UNKNOWN.true z)) (λ e. e) c.requires.5

pub rest_spec : {M : Type 1} → statement M
rest_spec = tie.close (tie.spec returns (λ c κs. search rules) (λ c. search rules) (λ c. search rules))
