-- Two stores.
use borrow.Author.Rules.{rules}
use Rattle.first_routes.proofs.walk.enter.Statement.{statement}
use Rattle.first_routes.proofs.walk.enter.Tie as tie

pub enter_spec : {M : Type 1} → statement M
enter_spec = tie.close (tie.spec (λ c κs. search rules) (λ c κs. search rules) (λ c. search rules) (λ c. cc))
