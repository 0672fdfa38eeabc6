-- The arc, and its place behind it.
use borrow.Author.Rules.{rules}
use Rattle.road_fill.proofs.fill.place.Statement.{statement}
use Rattle.road_fill.proofs.fill.place.Tie as tie

pub place_spec : {M : Type 1} → statement M
place_spec = tie.close (tie.spec (λ c κs. search rules) (λ c. search rules) (λ c. search rules) (λ c κs. search rules) (λ c. search rules) (λ c. cc))
