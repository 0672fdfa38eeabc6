-- Each index lies below the length by what is required. The result is the two bytes with their weights, and `num 2` computes to
-- the same sum, but for `at + 0`.
use native.Mathlib.Nat.{add-zero}
use native.Mathlib.Omega.{arith}
use borrow.Author.Rules.{rules}
use Rattle.words.specs.Number.{num}
use Rattle.words.proofs.number.read16.Statement.{statement}
use Rattle.words.proofs.number.read16.Tie as tie

pub read16_spec : {M : Type 1} → statement M
unfolding num
read16_spec =
    tie.close
    (tie.spec (λ c. search rules) (λ c. search rules) (λ c. search rules) (λ c κs. search rules) (λ c. simp add-zero (omega arith)))
