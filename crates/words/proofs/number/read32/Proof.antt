-- Each index lies below the length by what is required. The result is the four bytes with their weights, and `num 4` computes to
-- the same sum, but for `at + 0`.
use native.Mathlib.Nat.{add-zero}
use native.Mathlib.Omega.{arith}
use borrow.Author.Rules.{rules}
use Rattle.words.specs.Number.{num}
use Rattle.words.proofs.number.read32.Statement.{statement}
use Rattle.words.proofs.number.read32.Tie as tie

pub read32_spec : {M : Type 1} → statement M
unfolding num
read32_spec =
    tie.close
    (tie.spec
    (λ c. search rules)
    (λ c. search rules)
    (λ c. search rules)
    (λ c. search rules)
    (λ c. search rules)
    (λ c. search rules)
    (λ c. search rules)
    (λ c κs. search rules)
    (λ c. simp add-zero (omega arith)))
