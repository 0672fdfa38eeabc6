-- A digit to the base 256 fits a byte, and a store leaves the length, so each index lies below it. The four stores, one over the
-- other, are what `put 4` computes to, but for `at + 0` and a division by one.
use native.Mathlib.Nat.{add-zero, div-one}
use native.Mathlib.Omega.{arith}
use lib.ListN.{length-set}
use borrow.Author.Rules.{rules}
use Rattle.words.specs.Number.{put}
use Rattle.words.proofs.number.write32.Statement.{statement}
use Rattle.words.proofs.number.write32.Tie as tie

pub write32_spec : {M : Type 1} → statement M
unfolding put
write32_spec =
    tie.close
    (tie.spec
    (λ c. search rules)
    (λ c. search rules)
    (λ c. search rules)
    (λ c. search rules)
    (λ c. simp length-set (omega arith))
    (λ c. search rules)
    (λ c. search rules)
    (λ c. simp length-set (omega arith))
    (λ c. search rules)
    (λ c. search rules)
    (λ c. simp length-set (omega arith))
    (λ c. search rules)
    (λ c. simp (add-zero, div-one)))
