-- Two numbers of 32 bits, the low one first, each within the slice by what is required. A number of 8 bytes is the one of its
-- lower 4 and, times 2 ^ 32, the one of its upper 4: `num-add`.
use native.Mathlib.Omega.{arith}
use borrow.Author.Rules.{rules}
use Rattle.words.proofs.NumberLaws.{num-add}
use Rattle.words.proofs.number.read64.Statement.{statement}
use Rattle.words.proofs.number.read64.Tie as tie

pub read64_spec : {M : Type 1} → statement M
read64_spec =
    tie.close (tie.spec (λ c κs. search rules) (λ c. search rules) (λ c κs. search rules) (λ c κs. search rules) (λ c. rw (num-add 4 4) (omega arith)))
