-- Two stores of 32 bits: what is left of v below 2 ^ 32 at `at`, and what stands above it 4 bytes on. The first leaves the length, so
-- the second has its room. A store of 8 bytes is these two: `put_two`.
use borrow.Author.Rules.{rules}
use Rattle.words.proofs.NumberLaws.{put_two}
use Rattle.words.proofs.number.write64.Statement.{statement}
use Rattle.words.proofs.number.write64.Tie as tie

pub write64_spec : {M : Type 1} → statement M
write64_spec =
    tie.close
    (tie.spec
    (λ c. search rules)
    (λ c κs. search rules)
    (λ c. search rules)
    (λ c. search rules)
    (λ c κs. search rules)
    (λ c. search rules)
    (λ c. rw (put_two 4 4) (cc)))
