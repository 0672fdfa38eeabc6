-- The part from `at` to the end of the digits lies in the buffer, as is required. It is lent, and comes back as the digits, with the whole around it as it
-- was.
use Prim.Native.Nat.{◌+◌}
use native.Mathlib.Omega.{arith}
use borrow.Author.Rules.{rules}
use Rattle.words.proofs.PartLaws.{back}
use Rattle.numerals.proofs.put.Statement.{statement}
use Rattle.numerals.proofs.put.Tie as tie

returns : tie.Need-returns
returns c =
    let f = c.before.before in
    let d = f.before.before in
    let s = d.before.before in
    let e = s.args.at + d.digit_count.result in
    (omega arith, cc (back s.args.at e s.args.out.now f.fill_digits.new.s (omega arith)))

pub put_spec : {M : Type 1} → statement M
put_spec =
    tie.close
    (tie.spec
    (λ c κs. search rules)
    (λ c. search rules)
    (λ c. search rules)
    (λ c. search rules)
    (λ c. search rules)
    (λ c κs. search rules)
    (λ c. search rules)
    returns)
