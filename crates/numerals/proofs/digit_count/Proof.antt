-- A turn takes one digit off w and counts it: the digits of w and those counted are the digits of v, and one more, since the count begins at
-- 1 for the digit that stands at the end. There are at most 20, so the count fits.
use mathlib.Core.Path.{◌≡◌, ap}
use Prim.Native.Nat.{◌+◌, ◌≤◌}
use native.Mathlib.Omega.{arith}
use borrow.Author.Rules.{rules}
use lib.ListN.{length, length-append}
use Rattle.numerals.specs.Decimal.{decimal}
use Rattle.numerals.proofs.DecimalLaws.{decimal-one, decimal-more, decimal-length}
use Rattle.numerals.proofs.digit_count.Statement.{statement}
use Rattle.numerals.proofs.digit_count.Tie as tie

abbrev invariant-loop-w : tie.invariant-loop-w
invariant-loop-w v k₀ w₀ k w = (w ≤ v) × (k + length (decimal w) ≡ 1 + length (decimal v))

abbrev decreases-loop-w : tie.decreases-loop-w
decreases-loop-w v k₀ w₀ k w = w

loop-again : tie.Need-loop-w-preserved invariant-loop-w decreases-loop-w
loop-again c =
    let w = c.before.loop-w.w in
    (omega arith, omega (arith, simp length-append at (ap length (decimal-more w (omega arith) (omega arith)))))

pub digit_count_spec : {M : Type 1} → statement M
digit_count_spec =
    tie.close (tie.spec invariant-loop-w decreases-loop-w (λ c. search rules) (λ c. omega (arith, decimal-length c.before.before.args.v)) (λ c. omega arith) loop-again (λ c. omega (arith, ap length (decimal-one c.before.loop-w.w (omega arith)))))
