-- The digits of w, which are yet to be written, and then what stands in s from k on, are the digits of v. A turn writes the last digit of w;
-- at the end w is the one digit left, and k is 1.
use Rattle.numerals.proofs.WriteLaws.{Left}
use Rattle.numerals.proofs.fill_digits.Given as goal

abbrev pub invariant-loop-k : goal.invariant-loop-k
invariant-loop-k l = Left l.s l.v l.w l.k
