-- A turn is `left-less`; after the last there is one place for the one digit left (`left-one`, `left-last`).
use Rattle.std.proofs.Common.{arith}
use Rattle.numerals.proofs.DecimalLaws.{decimal-length}
use Rattle.numerals.proofs.WriteLaws.{left-less, left-one, left-last}
use Rattle.numerals.proofs.fill_digits.Goals as goal

pub loop-k-preserved : goal.loop-k-preserved
loop-k-preserved c = left-less _ _ _ _ c.loop-k.invariant (omega arith) (omega arith) (omega arith)

pub overflow_cast-s-2 : goal.overflow_cast-s-2
overflow_cast-s-2 c = omega (arith, left-one _ _ _ _ c.loop-k.invariant (omega arith) (omega arith))

pub overflow_add-s-2 : goal.overflow_add-s-2
overflow_add-s-2 c = omega (arith, left-one _ _ _ _ c.loop-k.invariant (omega arith) (omega arith))

pub bounds-s-0 : goal.bounds-s-0
bounds-s-0 c = omega (arith, decimal-length c.args.v)

pub returns : goal.returns
returns c = left-last _ _ _ _ c.loop-k.invariant (omega arith) (omega arith) (omega (arith, decimal-length c.args.v))
