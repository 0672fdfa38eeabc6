-- A half that has none is left out (`block_half`); what cannot be halved is one number (`block_one`).
use Rattle.std.proofs.Common.{inl, inr, arith}
use Rattle.search_tree.proofs.BlockLaws.{block_half, block_one}
use Rattle.search_tree.proofs.narrow.Goals as goal

pub loop-s-preserved : goal.loop-s-preserved
loop-s-preserved c =
    let v = c.loop-s.invariant in
    record { block = block_half v.block c.loop-s-test.true; inside = omega arith; all = inr (omega arith) }

pub returns : goal.returns
returns c =
    let v = c.loop-s.invariant in
    record { block = v.block; inside = v.inside; all = v.all; half = inl (block_one v.block c.loop-s-test.false) }
