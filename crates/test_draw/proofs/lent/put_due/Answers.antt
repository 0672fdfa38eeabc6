use Rattle.std.proofs.Common.{sym, below_more, arith}
use Rattle.test_cells.specs.Bounded.{sum}
use Rattle.test_draw.proofs.WrittenLaws.{written_none, but, but_there, but_below, written_next}
use Rattle.test_draw.proofs.lent.put_due.Goals as goal

pub loop-i-init : goal.loop-i-init
loop-i-init g c =
    (λ k. 0, λ k h. absurd (omega arith), sym (written_none (λ k. sum c.add-first.result k) (λ k. 0) c.put_junk.new.due))

pub loop-i-preserved : goal.loop-i-preserved
loop-i-preserved g c = (
  but c.loop-i.invariant.0 c.loop-i.i c.word.result,
  below_more _ _
      (λ k h. rw (but_below c.loop-i.invariant.0 c.loop-i.i c.word.result k h) (c.loop-i.invariant.1 k h))
      (rw (but_there c.loop-i.invariant.0 c.loop-i.i c.word.result) c.word.ensures),
  written_next (λ k. sum c.add-first.result k) c.loop-i.invariant.0 c.loop-i.i c.add.result c.word.result _ _ _ c.loop-i.invariant.2 c.add.ensures c.put.ensures,
)
