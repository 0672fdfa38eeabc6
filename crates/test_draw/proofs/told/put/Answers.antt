use Rattle.std.proofs.Common.{sym, ap, ◌∙◌, cond, ltb}
use Rattle.test_cells.specs.Bounded.{sum}
use Rattle.test_draw.specs.Told.{sums_number}
use Rattle.test_draw.proofs.WrittenLaws.{written_none, written_step}
use Rattle.test_draw.proofs.told.put.Goals as goal

pub loop-i-init : goal.loop-i-init
loop-i-init c =
    sym (written_none (λ i. sum c.args.sums i) (λ i. cond (ltb i c.mul-written.result) (sums_number c.args.got.sums i) 0) c.args.answer.now)

pub loop-i-preserved : goal.loop-i-preserved
loop-i-preserved c =
    written_step (λ i. sum c.args.sums i) (λ i. cond (ltb i c.mul-written.result) (sums_number c.args.got.sums i) 0) _ _ _ _ _ _
    c.loop-i.invariant
    c.add.ensures
    (c.pick-number.ensures ∙ ap (λ x. cond (ltb c.loop-i.i c.mul-written.result) x 0) c.of_sums.ensures)
    c.put.ensures
