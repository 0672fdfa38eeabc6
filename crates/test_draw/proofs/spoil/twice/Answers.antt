use Rattle.std.proofs.Common.{◌+◌, ◌∙◌, sym, arith}
use Rattle.test_draw.proofs.WrittenLaws.{written_none, but, written_then}
use Rattle.test_draw.proofs.spoil.twice.Goals.{in-Some, in_default}
use Rattle.test_draw.proofs.spoil.twice.Goals as goal

pub loop-kind-init : goal.loop-kind-init
loop-kind-init g c = (λ k. 0, λ k. 0, 0, omega arith, sym (written_none (λ k. 0) (λ k. 0) c.args.case.now))

pub loop-kind-preserved : goal.loop-kind-preserved
loop-kind-preserved g c =
    let at = c.loop-kind.invariant.0 in
    let value = c.loop-kind.invariant.1 in
    let n = c.loop-kind.invariant.2 in
    elim c.match-of_kind.branch [
      | in-Some w ↦ (
        but at n w.in-Some.wrong.cell,
        but value n w.in-Some.wrong.value,
        n + 1,
        omega (arith, c.loop-kind.invariant.3),
        written_then at value n w.in-Some.wrong.cell w.in-Some.wrong.value _ _ _ c.loop-kind.invariant.4 (w.case-is ∙ w.put.ensures),
      )
      | in_default w ↦ (at, value, n, omega (arith, c.loop-kind.invariant.3), w.case-is ∙ c.loop-kind.invariant.4)
    ]
