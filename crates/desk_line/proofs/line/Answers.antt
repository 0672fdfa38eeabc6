-- A turn reads the next number, or the line is malformed: the laws `line-..`.
use Rattle.std.proofs.Common.{arith, length, length-set}
use Rattle.std.proofs.Math.Nat.{sub-zero}
use Rattle.desk_line.proofs.LineLaws.{prepends, line-done, line-stop, line-within, line_step}
use Rattle.desk_line.proofs.line.Goals as goal

pub loop-i-init : goal.loop-i-init
unfolding prepends
loop-i-init c = (c.requires, rw sub-zero)

pub returns-in_err-number : goal.returns-in_err-number
returns-in_err-number c = (
  rw length-set c.loop-i.auto.into,
  rw c.from_residual.ensures (line-stop c.args.text.now (length c.args.into.now) c.loop-i.i c.loop-i.place c.loop-i.into _ c.loop-i.invariant.1
      c.mark_after.result c.mark_after.ensures c.loop-i-test.true c.in_err-number.ensures),
)

pub overflow_add-place : goal.overflow_add-place
overflow_add-place c =
    let x = c.in_ok-number.number in
    omega (
      arith,
      line-within c.args.text.now (length c.args.into.now) c.loop-i.i c.loop-i.place c.loop-i.into _ c.loop-i.invariant.1
          c.mark_after.result c.mark_after.ensures c.loop-i-test.true x.value x.next c.in_ok-number.ensures,
    )

pub loop-i-preserved : goal.loop-i-preserved
loop-i-preserved c =
    let x = c.in_ok-number.number in
    let within = line-within c.args.text.now (length c.args.into.now) c.loop-i.i c.loop-i.place c.loop-i.into _ c.loop-i.invariant.1
    c.mark_after.result c.mark_after.ensures c.loop-i-test.true x.value x.next c.in_ok-number.ensures in (
      omega (arith, within),
      line_step c.args.text.now (length c.args.into.now) c.loop-i.i c.loop-i.place c.loop-i.into _ c.loop-i.invariant.1
          c.mark_after.result c.mark_after.ensures c.loop-i-test.true x.value x.next c.in_ok-number.ensures c.loop-i.auto.into,
    )

pub returns : goal.returns
returns c =
    (c.loop-i.auto.into, line-done c.args.text.now (length c.args.into.now) c.loop-i.i c.loop-i.place c.loop-i.into _ c.loop-i.invariant.1 c.loop-i.auto.into c.loop-i-test.false)
