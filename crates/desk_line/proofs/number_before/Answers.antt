-- The number read is the answer only where `mark` follows it. Each other way is a law: no number is read, the text ends behind it, or another byte follows.
-- The text's end counts as another byte, since `mark` is not 0.
use borrow.Author.Tests.{eq-eqb}
use Rattle.desk_line.proofs.LineLaws.{before-none, before-other, before-past, before-mark}
use Rattle.desk_line.proofs.number_before.Goals as goal
use Rattle.desk_line.proofs.number_before.Goals.{else-number-text-via-then-number-text+else-text-number, else-number-text-via-else-number-text}

pub returns-in_err-number : goal.returns-in_err-number
returns-in_err-number c = rw c.from_residual.ensures (before-none c.args.text.now c.args.at c.args.mark c.in_err-number.ensures)

pub returns-then-text-number : goal.returns-then-text-number
returns-then-text-number c =
    let x = c.in_ok-number.number in
    before-mark c.args.text.now c.args.at c.args.mark x.value x.next c.in_ok-number.ensures (eq-eqb _ _ c.if-text-number.true)

pub returns : goal.returns
returns c =
    let x = c.in_ok-number.number in
    elim c.else-number-text.branch [
      | else-number-text-via-then-number-text+else-text-number w ↦ before-other c.args.text.now c.args.at c.args.mark x.value x.next c.in_ok-number.ensures w.if-text-number.false
      | else-number-text-via-else-number-text w ↦ before-past c.args.text.now c.args.at c.args.mark x.value x.next c.in_ok-number.ensures c.requires.1 w.if-number-text.false
    ]
