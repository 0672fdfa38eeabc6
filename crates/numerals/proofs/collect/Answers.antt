-- A digit stands at the place that is read: each turn is the laws of one digit more. The other two ends are no digit, or the end of the text.
use Rattle.std.proofs.Common.{◌≡◌, length, get_or, true, false, sym, refl, arith, rules, ◌∙◌}
use Rattle.numerals.specs.Decimal.{is_digit, value}
use Rattle.numerals.proofs.ReadLaws.{digit-past, value-more, length_more, read-large, read_done}
use Rattle.numerals.proofs.collect.Goals as goal

pub loop-i-init : goal.loop-i-init
unfolding value
loop-i-init c = (omega arith, refl, refl)

pub returns-then-not-is_ascii_digit : goal.returns-then-not-is_ascii_digit
returns-then-not-is_ascii_digit c =
    let d : is_digit (get_or c.args.text.now c.loop-i.i 0) ≡ false = search rules in
    let a = c.loop-i in
    read_done c.args.text.now c.args.at a.value a.i a.invariant.1 c.requires.1 d a.invariant.0 a.invariant.2

pub returns-then-value-gt-MOST : goal.returns-then-value-gt-MOST
returns-then-value-gt-MOST c =
    let d : is_digit (get_or c.args.text.now c.loop-i.i 0) ≡ true = search rules in
    let a = c.loop-i in
    read-large c.args.text.now c.args.at a.value a.i a.invariant.1 d (omega arith)

pub loop-i-preserved : goal.loop-i-preserved
loop-i-preserved c =
    let d : is_digit (get_or c.args.text.now c.loop-i.i 0) ≡ true = search rules in
    let a = c.loop-i in (
      omega arith,
      sym (value-more c.args.text.now a.i a.value d) ∙ a.invariant.1,
      omega (arith, length_more c.args.text.now a.i d, a.invariant.2),
    )

pub returns : goal.returns
returns c =
    let a = c.loop-i in
    let e : a.i ≡ length c.args.text.now = omega arith in
    rw (← e) (read_done c.args.text.now c.args.at a.value a.i a.invariant.1 c.requires.1 (digit-past c.args.text.now a.i (omega arith)) a.invariant.0 a.invariant.2)
