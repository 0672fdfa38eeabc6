-- Each turn passes one line more, or tells it as the first malformed one: the laws `passed-..`.
use Rattle.std.proofs.Common.{arith, rules}
use Rattle.desk_old_input.proofs.ArcsLaws.{line-ends, passed_none, passed-more, passed-stop, passed_over, passed-all, told-bad}
use Rattle.desk_old_input.proofs.arcs.Goals as goal

pub loop-i-init : goal.loop-i-init
loop-i-init c = (c.requires.0, passed_none c.args.text.now c.args.m c.args.at c.args.table.now)

pub loop-i-preserved : goal.loop-i-preserved
loop-i-preserved c =
    let f = c.in-Some.ensures.1 in (
      line-ends 3 c.args.text.now c.loop-i.place _ f.1 c.loop-i.invariant.0,
      passed-more c.args.text.now c.args.m c.loop-i.i c.loop-i.place _ c.args.table.now c.loop-i.table c.loop-i.invariant.1
          c.loop-i-test.true f.0 c.in-Some.next f.1 c.arc.new.table f.2,
    )

pub returns-in_default : goal.returns-in_default
returns-in_default c =
    let z = passed-stop c.args.text.now c.args.m c.loop-i.i c.loop-i.place _ c.args.table.now c.loop-i.table c.loop-i.invariant.1 c.loop-i-test.true c.in_default.ensures.1 in
    record { long = search rules; is = told-bad _ _ _ c.args.table.now c.arc.new.table z }

pub returns-then-place-text : goal.returns-then-place-text
returns-then-place-text c = record {
  long = c.loop-i.auto.table;
  is = told-bad _ _ _ c.args.table.now c.loop-i.table
      (passed_over c.args.text.now c.args.m c.loop-i.i c.loop-i.place _ c.args.table.now c.loop-i.table c.loop-i.invariant.1 (omega arith) c.if-place-text.true);
}

pub returns : goal.returns
returns c = record {
  long = c.loop-i.auto.table;
  is = passed-all c.args.text.now c.args.m c.loop-i.i c.loop-i.place _ c.args.table.now c.loop-i.table c.loop-i.invariant.1 _ (omega arith) c.if-place-text.false;
}
