-- A count of 0 ends the search; another one passes it on (`answered-step`).
use Rattle.std.proofs.Common.{◌≡◌, sym, ◌∙◌, arith}
use Rattle.ratios.proofs.AnsweredLaws.{answered-start, answered-done, answered-step, answered-stop}
use Rattle.ratios.proofs.answered.Goals as goal

pub loop-i-init : goal.loop-i-init
loop-i-init c = answered-start _ _

pub returns-then-counts-i-eq0 : goal.returns-then-counts-i-eq0
returns-then-counts-i-eq0 c = sym (answered-stop c.args.counts.now c.args.n c.loop-i.i (omega arith) c.if-counts-i-eq0.true) ∙ c.loop-i.invariant

pub loop-i-preserved : goal.loop-i-preserved
loop-i-preserved c = sym (answered-step c.args.counts.now c.args.n c.loop-i.i (omega arith) c.if-counts-i-eq0.false) ∙ c.loop-i.invariant

pub returns : goal.returns
returns c =
    let e : c.loop-i.i ≡ c.args.n = omega arith in
    sym (answered-done c.args.counts.now c.args.n c.loop-i.i e) ∙ c.loop-i.invariant
