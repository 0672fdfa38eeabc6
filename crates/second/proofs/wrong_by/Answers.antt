-- The laws of records judged one after the other.
use Rattle.std.proofs.Common.{arith, ◌<◌, refl, sym, ◌∙◌}
use Rattle.table.specs.Table.{records}
use Rattle.second.proofs.JudgeLaws.{judged-none, judged-more, judged-wrong, judged-right, length-wrong}
use Rattle.second.proofs.wrong_by.Goals as goal

pub returns-then-second-table : goal.returns-then-second-table
returns-then-second-table c = sym (length-wrong c.args.nodes c.args.table.now c.requires.0 c.args.second.now c.if-second-table.true)

pub loop-j-init : goal.loop-j-init
loop-j-init c = record {
  behind = omega arith;
  judged = judged-none c.args.nodes c.args.table.now c.requires.0 c.args.second.now;
  kept = refl;
}

pub returns-in_default : goal.returns-in_default
returns-in_default c =
    let l = c.loop-j in
    sym
    (judged-wrong c.args.nodes c.args.table.now c.requires.0 c.args.second.now l.j l.end l.lo (omega arith) (omega (arith, c.in_default.ensures)) l.invariant.judged)

pub loop-j-preserved : goal.loop-j-preserved
loop-j-preserved c =
    let l = c.loop-j in
    let below : c.in-Some.a < records c.args.table.now = omega (arith, c.in-Some.ensures.0, c.in-Some.ensures.1) in
    let more = judged-more c.args.nodes c.args.table.now c.requires.0 c.args.second.now l.j l.end l.lo c.in-Some.a (omega arith) l.invariant.behind c.in-Some.ensures.0 below l.invariant.judged in
    record { behind = omega arith; judged = rw c.to_of-end.ensures more; kept = c.kept-first.ensures.1 ∙ l.invariant.kept }

pub returns : goal.returns
returns c =
    let l = c.loop-j in
    sym
    (judged-right c.args.nodes c.args.table.now c.requires.0 c.args.second.now (λ k. (c.type_inv.table k).fits) (λ k. (c.type_inv.second k).fits) c.if-second-table.false
    l.j l.end l.lo (omega arith) l.invariant.judged)
