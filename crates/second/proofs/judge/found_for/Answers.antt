-- The tests are those of the definition. Where no arc goes from the record's start to its end, the number of arcs is given either way.
use Rattle.std.proofs.Common.{◌≡◌, arith, sym, ap, ◌∙◌}
use Rattle.table.specs.Table.{records}
use Rattle.table.specs.Run.{run_start}
use Rattle.second.proofs.JudgeLaws.{look-le, candidate, found-order, found_none, found_alike, found-unlike}
use Rattle.second.proofs.judge.found_for.Goals as goal

pub returns-then-v-end : goal.returns-then-v-end
returns-then-v-end c = found-order c.args.table.now c.args.second.now c.args.j c.args.end c.args.lo (omega arith)

pub next-requires : goal.next-requires
next-requires c =
    (c.requires.0, c.requires.2 ∙ ap (run_start c.args.table.now) (sym c.from_of-u.ensures), omega (arith, look-le c.args.end c.args.lo c.to_of-v.result (records c.args.table.now) c.requires.3))

pub returns-in_err-a : goal.returns-in_err-a
returns-in_err-a c =
    let none : candidate c.args.table.now c.args.second.now c.args.j c.args.end c.args.lo ≡ records c.args.table.now = cc (c.in_err-a.ensures) in
    rw c.from_residual.ensures
    (found_none c.args.table.now c.args.second.now c.args.j c.args.end c.args.lo (omega arith) c.requires.3 (omega (arith, none)))

pub returns-then-alike : goal.returns-then-alike
returns-then-alike c =
    let it : c.in_ok-a.a ≡ candidate c.args.table.now c.args.second.now c.args.j c.args.end c.args.lo = cc (c.in_ok-a.ensures.0) in
    let found = found_alike c.args.table.now c.args.second.now c.args.j c.args.end c.args.lo (omega arith) (cc it) in
    (it ∙ sym found, omega (arith, it, found, c.in_ok-a.ensures.1))

pub returns-else-alike : goal.returns-else-alike
returns-else-alike c =
    let it : c.in_ok-a.a ≡ candidate c.args.table.now c.args.second.now c.args.j c.args.end c.args.lo = cc (c.in_ok-a.ensures.0) in
    found-unlike c.args.table.now c.args.second.now c.args.j c.args.end c.args.lo (omega arith) (cc it)
