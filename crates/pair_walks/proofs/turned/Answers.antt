-- By length, and where that is equal by arc numbers.
use Rattle.std.proofs.Common.{◌<◌, sym, ◌∙◌, arith}
use borrow.Author.Tests.{lt-ltb, ne_eqb}
use Rattle.pair_walks.proofs.NumbersLaws.{lex-below, lex-above, lex-same, parts}
use Rattle.pair_walks.proofs.turned.Goals as goal

pub returns-then-q-p : goal.returns-then-q-p
returns-then-q-p c = lt-ltb _ _ c.if-q-p.true ∙ sym (lex-below _ _ _ c.if-q-p.true)

pub returns-then-q-p-2 : goal.returns-then-q-p-2
returns-then-q-p-2 c =
    c.numbers_first.ensures ∙ parts c.args.area.now c.args.w c.args.x.second.arcs c.args.x.first.arcs
    ∙ sym (lex-same _ _ _ c.if-q-p-2.true)

pub returns-else-q-p-2 : goal.returns-else-q-p-2
returns-else-q-p-2 c =
    let above : c.args.x.first.length < c.args.x.second.length = omega arith in
    ne_eqb _ _ c.if-q-p-2.false ∙ sym (lex-above _ _ _ above)
