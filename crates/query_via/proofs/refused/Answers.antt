-- Each refusal is the next decision where those before it let the call pass. After the test for 7, 8 and
-- 9 the ask is accepted, so the numbers that judge the buffers do not wrap.
use Rattle.std.proofs.Common.{sym, ap, ◌∙◌, true, false}
use Rattle.std.proofs.lemmas.Result.{err_from_is_err_and}
use Rattle.table.proofs.FaultLaws.{good-size}
use Rattle.query.proofs.DecideLaws.{closed-none}
use Rattle.query_via.specs.Via.{given, too_small}
use Rattle.query_via.proofs.DecideLaws.{passed, refusal_is, faulty, numbered, refused-second, refused-room}
use Rattle.query_via.proofs.refused.Goals as goal

pub returns-in_err-check : goal.returns-in_err-check
returns-in_err-check c =
    let p = err_from_is_err_and c.from_residual.result c.from_residual.ensures.1 in
    rw (p.1, p.2) (faulty _ c.in_err-check.field-0.0 c.in_err-check.ensures)

pub wrong-requires : goal.wrong-requires
wrong-requires c = sym c.in_ok-check.ensures

pub returns-then-wrong : goal.returns-then-wrong
returns-then-wrong c =
    c.plain.ensures ∙ sym (refused-second _ (sym c.in_ok-check.ensures) (sym c.wrong.ensures ∙ c.if-wrong.true))

pub returns-in_err-refusal_closed : goal.returns-in_err-refusal_closed
returns-in_err-refusal_closed c =
    let p = err_from_is_err_and c.from_residual-in_err-refusal_closed.result c.from_residual-in_err-refusal_closed.ensures.1 in
    rw (p.1, p.2)
    (numbered _ (sym c.in_ok-check.ensures) (sym c.wrong.ensures ∙ c.if-wrong.false) c.in_err-refusal_closed.field-0.0
    c.in_err-refusal_closed.ensures)

pub too_small-requires : goal.too_small-requires
too_small-requires c =
    let i = given c.args.table.now c.args.second.now c.args.ask c.args.wish c.args.closed.now c.args.area.now c.args.work.now in
    let ok = sym c.in_ok-check.ensures in
    let size = good-size _ _ ok in
    let none = closed-none i.table i.closed i.ask i.k (sym (ap (λ x. x.outcome) c.in_ok-refusal_closed.ensures)) in
    (size.0, size.1, (passed i ok (refusal_is i ∙ none.1)).k-most)

pub returns-then-too_small : goal.returns-then-too_small
unfolding too_small
returns-then-too_small c =
    let i = given c.args.table.now c.args.second.now c.args.ask c.args.wish c.args.closed.now c.args.area.now c.args.work.now in
    c.plain-then-too_small.ensures
    ∙ sym (refused-room i (sym c.in_ok-check.ensures) (sym c.wrong.ensures ∙ c.if-wrong.false)
    (sym (ap (λ x. x.outcome) c.in_ok-refusal_closed.ensures)) true (sym c.too_small.ensures ∙ c.if-too_small.true))

pub returns : goal.returns
unfolding too_small
returns c =
    let i = given c.args.table.now c.args.second.now c.args.ask c.args.wish c.args.closed.now c.args.area.now c.args.work.now in
    sym (refused-room i (sym c.in_ok-check.ensures) (sym c.wrong.ensures ∙ c.if-wrong.false)
    (sym (ap (λ x. x.outcome) c.in_ok-refusal_closed.ensures)) false (sym c.too_small.ensures ∙ c.if-too_small.false))
