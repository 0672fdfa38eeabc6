-- Each refusal is the next decision where those before it let the query pass. Which roads are closed has no part in 7 to 10. After the test for 7, 8 and 9 the ask
-- is accepted, so the numbers that judge the buffers do not wrap.
use Rattle.std.proofs.Common.{sym, ap, ◌∙◌, true, false}
use Rattle.std.proofs.lemmas.Result.{err_from_is_err_and}
use Rattle.query.specs.Query.{asked, too_small}
use Rattle.query.proofs.DecideLaws.{limited, refusal_is, faulty, numbered, refused-closures, refused-room}
use Rattle.query.proofs.refused.Goals as goal

pub returns-in_err-check : goal.returns-in_err-check
returns-in_err-check c =
    let p = err_from_is_err_and c.from_residual.result c.from_residual.ensures.1 in rw (p.1, p.2) (faulty _ c.in_err-check.field-0.0 c.in_err-check.ensures)

pub returns-then-wrong_closures : goal.returns-then-wrong_closures
returns-then-wrong_closures c =
    c.plain.ensures
    ∙ sym (refused-closures _ (sym c.in_ok-check.ensures) (sym c.wrong_closures.ensures ∙ c.if-wrong_closures.true))

pub returns-in_err-refusal : goal.returns-in_err-refusal
returns-in_err-refusal c =
    let p = err_from_is_err_and c.from_residual-in_err-refusal.result c.from_residual-in_err-refusal.ensures.1 in
    rw (p.1, p.2) (numbered _ (sym c.in_ok-check.ensures) (sym c.wrong_closures.ensures ∙ c.if-wrong_closures.false) c.in_err-refusal.field-0.0 c.in_err-refusal.ensures)

pub too_small-requires : goal.too_small-requires
too_small-requires c =
    let i = asked c.args.table.now c.args.closed.now c.args.ask c.args.wish c.args.labels.now c.args.area.now in
    limited i (sym c.in_ok-check.ensures) (refusal_is i ∙ sym (ap (λ x. x.outcome) c.in_ok-refusal.ensures))

pub returns-then-too_small : goal.returns-then-too_small
unfolding too_small
returns-then-too_small c =
    let i = asked c.args.table.now c.args.closed.now c.args.ask c.args.wish c.args.labels.now c.args.area.now in
    c.plain-then-too_small.ensures
    ∙ sym (refused-room i (sym c.in_ok-check.ensures) (sym c.wrong_closures.ensures ∙ c.if-wrong_closures.false)
    (refusal_is i ∙ sym (ap (λ x. x.outcome) c.in_ok-refusal.ensures)) true (sym c.too_small.ensures ∙ c.if-too_small.true))

pub returns : goal.returns
unfolding too_small
returns c =
    let i = asked c.args.table.now c.args.closed.now c.args.ask c.args.wish c.args.labels.now c.args.area.now in
    sym (refused-room i (sym c.in_ok-check.ensures) (sym c.wrong_closures.ensures ∙ c.if-wrong_closures.false)
    (refusal_is i ∙ sym (ap (λ x. x.outcome) c.in_ok-refusal.ensures)) false (sym c.too_small.ensures ∙ c.if-too_small.false))
