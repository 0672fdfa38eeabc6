-- Each refusal is the next decision where those before it let the call pass. The table is good then, so that the numbers that judge the
-- buffers do not wrap.
use Rattle.std.proofs.Common.{sym, ap, ◌∙◌, [], true, false}
use Rattle.std.proofs.lemmas.Result.{err_from_is_err_and}
use Rattle.query.proofs.DecideLaws.{closed-none}
use Rattle.query_variety.specs.Call.{given, too_small}
use Rattle.query_variety.proofs.DecideLaws.{limited, refusal_is, faulty, numbered, refused-room, refused-range}
use Rattle.query_variety.proofs.refused.Goals as goal

pub returns-in_err-check : goal.returns-in_err-check
returns-in_err-check c =
    let p = err_from_is_err_and c.from_residual.result c.from_residual.ensures.1 in rw (p.1, p.2) (faulty _ c.in_err-check.field-0.0 c.in_err-check.ensures)

pub returns-in_err-refusal_closed : goal.returns-in_err-refusal_closed
returns-in_err-refusal_closed c =
    let p = err_from_is_err_and c.from_residual-in_err-refusal_closed.result c.from_residual-in_err-refusal_closed.ensures.1 in
    rw (p.1, p.2) (numbered _ (sym c.in_ok-check.ensures) c.in_err-refusal_closed.field-0.0 c.in_err-refusal_closed.ensures)

pub too_small-requires : goal.too_small-requires
too_small-requires c =
    let i = given c.args.table.now c.args.ask c.args.wish c.args.closed.now [] c.args.area.now c.args.work.now in
    let none = closed-none i.table i.closed i.ask i.wish.k (sym (ap (λ x. x.outcome) c.in_ok-refusal_closed.ensures)) in
    limited i (sym c.in_ok-check.ensures) (refusal_is i i.wish.k ∙ none.1)

pub returns-then-too_small : goal.returns-then-too_small
unfolding too_small
returns-then-too_small c =
    let i = given c.args.table.now c.args.ask c.args.wish c.args.closed.now [] c.args.area.now c.args.work.now in
    c.plain.ensures
    ∙ sym (refused-room i (sym c.in_ok-check.ensures) (sym (ap (λ x. x.outcome) c.in_ok-refusal_closed.ensures)) (sym c.too_small.ensures ∙ c.if-too_small.true))

pub returns-then-range_wrong : goal.returns-then-range_wrong
unfolding too_small
returns-then-range_wrong c =
    let i = given c.args.table.now c.args.ask c.args.wish c.args.closed.now [] c.args.area.now c.args.work.now in
    c.plain-then-range_wrong.ensures
    ∙ sym (refused-range i (sym c.in_ok-check.ensures) (sym (ap (λ x. x.outcome) c.in_ok-refusal_closed.ensures)) (sym c.too_small.ensures ∙ c.if-too_small.false) true
    (sym c.range_wrong.ensures ∙ c.if-range_wrong.true))

pub returns : goal.returns
unfolding too_small
returns c =
    let i = given c.args.table.now c.args.ask c.args.wish c.args.closed.now [] c.args.area.now c.args.work.now in
    sym (refused-range i (sym c.in_ok-check.ensures) (sym (ap (λ x. x.outcome) c.in_ok-refusal_closed.ensures)) (sym c.too_small.ensures ∙ c.if-too_small.false) false
    (sym c.range_wrong.ensures ∙ c.if-range_wrong.false))
