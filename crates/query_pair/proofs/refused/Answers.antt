-- Each refusal is the next decision where those before it let the call pass; a good table has few nodes,
-- so the numbers that judge the buffers do not wrap.
use Rattle.std.proofs.Common.{sym, ap, ◌∙◌, true, false}
use Rattle.std.proofs.lemmas.Result.{err_from_is_err_and}
use Rattle.table.proofs.FaultLaws.{good-size}
use Rattle.query_pair.specs.Pair.{given, too_small}
use Rattle.query_pair.proofs.DecideLaws.{faulty, numbered, refused-room}
use Rattle.query_pair.proofs.refused.Goals as goal

pub returns-in_err-check : goal.returns-in_err-check
returns-in_err-check c =
    let p = err_from_is_err_and c.from_residual.result c.from_residual.ensures.1 in
    rw (p.1, p.2) (faulty _ c.in_err-check.field-0.0 c.in_err-check.ensures)

pub returns-in_err-refusal_closed : goal.returns-in_err-refusal_closed
returns-in_err-refusal_closed c =
    let p = err_from_is_err_and c.from_residual-in_err-refusal_closed.result c.from_residual-in_err-refusal_closed.ensures.1 in
    rw (p.1, p.2) (numbered _ (sym c.in_ok-check.ensures) c.in_err-refusal_closed.field-0.0 c.in_err-refusal_closed.ensures)

pub too_small-requires : goal.too_small-requires
too_small-requires c = let size = good-size _ _ (sym c.in_ok-check.ensures) in (size.0, size.1)

pub returns-then-too_small : goal.returns-then-too_small
unfolding too_small
returns-then-too_small c =
    let i = given c.args.table.now c.args.ask c.args.closed.now c.args.area.now c.args.lent c.args.work.now in
    c.plain.ensures
    ∙ sym (refused-room i (sym c.in_ok-check.ensures) (sym (ap (λ x. x.outcome) c.in_ok-refusal_closed.ensures)) true
    (sym c.too_small.ensures ∙ c.if-too_small.true))

pub returns : goal.returns
unfolding too_small
returns c =
    let i = given c.args.table.now c.args.ask c.args.closed.now c.args.area.now c.args.lent c.args.work.now in
    sym (refused-room i (sym c.in_ok-check.ensures) (sym (ap (λ x. x.outcome) c.in_ok-refusal_closed.ensures)) false
    (sym c.too_small.ensures ∙ c.if-too_small.false))
