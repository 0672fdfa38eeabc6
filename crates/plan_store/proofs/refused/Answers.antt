-- The tests in their order; what is needed is counted once the request is in form.
use mathlib.Core.Path.{sym, ap, ◌∙◌}
use Rattle.std.proofs.Common.{arith}
use Rattle.outcome.specs.Outcome.{plain}
use Rattle.plan_store.proofs.OutcomeLaws.{request-good, told-file, told-request, told-there, told-room, told-found}
use Rattle.plan_store.proofs.refused.Goals as goal

pub returns-then-wrong : goal.returns-then-wrong
returns-then-wrong c = c.plain.ensures ∙ ap plain (sym (told-file c.args.file.now c.args.plan c.args.slots.now c.args.routes c.args.width (sym c.wrong.ensures ∙ c.if-wrong.true)))

pub returns-then-wrong_request : goal.returns-then-wrong_request
returns-then-wrong_request c =
    c.plain-then-wrong_request.ensures
    ∙ ap plain (sym (told-request c.args.file.now c.args.plan c.args.slots.now c.args.routes c.args.width (sym c.wrong.ensures ∙ c.if-wrong.false) (sym c.wrong_request.ensures ∙ c.if-wrong_request.true)))

pub returns-then-has_plan : goal.returns-then-has_plan
returns-then-has_plan c =
    c.plain-then-has_plan.ensures
    ∙ ap plain (sym (told-there c.args.file.now c.args.plan c.args.slots.now c.args.routes c.args.width (sym c.wrong.ensures ∙ c.if-wrong.false) (sym c.wrong_request.ensures ∙ c.if-wrong_request.false) (sym c.has_plan.ensures ∙ c.if-has_plan.true)))

pub needed-needed-requires : goal.needed-needed-requires
needed-needed-requires c =
    let g = request-good c.args.plan c.args.slots.now c.args.routes c.args.width (sym c.wrong_request.ensures ∙ c.if-wrong_request.false) in
    (g.sized, g.few, g.narrow)

pub returns-then-free_count-needed : goal.returns-then-free_count-needed
returns-then-free_count-needed c =
    c.plain-then-free_count-needed.ensures
    ∙ ap plain
    (sym (told-room c.args.file.now c.args.plan c.args.slots.now c.args.routes c.args.width (sym c.wrong.ensures ∙ c.if-wrong.false) (sym c.wrong_request.ensures ∙ c.if-wrong_request.false) (sym c.has_plan.ensures ∙ c.if-has_plan.false) (omega (arith, c.needed-needed.ensures, c.free_count.ensures, c.if-free_count-needed.true))))

pub returns : goal.returns
returns c =
    ap plain (sym (told-found c.args.file.now c.args.plan c.args.slots.now c.args.routes c.args.width (sym c.wrong.ensures ∙ c.if-wrong.false) (sym c.wrong_request.ensures ∙ c.if-wrong_request.false) (sym c.has_plan.ensures ∙ c.if-has_plan.false) (omega (arith, c.needed-needed.ensures, c.free_count.ensures, c.if-free_count-needed.false))))
