-- Where something refuses, everything is left as it was; where nothing does, the rounds give all that is due.
use Rattle.std.proofs.Common.{refl, sym, ap, ◌∙◌}
use Rattle.outcome.proofs.OutcomeLaws.{refused_not_zero}
use Rattle.query.specs.Query.{asked}
use Rattle.query.proofs.DecideLaws.{reached, wanted, cored-refused, cored-reached}
use Rattle.query.proofs.decide.Goals as goal

pub returns-in-Err : goal.returns-in-Err
returns-in-Err c =
    let i = asked c.args.table.now c.args.closed.now c.args.ask c.args.wish c.args.labels.now c.args.area.now in
    cored-refused i _ (c.from.ensures ∙ c.in-Err.ensures) refl (λ z. refused_not_zero c.in-Err.refusal (ap (λ x. x.outcome) c.in-Err.ensures ∙ z))

pub all-requires : goal.all-requires
all-requires c =
    let i = asked c.args.table.now c.args.closed.now c.args.ask c.args.wish c.args.labels.now c.args.area.now in
    let r = reached i (sym (ap (λ x. x.outcome) c.in_default.ensures)) in (wanted i r, r.passed.k-least, c.requires)

pub returns : goal.returns
returns c =
    let i = asked c.args.table.now c.args.closed.now c.args.ask c.args.wish c.args.labels.now c.args.area.now in
    cored-reached i _ _ _ (reached i (sym (ap (λ x. x.outcome) c.in_default.ensures))) c.all.ensures
