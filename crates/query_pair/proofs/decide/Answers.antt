-- Where something refuses, everything is left as it was; where nothing does, the searches give all that
-- is due.
use Rattle.std.proofs.Common.{sym, ap, ◌∙◌}
use Rattle.outcome.proofs.OutcomeLaws.{refused_not_zero}
use Rattle.query_pair.specs.Pair.{given}
use Rattle.query_pair.proofs.DecideLaws.{reached, room_for, cored-refused, cored-reached}
use Rattle.query_pair.proofs.decide.Goals as goal

pub returns-in-Err : goal.returns-in-Err
returns-in-Err c =
    let i = given c.args.table.now c.args.ask c.args.closed.now c.args.area.now c.args.lent c.args.work.now in
    cored-refused i _ (c.from.ensures.0 ∙ c.in-Err.ensures) c.from.ensures.1
    (λ z. refused_not_zero c.in-Err.refusal (ap (λ x. x.outcome) c.in-Err.ensures ∙ z))

pub all-requires : goal.all-requires
all-requires c =
    let i = given c.args.table.now c.args.ask c.args.closed.now c.args.area.now c.args.lent c.args.work.now in
    let r = reached i (sym (ap (λ x. x.outcome) c.in_default.ensures)) in
    (r.passed.ask, r.large.words, room_for i r)

pub returns : goal.returns
returns c =
    let i = given c.args.table.now c.args.ask c.args.closed.now c.args.area.now c.args.lent c.args.work.now in
    cored-reached i _ _ _ (reached i (sym (ap (λ x. x.outcome) c.in_default.ensures))) c.all.ensures
