-- Where something refuses, everything is left as it was; where nothing does, what is made is all that is due.
use Rattle.std.proofs.Common.{sym, ap, ◌∙◌}
use Rattle.outcome.proofs.OutcomeLaws.{refused_not_zero}
use Rattle.query_variety.specs.Call.{given}
use Rattle.query_variety.proofs.DecideLaws.{reached, replied-refused, replied-reached, refused-same}
use Rattle.query_variety.proofs.decide.Goals as goal

pub returns-in-Err : goal.returns-in-Err
returns-in-Err c =
    let i = given c.args.table.now c.args.ask c.args.wish c.args.closed.now c.args.list.now c.args.area.now c.args.work.now in
    let is = c.in-Err.ensures ∙ refused-same i in
    replied-refused i _ (c.from.ensures ∙ is) (λ z. refused_not_zero c.in-Err.refusal (ap (λ x. x.outcome) is ∙ z))

pub all-requires : goal.all-requires
all-requires c =
    let i = given c.args.table.now c.args.ask c.args.wish c.args.closed.now c.args.list.now c.args.area.now c.args.work.now in
    let r = reached i (sym (ap (λ x. x.outcome) (c.in_default.ensures ∙ refused-same i))) in
    (r.passed.ask, r.range, r.passed.k-least, r.passed.k-most, r.large.words, r.large.room)

pub returns : goal.returns
returns c =
    let i = given c.args.table.now c.args.ask c.args.wish c.args.closed.now c.args.list.now c.args.area.now c.args.work.now in
    replied-reached i _ _ _ _ (reached i (sym (ap (λ x. x.outcome) (c.in_default.ensures ∙ refused-same i)))) c.all.ensures
