-- Where something refuses, everything is left as it was; where nothing does, the profile gives all that
-- is due.
use Rattle.std.proofs.Common.{arith, sym, ap, ◌∙◌}
use Rattle.outcome.proofs.OutcomeLaws.{refused_not_zero}
use Rattle.query_via.specs.Via.{given}
use Rattle.query_via.proofs.DecideLaws.{reached, profiling, cored-refused, cored-reached}
use Rattle.query_via.proofs.decide.Goals as goal

pub returns-in-Err : goal.returns-in-Err
returns-in-Err c =
    let i = given c.args.table.now c.args.second.now c.args.ask c.args.wish c.args.closed.now c.args.area.now c.args.work.now in
    cored-refused i _ (c.from.ensures.0 ∙ c.in-Err.ensures) (omega (arith, c.from.ensures.1))
    (λ z. refused_not_zero c.in-Err.refusal (ap (λ x. x.outcome) c.in-Err.ensures ∙ z))

pub all-requires : goal.all-requires
all-requires c =
    let i = given c.args.table.now c.args.second.now c.args.ask c.args.wish c.args.closed.now c.args.area.now c.args.work.now in
    profiling i (reached i (sym (ap (λ x. x.outcome) c.in_default.ensures)))

pub returns : goal.returns
returns c =
    let i = given c.args.table.now c.args.second.now c.args.ask c.args.wish c.args.closed.now c.args.area.now c.args.work.now in
    cored-reached i _ _ _ (reached i (sym (ap (λ x. x.outcome) c.in_default.ensures))) c.all.ensures
