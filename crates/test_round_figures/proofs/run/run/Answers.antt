-- Where nothing refuses the query, it is what the rounds ask.
use Rattle.std.proofs.Common.{sym, ap, [], false}
use Rattle.query.specs.Query.{asked}
use Rattle.query.proofs.DecideLaws.{reached, wanted}
use Rattle.test_round_figures.proofs.run.run.Goals as goal

pub rounds-requires : goal.rounds-requires
rounds-requires c =
    let i = asked c.args.t.now [] c.args.ask (record { k = c.args.k; lent = c.args.k; closing = false }) c.args.labels.now c.args.area.now in
    let on = reached i (sym (ap (λ x. x.outcome) c.in-Ok.ensures)) in
    (wanted i on, on.passed.k-least)
