-- The reader tells a refusal, which is due, or the road file is whole: then its arcs stand in the table in file order, and in order they make the table of the reply.
use Rattle.std.proofs.Common.{ap, sym, arith, ◌∙◌}
use Rattle.outcome.specs.declared.Told.{Told}
use Rattle.outcome.proofs.OutcomeLaws.{refused_not_zero}
use Rattle.desk_text.specs.Desk.{refused_text}
use Rattle.desk_text.proofs.FinishLaws.{appended-as, road-refused, road-ready}
use Rattle.desk_text.proofs.finish_road.Goals as goal

pub returns-in-Err : goal.returns-in-Err
returns-in-Err c input k =
    let e = c.in-Err.ensures in
    appended-as _ _ _ _ _
    (ap refused_text (c.from.ensures ∙ e) ∙ road-refused input c.args.q _ _ k (λ z. refused_not_zero c.in-Err.refusal (ap (λ (x : Told). x.outcome) e ∙ z))) c.refused.ensures

pub returns : goal.returns
returns c input k =
    appended-as _ _ _ _ _ ((road-ready input c.args.q _ _ k (ap (λ (x : Told). x.outcome) (sym c.in_default.ensures))).due _ c.order.ensures) c.reply.ensures

pub order-requires : goal.order-requires
order-requires c = let p = c.requires.1 in (road-ready p.0 c.args.q _ _ p.1 (ap (λ (x : Told). x.outcome) (sym c.in_default.ensures))).placed

pub slice_bounds-reply-end : goal.slice_bounds-reply-end
slice_bounds-reply-end c =
    let p = c.requires.1 in omega (arith, (road-ready p.0 c.args.q _ _ p.1 (ap (λ (x : Told). x.outcome) (sym c.in_default.ensures))).placed.room)

pub reply-requires : goal.reply-requires
reply-requires c =
    let p = c.requires.1 in (c.requires.0, (road-ready p.0 c.args.q _ _ p.1 (ap (λ (x : Told). x.outcome) (sym c.in_default.ensures))).nodes)
