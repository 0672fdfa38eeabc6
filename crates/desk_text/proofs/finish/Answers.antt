-- The first bytes tell what the first line is: a refusal, which is due, or a query, and then what its road file gives is due.
use Rattle.std.proofs.Common.{ap, subst, arith, ◌∙◌}
use Rattle.std.specs.Prelude.{Ok, Err}
use Rattle.desk_query.specs.Told.{FirstRead}
use Rattle.desk_text.specs.Desk.{refused_text}
use Rattle.desk_text.proofs.FinishLaws.{appended-as, first-refused, first-query, road-of, first_fits, first-in}
use Rattle.desk_text.proofs.finish.Goals as goal

pub returns-in-Ok : goal.returns-in-Ok
returns-in-Ok c input k =
    appended-as _ _ _ _ _ (first-query input c.in-Ok.q (subst (λ z. FirstRead z (Ok c.in-Ok.q)) (first-in input _ _ _ k) c.in-Ok.ensures)) (c.finish_road.ensures input (road-of input _ _ _ k))

pub returns-in-Err : goal.returns-in-Err
returns-in-Err c input k =
    appended-as _ _ _ _ _
    (ap refused_text c.from.ensures ∙ first-refused input c.in-Err.refusal (subst (λ z. FirstRead z (Err c.in-Err.refusal)) (first-in input _ _ _ k) c.in-Err.ensures)) c.refused.ensures

pub slice_bounds-read-end : goal.slice_bounds-read-end
slice_bounds-read-end c = let p = c.requires.1 in omega (arith, first_fits p.0 _ _ _ p.1)
