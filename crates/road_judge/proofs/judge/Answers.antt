-- By the three tests the pick stays, or the arc yields it.
use Rattle.std.proofs.Common.{◌≡◌, ◌<◌, Some, refl, ap, sym, ◌∙◌, ◌⊎◌, inl, inr}
use Rattle.road_order.specs.Lowest.{Pick}
use Rattle.outcome.proofs.OutcomeLaws.{not_found}
use Rattle.road_order.proofs.LowestLaws.{better-same, better-new}
use Rattle.road_judge.specs.Judged.{fault_by, pick_of, last_by}
use Rattle.road_judge.proofs.judge.Goals as goal
use Rattle.road_judge.proofs.judge.Goals.{in-Some-faulty+else-lowest-r, in_default-faulty}

pub returns-in_default : goal.returns-in_default
unfolding fault_by
returns-in_default c = sym (better-same (fault_by c.args.r.nodes) c.args.i (pick_of c.args.faulty) (last_by c.args.r) (inl (sym c.in_default.ensures.number)))

pub returns-then-lowest-r : goal.returns-then-lowest-r
unfolding fault_by
returns-then-lowest-r c =
    let lowest = c.in-Some-faulty.lowest in
    let p = pick_of (Some lowest) in
    rw c.in-Some-faulty.is
    (sym (better-same (fault_by c.args.r.nodes) c.args.i p (last_by c.args.r) (inr (not_found lowest.fault lowest.refused, c.if-lowest-r.true))))

pub returns : goal.returns
unfolding fault_by
returns c =
    let a = c.args in
    let e = c.in-Some.ensures.number in
    let ne = not_found c.in-Some.fault c.in-Some.ensures.refused in
    let y : ((pick_of a.faulty).fault ≡ 0) ⊎ (a.r.from < (pick_of a.faulty).start) =
    elim c.match-faulty.branch [
      | in-Some-faulty+else-lowest-r w ↦ inr (rw w.in-Some-faulty.is w.if-lowest-r.false)
      | in_default-faulty w ↦ inl (rw w.in_default-faulty.is refl)
    ] in
    ap {B = Pick} (λ n. record { fault = n; start = a.r.from; at = a.i }) e
    ∙ sym (better-new (fault_by a.r.nodes) a.i (pick_of a.faulty) (last_by a.r) ((λ z. ne (e ∙ z)), y))
