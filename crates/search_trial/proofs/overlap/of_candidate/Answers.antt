-- A turn reads what the label holds and adds the arc's share, which is nothing where the filter has no bit for the arc; the sum fits 64 bits, since an overlap is no
-- more than the length.
use Rattle.std.proofs.Common.{◌≡◌, sym, ap, ap₂, subst, ◌∙◌, List, [], ◌∷◌, false, ℕ, ◌+◌, ◌<◌, length, take, get_or, arith, rules}
use Rattle.std.proofs.Math.Seq.{take_all}
use Rattle.net.specs.Net.{driven}
use Rattle.net.specs.Route.{overlap}
use Rattle.table.specs.Table.{roads_of}
use Rattle.table.proofs.FaultLaws.{good-size}
use Rattle.labels.specs.Field.{overlap_at}
use Rattle.labels.proofs.OverlapLaws.{length-overlaps_of, overlaps-at}
use Rattle.search_ask.specs.declared.Ask.{Ask}
use Rattle.search_ask.specs.Ask.{net_for, width}
use Rattle.search_ask.specs.Earlier.{route_in, earlier_in, Formed}
use Rattle.search_ask.proofs.AskLaws.{lengths-most}
use Rattle.search_ask.proofs.EarlierLaws.{length-earlier_in, get_or-earlier_in, mem-earlier_in}
use Rattle.search_driven.proofs.MarksLaws.{unmarked}
use Rattle.search_trial.proofs.OverlapLaws.{candidate-overlap, candidate-limit, sums-step}
use Rattle.search_trial.proofs.overlap.of_candidate.Invariants.{sums}
use Rattle.search_trial.proofs.overlap.of_candidate.Goals as goal
use Rattle.search_trial.proofs.overlap.of_candidate.Goals.{After-overlap}

many : (ask : Ask) (r : ℕ) (area : List ℕ) → length (earlier_in (width ask) r area) ≡ r
many ask r area = length-earlier_in (width ask) r area

long : (table : List ℕ) (ask : Ask) (area labels : List ℕ) (r label arc : ℕ) → length (sums table ask area labels r label arc) ≡ r
long table ask area labels r label arc = length-overlaps_of (net_for ask table []) (earlier_in (width ask) r area) _ ∙ many ask r area

below : (c : After-overlap) → c.loop-j.j < length (earlier_in (width c.args.ask) c.args.x.r c.args.area.now)
below c = omega (arith, many c.args.ask c.args.x.r c.args.area.now, c.loop-j-test.true)

sum_is : (c : After-overlap)
    → c.overlap.result + c.share_of-share.result ≡ overlap_at c.args.labels.now c.args.x.c.label c.loop-j.j + overlap (net_for c.args.ask c.args.table.now []) (c.args.x.c.arc ∷ []) (get_or (earlier_in (width c.args.ask) c.args.x.r c.args.area.now) c.loop-j.j [])
sum_is c =
    let net = net_for c.args.ask c.args.table.now [] in
    ap₂ ◌+◌ c.overlap.ensures
    (c.share_of-share.ensures ∙ ap (λ l. overlap net (c.args.x.c.arc ∷ []) (route_in l)) c.slot.ensures
    ∙ ap (overlap net (c.args.x.c.arc ∷ [])) (sym (get_or-earlier_in (width c.args.ask) c.args.x.r c.args.area.now c.loop-j.j c.loop-j-test.true)))

pub may_drive-may-requires : goal.may_drive-may-requires
may_drive-may-requires c = (c.requires.0.among.arc-below, (good-size _ _ c.requires.0.searching.accepted.no-fault).3, c.requires.1.long)

-- without its bit the arc is on no road that the earlier answers drive
pub share_of-share-requires : goal.share_of-share-requires
share_of-share-requires c =
    let ok = c.requires.0 in (
      ok.searching.accepted,
      ok.among.arc-below,
      subst Formed (sym c.slot.ensures) (ok.formed c.loop-j.j c.loop-j-test.true),
      λ e.
          subst (λ l. driven (roads_of c.args.table.now) (route_in l) c.args.x.c.arc ≡ false) (sym c.slot.ensures)
          (unmarked c.requires.1 c.args.x.c.arc ok.among.arc-below (sym c.may_drive-may.ensures ∙ e) _
          (mem-earlier_in (width c.args.ask) c.args.x.r c.args.area.now c.loop-j.j c.loop-j-test.true)),
    )

pub overlap-requires : goal.overlap-requires
overlap-requires c =
    let ok = c.requires.0 in (
      omega (arith, ok.among.label-below, ok.searching.standing.down.room),
      omega (arith, many c.args.ask c.args.x.r c.args.area.now, ok.holding.few, c.loop-j-test.true),
    )

pub overflow_add-own : goal.overflow_add-own
overflow_add-own c =
    let here = (goal.at.overflow_add-own c).After-overlap in
    let ok = c.requires.0 in
    omega (arith, sum_is here, candidate-limit (net_for c.args.ask c.args.table.now []) ok.searching.standing (lengths-most ok.searching.accepted) c.args.x.c.label c.args.x.c.arc ok.among.label-below ok.holding c.loop-j.j (below here))

pub loop-j-preserved : goal.loop-j-preserved
loop-j-preserved c =
    let here = (goal.at.loop-j-preserved c).After-overlap in
    let ok = c.requires.0 in
    let net = net_for c.args.ask c.args.table.now [] in
    let earlier = earlier_in (width c.args.ask) c.args.x.r c.args.area.now in
    let os = sums c.args.table.now c.args.ask c.args.area.now c.args.labels.now c.args.x.r c.args.x.c.label c.args.x.c.arc in
    let n = long c.args.table.now c.args.ask c.args.area.now c.args.labels.now c.args.x.r c.args.x.c.label c.args.x.c.arc in
    let v = sum_is here ∙ candidate-overlap net ok.searching.standing (lengths-most ok.searching.accepted) c.args.x.c.label c.args.x.c.arc ok.among.label-below ok.holding c.loop-j.j (below here) in
    record {
      long = search rules;
      so_far =
          sums-step os c.loop-j.own c.loop-j.j _ (omega (arith, c.loop-j.invariant.long, c.requires.2, c.loop-j-test.true)) (omega (arith, n, c.loop-j-test.true)) c.loop-j.invariant.so_far
          (v ∙ sym (overlaps-at net earlier _ c.loop-j.j (below here)));
    }

pub returns : goal.returns
returns c =
    let os = sums c.args.table.now c.args.ask c.args.area.now c.args.labels.now c.args.x.r c.args.x.c.label c.args.x.c.arc in
    let n = long c.args.table.now c.args.ask c.args.area.now c.args.labels.now c.args.x.r c.args.x.c.label c.args.x.c.arc in
    let e : c.args.x.r ≡ c.loop-j.j = omega arith in
    (c.loop-j.invariant.long, ap (λ k. take k c.loop-j.own) e ∙ c.loop-j.invariant.so_far ∙ take_all c.loop-j.j os (omega (arith, n)))
