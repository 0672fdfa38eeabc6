-- The marks are those of the route, and nothing is known before the loop; a turn is `judge`.
use Rattle.std.proofs.Common.{◌≡◌, [], ◌∷◌, refl, sym, ap, subst, ◌∙◌, arith}
use Rattle.search_ask.specs.Ask.{query_for}
use Rattle.search_ask.specs.Earlier.{route_in}
use Rattle.search_ask.proofs.AskLaws.{few-records}
use Rattle.search_driven.specs.Marks.{Filter}
use Rattle.search_driven.proofs.MarksLaws.{filter-slot}
use Rattle.net.specs.Route.{length_of}
use Rattle.table.specs.Table.{records, arcs_of}
use Rattle.via_drop.specs.Drop.{Dropped}
use Rattle.via_drop.specs.Walks.{JudgedTo}
use Rattle.via_drop.proofs.BesideLaws.{queue-kept}
use Rattle.via_drop.proofs.WalkLaws.{dropping-begun}
use Rattle.via_drop.proofs.LedLaws.{led-prepared}
use Rattle.via_drop.proofs.DropLaws.{judged-start, judged-more, judged-since, dropped-all, route-is, route-formed}
use Rattle.via_drop.proofs.near.Goals as goal

pub mark_slot-requires : goal.mark_slot-requires
mark_slot-requires c = (few-records c.requires.0, refl)

pub begin-requires : goal.begin-requires
begin-requires c = (c.requires.1.roomy, c.requires.0.s-below, c.requires.0.goal-below)

pub loop-v-init : goal.loop-v-init
loop-v-init c =
    let ask = c.args.ask in
    let t = c.args.table.now in
    let route = c.args.route.now in
    let good = c.requires.0 in
    let few = few-records good in
    let led = led-prepared ask t c.args.closed.now (route_in route) c.args.room.now good c.requires.1 in
    let marked : Filter t (route_in route ∷ []) c.mark_slot.new.marks =
    subst (Filter t (route_in route ∷ [])) (sym c.mark_slot.ensures) (filter-slot t route _ refl) in
    record {
      dropping = dropping-begun good marked (route-formed (records t) route few c.requires.3) led c.begin.ensures;
      judged = judged-start ask t (route_in route) _ (queue-kept c.begin.ensures.within c.requires.2);
    }

pub judge-first-requires : goal.judge-first-requires
judge-first-requires c =
    let t = c.args.table.now in
    let route = c.args.route.now in
    let same : route_in route ≡ route = route-is (records t) route (few-records c.requires.0) c.requires.3 in
    let i = c.loop-v.invariant in (
      i.dropping,
      c.loop-v-test.true,
      i.judged.queue,
      c.requires.4 ∙ ap (length_of (arcs_of t)) (sym same),
    )

pub loop-v-preserved : goal.loop-v-preserved
loop-v-preserved c =
    record {
      dropping = c.judge-first.ensures.0;
      judged = judged-more c.args.ask c.args.table.now (route_in c.args.route.now) c.begin.new.room c.loop-v.v
          c.loop-v-test.true c.loop-v.invariant.judged c.judge-first.ensures.1;
    }

pub returns : goal.returns
returns c =
    let ask = c.args.ask in
    let t = c.args.table.now in
    let room = c.args.room.now in
    let route = c.args.route.now in
    let same : route_in route ≡ route = route-is (records t) route (few-records c.requires.0) c.requires.3 in
    let last : c.loop-v.v ≡ ask.nodes = omega arith in
    let since = judged-since ask t (route_in route) room c.begin.ensures.within c.loop-v.invariant.judged in
    let all = subst (λ i. JudgedTo ask t (route_in route) room i c.loop-v.room c.loop-v.first) last since in
    subst (λ e. Dropped (query_for ask t c.args.closed.now []) e room c.loop-v.room c.loop-v.first) same
    (dropped-all ask t (route_in route) room c.args.closed.now all)
