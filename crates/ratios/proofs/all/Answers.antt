-- A turn stores the record of the next route (`rows-turn`).
use Rattle.std.proofs.Common.{◌≡◌, refl, sym, ap, subst, ◌∙◌, [], ◌+◌, ◌≤◌, arith, rules, length, length-set}
use lib.Ieee.{of_bits}
use Rattle.lists.specs.Tests.{up_from}
use Rattle.net.specs.Limits.{most_routes}
use Rattle.search_ask.specs.Ask.{net_for, width}
use Rattle.search_ask.specs.Earlier.{earlier_in}
use Rattle.search_ask.proofs.EarlierLaws.{length-earlier_in}
use Rattle.ratios.specs.Ratios.{ratios_of, ratios_for}
use Rattle.ratios.specs.Rows.{set_entry}
use Rattle.ratios.specs.Routes.{route_at, answered_in}
use Rattle.ratios.proofs.AnsweredLaws.{answered-most}
use Rattle.ratios.proofs.RouteLaws.{earlier-snoc, routes-fewer}
use Rattle.ratios.proofs.RowsLaws.{Rowed, rows_start, rows-turn, rows_end}
use Rattle.ratios.proofs.all.Goals as goal

pub answered-m-requires : goal.answered-m-requires
answered-m-requires c =
    let e : length c.args.sums.arcs ≡ most_routes = search rules in omega (arith, e, c.requires.few)

pub loop-i-init : goal.loop-i-init
unfolding of_bits earlier_in up_from
loop-i-init c = (refl, refl, rows_start (net_for c.args.ask c.args.table.now []) most_routes c.args.n c.requires.few)

pub of-requires : goal.of-requires
of-requires c = routes-fewer c.requires.routes (c.loop-i.i + 1) (omega (arith, c.answered-m.ensures, c.loop-i-test.true))

pub with-t-requires : goal.with-t-requires
with-t-requires c = omega (arith, c.answered-m.ensures, c.requires.routes.few, c.loop-i-test.true)

pub loop-i-preserved : goal.loop-i-preserved
loop-i-preserved c =
    let net = net_for c.args.ask c.args.table.now [] in
    let t = c.loop-i.t in
    let i = c.loop-i.i in
    let routes = earlier_in (width c.args.ask) i c.args.area.now in
    let x = ratios_of net (route_at c.args.ask c.args.area.now i) routes in
    let stored : c.with-t.result ≡ set_entry t i x = c.with-t.ensures ∙ ap (set_entry t i) c.of.ensures in
    let few : c.args.n ≤ most_routes = c.requires.few in (
      ap (λ r. length r.overlap) stored ∙ length-set t.overlap i x.overlap ∙ c.loop-i.invariant.0,
      ap (λ r. length r.detour) stored ∙ length-set t.detour i x.detour ∙ c.loop-i.invariant.1,
      subst (λ r. Rowed net r c.args.n (earlier_in (width c.args.ask) (i + 1) c.args.area.now)) (sym stored)
          (subst (Rowed net (set_entry t i x) c.args.n) (sym (earlier-snoc (width c.args.ask) i c.args.area.now))
          (rows-turn net t c.args.n i routes (route_at c.args.ask c.args.area.now i) (length-earlier_in (width c.args.ask) i c.args.area.now)
          (omega (arith, c.loop-i-test.true, c.answered-m.ensures, answered-most c.args.sums.arcs c.args.n)) (omega (arith, few, c.loop-i.invariant.0)) (omega (arith, few, c.loop-i.invariant.1)) c.loop-i.invariant.2)),
    )

pub returns : goal.returns
returns c =
    let net = net_for c.args.ask c.args.table.now [] in
    let e : c.loop-i.i ≡ answered_in c.args.sums.arcs c.args.n = omega (arith, c.answered-m.ensures) in
    rows_end net c.loop-i.t c.args.n (earlier_in (width c.args.ask) c.loop-i.i c.args.area.now) c.loop-i.invariant.2
    ∙ ap (λ m. ratios_for net c.args.n (earlier_in (width c.args.ask) m c.args.area.now)) e
