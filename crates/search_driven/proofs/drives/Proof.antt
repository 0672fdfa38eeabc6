-- An arc without a road number is a road of its own, and the slot's words tell whether it stands there; else each word's road number does. The word that fills a slot
-- is of no arc's road, so that the route's words tell the same.
use mathlib.Core.Path.{◌≡◌, sym, ◌∙◌}
use Prim.Native.Nat.{◌≤◌}
use native.Mathlib.Omega.{arith}
use borrow.Author.Rules.{rules}
use Rattle.net.specs.Limits.{most_arcs}
use Rattle.net.specs.Net.{road}
use Rattle.net.proofs.Streets.{any-itself}
use Rattle.table.specs.Table.{records, roads_of}
use Rattle.table.proofs.FaultLaws.{good-size}
use Rattle.table.proofs.NetLaws.{road-is}
use Rattle.search_driven.proofs.DrivenLaws.{driven-slot}
use Rattle.search_driven.proofs.drives.Statement.{statement}
use Rattle.search_driven.proofs.drives.Tie as tie

abbrev start : tie.After-road_of-number → tie.Start
start k = k.before.before.before

few : (k : tie.After-road_of-number) → records (start k).args.table.now ≤ most_arcs
few k = (good-size _ _ (start k).requires.0.no-fault).3

number_is : (k : tie.After-road_of-number) → k.road_of-number.result ≡ road (roads_of (start k).args.table.now) (start k).args.arc
number_is k = k.road_of-number.ensures ∙ sym (road-is (start k).args.table.now (start k).args.arc (start k).requires.1)

returns : tie.Need-returns-then-number-eq0
returns c =
    let k = c.before.before in
    let s = start k in
    c.stands_on.ensures
    ∙ sym (any-itself (roads_of s.args.table.now) s.args.arc (sym (number_is k) ∙ c.if-number-eq0.true) s.args.slot.now)
    ∙ sym (driven-slot s.args.ask.nodes s.args.table.now s.args.slot.now s.args.arc (few k) s.requires.1)

returns-2 : tie.Need-returns
returns-2 c =
    let k = c.before.before in
    let s = start k in
    c.drives_road.ensures ∙ sym (driven-slot s.args.ask.nodes s.args.table.now s.args.slot.now s.args.arc (few k) s.requires.1)

pub drives_spec : {M : Type 1} → statement M
drives_spec =
    tie.close
    (tie.spec
    (λ c κs. search rules)
    (λ c. omega (arith, few c.before))
    (λ c κs. ((start c.before).requires.2, λ e. omega (arith, few c.before, (start c.before).requires.1)))
    returns
    (λ c. omega (arith, few c.before))
    (λ c κs. (number_is c.before, omega arith, (start c.before).requires.2, λ e. omega (arith, few c.before, (start c.before).requires.1), few c.before))
    returns-2)
