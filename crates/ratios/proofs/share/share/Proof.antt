-- The first words of the two slots are the routes (`Routes.front`), and what route_in takes out of a route is the route; the length of the earlier one stands in
-- `lens` (`Routes.lengths`).
use mathlib.Core.Path.{◌≡◌, sym, ap, ap₂, subst, ◌∙◌}
use Prim.Native.Nat.{ℕ, ◌+◌, ◌<◌}
use native.Mathlib.Omega.{arith}
use lib.ListN.{length, get_or}
use mir.Syntax.{w64}
use mir.Val.{Fits}
use borrow.Author.Rules.{rules}
use Rattle.search_ask.proofs.AskLaws.{nodes-least, nodes-most}
use Rattle.ratios.specs.Routes.{Arcs, route_at}
use Rattle.products.specs.declared.Fraction.{Fraction}
use Rattle.ratios.proofs.RouteLaws.{slot-within, route-short, overlap-is}
use Rattle.ratios.proofs.share.share.Statement.{statement}
use Rattle.ratios.proofs.share.share.Tie as tie

abbrev start : tie.After-shared_slice_known-5-1 → tie.Start
start c = c.before.before.before.before.before

i-below : (s : tie.Start) → s.args.i < s.args.i + 1
i-below s = omega arith

j-below : (s : tie.Start) → s.args.j < s.args.i + 1
j-below s = omega (arith, s.requires.1)

-- a number of arcs fits the word that counts a part
few : (s : tie.Start) (n : ℕ) → n < s.args.i + 1 → Fits w64 (get_or s.args.counts.now n 0)
few s n h = omega (arith, s.requires.0.fits n h, nodes-most s.requires.0.accepted)

route-requires : tie.Need-route-q-requires
route-requires c κs =
    let s = start c in
    (nodes-least s.requires.0.accepted, slot-within s.requires.0 s.args.i (i-below s), s.requires.0.fits s.args.i (i-below s))

route-requires-2 : tie.Need-route-p-requires
route-requires-2 c κs =
    let s = start c.before.before in
    (nodes-least s.requires.0.accepted, slot-within s.requires.0 s.args.j (j-below s), s.requires.0.fits s.args.j (j-below s))

-- the two parts
first-is : (c : tie.After-route-p) → let s = start c.before.before.before in c.route-q.result.now ≡ route_at s.args.ask s.args.area.now s.args.i
first-is c =
    let s = start c.before.before.before in
    c.route-q.ensures ∙ s.requires.0.front s.args.i (i-below s)

second_is : (c : tie.After-route-p) → let s = start c.before.before.before in c.route-p.result.now ≡ route_at s.args.ask s.args.area.now s.args.j
second_is c =
    let s = start c.before.before.before in
    c.route-p.ensures ∙ s.requires.0.front s.args.j (j-below s)

overlap-requires : tie.Need-overlap-requires
overlap-requires c κs =
    let s = start c.before.before.before in (
      s.requires.0.accepted,
      subst (Arcs s.args.table.now) (sym (first-is c)) (s.requires.0.arcs s.args.i (i-below s)),
      omega (arith, ap length (first-is c), route-short s.requires.0 s.args.i (i-below s)),
      subst (Arcs s.args.table.now) (sym (second_is c)) (s.requires.0.arcs s.args.j (j-below s)),
    )

abbrev fraction : ℕ → ℕ → Fraction
fraction over under = record { over = over; under = under }

returns : tie.Need-returns
returns c =
    let k = c.before.before in
    let s = start k.before.before.before in
    ap₂ fraction
    (overlap-is s.requires.0 s.args.i s.args.j k.route-q.result.now k.route-p.result.now c.overlap.result (first-is k) (second_is k) c.overlap.ensures)
    (s.requires.0.lengths s.args.j (j-below s))

pub share_spec : {M : Type 1} → statement M
share_spec =
    tie.close
    (tie.spec
    (λ c. search rules)
    (λ c. search rules)
    (λ c. few (start c) (start c).args.i (i-below (start c)))
    route-requires
    (λ c. search rules)
    (λ c. search rules)
    (λ c. let s = start c.before.before in few s s.args.j (j-below s))
    route-requires-2
    overlap-requires
    (λ c. search rules)
    (λ c. search rules)
    returns)
