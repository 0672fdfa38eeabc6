-- The greatest share is the one picked, and the lengths of the route and of the first one stand in `lens`; the first of the routes before route i, or route 0
-- itself, is the route of slot 0 (`first-route`). Both parts of both fractions are below 2 ^ 40, and the lower ones above 0 (`greatest-small`, `Routes.positive`).
use mathlib.Core.Path.{◌≡◌, sym, ap, ap₂, ◌∙◌}
use Prim.Native.Nat.{ℕ}
use native.Mathlib.Omega.{arith}
use lib.Ieee.{Float}
use borrow.Author.Rules.{rules}
use Rattle.net.specs.Route.{length_of}
use Rattle.table.specs.Table.{arcs_of}
use Rattle.ratios.specs.Ratios.{quotient}
use Rattle.ratios.specs.Routes.{route_at}
use Rattle.products.specs.declared.Fraction.{Fraction}
use Rattle.ratios.specs.declared.Ratios.{Ratios}
use Rattle.ratios.proofs.RouteLaws.{small_is, best, greatest-small, first-route}
use Rattle.ratios.proofs.of.Statement.{statement}
use Rattle.ratios.proofs.of.Tie as tie

abbrev start : tie.After-greatest → tie.Start
start c = c.before.before.before.before.before.before.before

-- the greatest share
abbrev greatest : tie.Start → Fraction
greatest s = best s.requires (route_at s.args.ask s.args.area.now s.args.i) s.args.i

quotient-requires : tie.Need-quotient-requires
quotient-requires c κs =
    let s = start c in
    small_is c.greatest.result (greatest s) c.greatest.ensures (greatest-small s.requires s.args.i s.args.i (omega arith) (omega arith))

quotient-requires-2 : tie.Need-quotient-requires-2
quotient-requires-2 c κs =
    let s = start c.before in
    let r = s.requires in
    (omega (arith, r.most s.args.i (omega arith)), r.positive 0 (omega arith), omega (arith, r.most 0 (omega arith)))

abbrev fraction : ℕ → ℕ → Fraction
fraction over under = record { over = over; under = under }

abbrev figures : Float → Float → Ratios
figures overlap detour = record { overlap = overlap; detour = detour }

figure : (r : Float) (f g : Fraction) → r ≡ quotient f → f ≡ g → r ≡ quotient g
figure r f g h e = h ∙ ap quotient e

returns : tie.Need-returns
returns c =
    let s = start c.before.before in
    let arcs = arcs_of s.args.table.now in
    ap₂ figures
    (figure c.quotient.result c.greatest.result (greatest s) c.quotient.ensures c.greatest.ensures)
    (figure c.quotient-2.result _ _ c.quotient-2.ensures
    (ap₂ fraction (s.requires.lengths s.args.i (omega arith)) (s.requires.lengths 0 (omega arith) ∙ ap (length_of arcs) (sym (first-route s.args.ask s.args.area.now s.args.i)))))

pub of_spec : {M : Type 1} → statement M
of_spec =
    tie.close
    (tie.spec
    (λ c. search rules)
    (λ c. search rules)
    (λ c. search rules)
    (λ c κs. search rules)
    quotient-requires
    quotient-requires-2
    returns)
