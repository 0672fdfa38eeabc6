-- The slot lies within the area, by what is required, and has as many words as a slot has; the part is its first words.
use mathlib.Core.Path.{ap, ◌∙◌}
use native.Mathlib.Nat.{sub-zero}
use native.Mathlib.Omega.{arith}
use lib.ListN.{length, take}
use borrow.Author.Rules.{rules}
use Rattle.search_ask.specs.Ask.{width}
use Rattle.ratios.proofs.RouteLaws.{slot-length}
use Rattle.ratios.proofs.share.route.Statement.{statement}
use Rattle.ratios.proofs.share.route.Tie as tie

part-result-end : tie.Need-slice_bounds-result-end
part-result-end c =
    let s = c in
    omega (arith, ap length c.slot-slot.ensures, slot-length (width s.args.ask) s.args.j s.args.area.now s.requires.1, s.requires.2)

returns : tie.Need-returns
returns c =
    let s = c in
    ap (λ n. take n c.slot-slot.result.now) (sub-zero s.args.count) ∙ ap (take s.args.count) c.slot-slot.ensures

pub route_spec : {M : Type 1} → statement M
route_spec =
    tie.close (tie.spec (λ c κs. search rules) (λ c. search rules) (λ c. search rules) part-result-end returns)
