-- A turn takes the greater of it and the next share (`greatest-turn`).
use Rattle.std.proofs.Common.{◌≡◌, refl, ap, ◌∙◌, arith}
use Rattle.search_ask.specs.Earlier.{earlier_in}
use Rattle.ratios.specs.Ratios.{greatest_from}
use Rattle.ratios.specs.Routes.{route_at}
use Rattle.ratios.proofs.RouteLaws.{best, greatest-turn}
use Rattle.ratios.proofs.share.greatest.Goals as goal

pub loop-j-init : goal.loop-j-init
unfolding greatest_from earlier_in
loop-j-init c = refl

pub share-requires : goal.share-requires
share-requires c = (c.requires, c.loop-j-test.true)

pub loop-j-preserved : goal.loop-j-preserved
loop-j-preserved c =
    c.greater_of-f.ensures
    ∙ greatest-turn c.requires (route_at c.args.ask c.args.area.now c.args.i) c.loop-j.j c.loop-j.f c.share.result c.loop-j.invariant c.share.ensures

pub returns : goal.returns
returns c =
    let e : c.loop-j.j ≡ c.args.i = omega arith in
    c.loop-j.invariant ∙ ap (best c.requires (route_at c.args.ask c.args.area.now c.args.i)) e
