-- A turn clears one label more (`clear-more`).
use Rattle.std.proofs.Common.{◌≡◌, ap, ◌∙◌, arith}
use Rattle.search_clear.specs.Clear.{clear_work}
use Rattle.search_clear.proofs.ClearLaws.{clear-more, clear_none}
use Rattle.search_clear.proofs.clear_work.Goals as goal

pub loop-i-init : goal.loop-i-init
loop-i-init c = clear_none c.args.labels.now

pub loop-i-preserved : goal.loop-i-preserved
loop-i-preserved c = clear-more _ _ _ _ _ _ c.loop-i.invariant c.write32.ensures c.write64.ensures c.write64-in-loop-i.ensures

pub returns : goal.returns
returns c =
    let e : c.loop-i.i ≡ c.args.n = omega arith in
    c.loop-i.invariant ∙ ap (λ i. clear_work i c.args.labels.now) e
