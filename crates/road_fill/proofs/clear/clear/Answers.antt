-- The table keeps its length, so that each record to be cleared lies in it.
use Rattle.std.proofs.Common.{◌≡◌, ◌+◌, ◌*◌, sym, ap, arith, ◌∙◌}
use Rattle.words.specs.Number.{put}
use Rattle.road_fill.specs.Filled.{cleared}
use Rattle.road_fill.proofs.ClearLaws.{cleared-none, cleared-step}
use Rattle.road_fill.proofs.clear.clear.Goals as goal

pub loop-i-init : goal.loop-i-init
loop-i-init c = (sym (cleared-none c.args.table.now), λ k. (c.type_inv.table k).fits)

pub loop-i-preserved : goal.loop-i-preserved
loop-i-preserved c =
    let a = c.loop-i in
    (c.write32.ensures ∙ ap (λ l. put 4 l (a.i * 16 + 12) 0) a.invariant.0 ∙ cleared-step a.i c.args.table.now a.invariant.1 (omega arith), a.invariant.1)

pub returns : goal.returns
returns c =
    let e : c.loop-i.i ≡ c.args.n = omega arith in
    c.loop-i.invariant.0 ∙ ap (λ i. cleared i c.args.table.now) e
