-- A round more keeps the invariant, and fewer are left. At the end the labels are cleared, and what was made are the query's rounds.
use Rattle.std.proofs.Common.{refl, ap, arith}
use Rattle.query_rounds.specs.Progress.{progress, to_end}
use Rattle.query_rounds.proofs.RoundsLaws.{gone-start, gone-step, gone-underway, gone-end}
use Rattle.query_rounds.proofs.all.Goals as goal

pub loop-x-init : goal.loop-x-init
loop-x-init c =
    gone-start c.args.ask c.args.table.now c.args.closed.now c.args.k c.args.labels.now c.fill_part.new.b c.requires.1 c.args.area.now c.fill_part.ensures _ _ _ c.requires.2

pub step-x-requires : goal.step-x-requires
step-x-requires c =
    let i = c.loop-x.invariant in (
      record {
        accepted = c.requires.0.accepted;
        room = omega (arith, c.requires.0.room, i.labels-long);
        few = c.requires.0.few;
        slots = omega (arith, c.requires.0.slots, i.area-long, c.fill_part.auto.b);
      },
      gone-underway c.args.ask c.args.table.now c.args.closed.now c.args.k c.args.labels.now c.fill_part.new.b c.loop-x.labels c.loop-x.area
          (progress c.loop-x.x.r c.loop-x.x.stage c.loop-x.lens c.loop-x.arcs c.loop-x.counts) i c.in-GoesOn.is,
    )

pub loop-x-smaller : goal.loop-x-smaller
loop-x-smaller c = omega (arith, c.step-x.ensures.1.less, ap to_end c.in-GoesOn.is)

pub loop-x-preserved : goal.loop-x-preserved
loop-x-preserved c =
    gone-step c.args.ask c.args.table.now c.args.closed.now c.args.k c.args.labels.now c.fill_part.new.b c.loop-x.labels c.loop-x.area
    (progress c.loop-x.x.r c.loop-x.x.stage c.loop-x.lens c.loop-x.arcs c.loop-x.counts) c.loop-x.invariant _ _ _ c.step-x.ensures.0 c.step-x.ensures.1

pub tell-requires : goal.tell-requires
tell-requires c = omega (arith, c.loop-x.invariant.underway.few, c.requires.0.few)

pub returns : goal.returns
returns c =
    gone-end c.args.ask c.args.table.now c.args.closed.now c.args.k c.args.labels.now c.fill_part.new.b c.loop-x.labels c.loop-x.area
    (progress c.loop-x.x.r c.loop-x.x.stage c.loop-x.lens c.loop-x.arcs c.loop-x.counts) c.loop-x.invariant c.args.area.now c.requires.0.few
    c.fill_part.ensures c.in_default.not-GoesOn _ c.fill.ensures _ c.tell.ensures refl refl
