-- A round more keeps the invariant, and fewer are left.
use Rattle.std.proofs.Common.{refl, ap, [], arith}
use Rattle.query_rounds.specs.Progress.{progress, to_end}
use Rattle.query_rounds.proofs.RoundsLaws.{gone-start, gone-step, gone-underway}
use Rattle.test_round_figures.proofs.run.rounds.Goals as goal

pub loop-x-init : goal.loop-x-init
loop-x-init c =
    gone-start c.args.ask c.args.t.now [] c.args.k c.args.labels.now c.fill_part.new.b c.requires.1 c.args.area.now c.fill_part.ensures _ _ _ (refl, refl, refl)

pub step-x-requires : goal.step-x-requires
step-x-requires c =
    let i = c.loop-x.invariant in (
      record {
        accepted = c.requires.0.accepted;
        room = omega (arith, c.requires.0.room, i.labels-long);
        few = c.requires.0.few;
        slots = omega (arith, c.requires.0.slots, i.area-long, c.fill_part.auto.b);
      },
      gone-underway c.args.ask c.args.t.now [] c.args.k c.args.labels.now c.fill_part.new.b c.loop-x.labels c.loop-x.area
          (progress c.loop-x.x.r c.loop-x.x.stage c.loop-x.lens c.loop-x.arcs c.loop-x.counts) i c.in-GoesOn.is,
    )

pub loop-x-smaller : goal.loop-x-smaller
loop-x-smaller c = omega (arith, c.step-x.ensures.1.less, ap to_end c.in-GoesOn.is)

pub loop-x-preserved : goal.loop-x-preserved
loop-x-preserved c =
    gone-step c.args.ask c.args.t.now [] c.args.k c.args.labels.now c.fill_part.new.b c.loop-x.labels c.loop-x.area
    (progress c.loop-x.x.r c.loop-x.x.stage c.loop-x.lens c.loop-x.arcs c.loop-x.counts) c.loop-x.invariant _ _ _ c.step-x.ensures.0 c.step-x.ensures.1
