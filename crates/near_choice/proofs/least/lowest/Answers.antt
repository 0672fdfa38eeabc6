-- Each rank's route is compared with the marked one, and the lower fraction kept (`lowest_step`).
use Rattle.std.proofs.Common.{◌+◌, ◌≤◌, get_or, drop, length, refl, sym, ap, subst, ◌∙◌, arith}
use Rattle.route_list.specs.Listed.{Words}
use Rattle.route_apart.specs.Marks.{marked_of, apart_by}
use Rattle.variety.specs.Variety.{lower}
use Rattle.near_choice.specs.Choosing.{Few, lowest, aparts_by}
use Rattle.near_choice.proofs.RankLaws.{lowest_step, lowest-done, slot-few, slot-words, apart-few}
use Rattle.near_choice.proofs.least.lowest.Goals as goal

pub loop-i-init : goal.loop-i-init
loop-i-init c = ((c.requires.3, c.requires.4), refl)

pub apart-y-requires : goal.apart-y-requires
apart-y-requires c =
    let below = c.requires.2 c.loop-i.i-index c.loop-i-test.true in
    let rank = get_or c.args.ranks.now c.loop-i.i-index 0 in
    let e = c.slot-one.ensures in (
      c.requires.0.fine,
      subst (Words c.args.table.now) (sym e) (slot-words c.args.table.now c.args.nodes c.args.w c.args.n c.args.list.now c.requires.0 rank below),
      omega (arith, ap length e, slot-few c.args.table.now c.args.nodes c.args.w c.args.n c.args.list.now c.requires.0 rank below),
      c.requires.1,
      subst (λ z. marked_of c.args.table.now c.args.room.now z ≤ c.args.size) (sym e) (c.requires.5 c.loop-i.i-index c.loop-i-test.true),
      c.requires.6,
    )

pub lower-x-requires : goal.lower-x-requires
lower-x-requires c =
    let below = c.requires.2 c.loop-i.i-index c.loop-i-test.true in
    let rank = get_or c.args.ranks.now c.loop-i.i-index 0 in
    let found = c.apart-y.ensures ∙ ap (λ z. apart_by c.args.table.now c.args.room.now z c.args.size) c.slot-one.ensures in (
      c.loop-i.invariant.0,
      subst Few (sym found) (apart-few c.args.table.now c.args.nodes c.args.w c.args.n c.args.list.now c.requires.0 rank below c.args.room.now c.args.size c.requires.6),
    )

pub loop-i-preserved : goal.loop-i-preserved
loop-i-preserved c =
    let found = c.apart-y.ensures ∙ ap (λ z. apart_by c.args.table.now c.args.room.now z c.args.size) c.slot-one.ensures in (
      c.lower-x.ensures.1,
      ap (λ z. lowest z (aparts_by c.args.table.now c.args.w c.args.list.now c.args.room.now c.args.size (drop (c.loop-i.i-index + 1) c.args.ranks.now)))
          (c.lower-x.ensures.0 ∙ ap (lower c.loop-i.x) found)
          ∙ sym (lowest_step c.args.table.now c.args.w c.args.list.now c.args.room.now c.args.size c.args.ranks.now c.loop-i.x c.loop-i.i-index c.loop-i-test.true)
          ∙ c.loop-i.invariant.1,
    )

pub returns : goal.returns
returns c = (
  sym (lowest-done c.args.table.now c.args.w c.args.list.now c.args.room.now c.args.size c.args.ranks.now c.loop-i.x c.loop-i.i-index c.loop-i-test.false)
      ∙ c.loop-i.invariant.1,
  c.loop-i.invariant.0.0,
  c.loop-i.invariant.0.1,
)
