-- The slots are in the area, so that the fill fits. Of a record of the plan the arcs lie in the area, and once they are written it is passed.
use mathlib.Core.Path.{◌≡◌, sym, ap, subst, ◌∙◌}
use mathlib.Core.List.{List}
use mathlib.Core.Logic.{◌≢◌}
use mathlib.Core.Bool.{false}
use Rattle.std.proofs.Common.{arith, ℕ, ◌+◌, ◌*◌, ◌≤◌, ◌<◌, length}
use Rattle.words.specs.Part.{patch}
use Rattle.plan_record.specs.Record.{records, plan_at, rank_at, used_at, part_at, part_arcs, arcs_at}
use Rattle.plan_file.specs.File.{wrong_file}
use Rattle.plan_file.specs.Meaning.{plan_in}
use Rattle.plan_file.proofs.SoundLaws.{sound-e}
use Rattle.plan_file.proofs.MeaningLaws.{used-most, plan-ranked}
use Rattle.plan_fetch.specs.Fetch.{too_small}
use Rattle.plan_fetch.proofs.PassLaws.{room, record-fits}
use Rattle.plan_fetch.proofs.LayLaws.{Laid, laid_none, laid-self, laid-over, laid-skip, in_area, laid-step, laid-all}
use Rattle.plan_fetch.proofs.lay.Goals as goal
use Rattle.plan_fetch.proofs.lay.Goals.{then-plan, else-plan}

module _ (f : List ℕ) (plan w n : ℕ) (slots : List ℕ) (right : wrong_file f ≡ false) (some : plan ≢ 0) (count : n ≡ length (plan_in f plan)) (large : too_small (plan_in f plan) slots w ≡ false) where
  roomy : n * w ≤ length slots
  roomy = omega (arith, ap (λ x. x * w) count, room f (sound-e f right) plan some w slots large)

  -- a record of the plan, where `on` is what the fill left and s what stands so far
  module _ (on s : List ℕ) (i : ℕ) (size : length on ≡ length slots) (here : i < records f) (own : plan_at f i ≡ plan) (laid : Laid f plan w n on i s) where
    low : rank_at f i < n
    low = omega (arith, (plan-ranked f (sound-e f right) plan some).below i here own)

    fits : part_at f i * part_arcs + used_at f i ≤ w
    fits = record-fits f (sound-e f right) plan some w slots large i here own

    many : n * w ≤ length on
    many = omega (arith, roomy)

    inside : rank_at f i * w + part_at f i * part_arcs + used_at f i ≤ length s
    inside = in_area f (sound-e f right) plan some w n on i s here own low fits many laid

    passed : Laid f plan w n on (i + 1) (patch (rank_at f i * w + part_at f i * part_arcs) (rank_at f i * w + part_at f i * part_arcs + used_at f i) s (arcs_at f i))
    passed = laid-step f (sound-e f right) plan some w n on i s here own low fits many laid

pub overflow_mul-routes : goal.overflow_mul-routes
overflow_mul-routes c = omega (arith, roomy c.args.file.now c.args.plan c.args.width c.args.routes c.args.slots.now c.requires.0 c.requires.1 c.requires.2 c.requires.3)

pub fill_part-requires : goal.fill_part-requires
fill_part-requires c = (omega arith, roomy c.args.file.now c.args.plan c.args.width c.args.routes c.args.slots.now c.requires.0 c.requires.1 c.requires.2 c.requires.3)

pub loop-i-init : goal.loop-i-init
loop-i-init c = laid-self _ _ _ _ _ _ _ (laid_none c.args.file.now c.args.plan c.args.width c.args.routes c.args.slots.now c.fill_part.new.b (roomy c.args.file.now c.args.plan c.args.width c.args.routes c.args.slots.now c.requires.0 c.requires.1 c.requires.2 c.requires.3) c.fill_part.ensures)

pub put_part-requires : goal.put_part-requires
put_part-requires c =
    let own = sym c.plan.ensures ∙ c.if-plan.true in (
      c.loop-i-test.true,
      used-most c.args.file.now (sound-e c.args.file.now c.requires.0) c.loop-i.i c.loop-i-test.true (λ z. c.requires.1 (sym own ∙ z)),
      omega (arith, inside c.args.file.now c.args.plan c.args.width c.args.routes c.args.slots.now c.requires.0 c.requires.1 c.requires.2 c.requires.3 c.fill_part.new.b c.loop-i.slots c.loop-i.i c.fill_part.auto.b c.loop-i-test.true own c.loop-i.invariant),
    )

pub loop-i-preserved : goal.loop-i-preserved
loop-i-preserved c =
    let laid = Laid c.args.file.now c.args.plan c.args.width c.args.routes c.fill_part.new.b (c.loop-i.i + 1) in
    elim c.if-plan.branch [
      | then-plan w ↦ subst laid (sym (w.slots-is ∙ w.put_part.ensures)) (passed c.args.file.now c.args.plan c.args.width c.args.routes c.args.slots.now c.requires.0 c.requires.1 c.requires.2 c.requires.3 c.fill_part.new.b c.loop-i.slots c.loop-i.i c.fill_part.auto.b c.loop-i-test.true (sym c.plan.ensures ∙ w.if-plan.true) c.loop-i.invariant)
      | else-plan w ↦
          subst laid (sym w.slots-is)
          (laid-skip c.args.file.now c.args.plan c.args.width c.args.routes c.fill_part.new.b c.loop-i.i c.loop-i.slots c.loop-i-test.true (λ z. w.if-plan.false (c.plan.ensures ∙ z)) c.loop-i.invariant)
    ]

pub returns : goal.returns
returns c =
    let blank = laid_none c.args.file.now c.args.plan c.args.width c.args.routes c.args.slots.now c.fill_part.new.b (roomy c.args.file.now c.args.plan c.args.width c.args.routes c.args.slots.now c.requires.0 c.requires.1 c.requires.2 c.requires.3) c.fill_part.ensures in
    laid-all c.args.file.now (sound-e c.args.file.now c.requires.0) c.args.plan c.requires.1 c.args.width c.args.slots.now c.requires.3 c.loop-i.i c.loop-i.slots (omega arith)
    (subst (λ n. Laid c.args.file.now c.args.plan c.args.width n c.args.slots.now c.loop-i.i c.loop-i.slots) c.requires.2
    (laid-over c.args.file.now c.args.plan c.args.width c.args.routes c.args.slots.now 0 c.fill_part.new.b c.loop-i.i c.loop-i.slots blank c.loop-i.invariant))
