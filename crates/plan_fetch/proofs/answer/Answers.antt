-- The slots are too small where a route is longer than their width, or where the area is shorter than the slots; else each route is laid in its slot. A plan has
-- twelve routes at most, so the sum of the widths does not overflow.
use mathlib.Core.Path.{sym, ap, ◌∙◌}
use native.Mathlib.Nat.{mul-le-mul_right}
use Rattle.std.proofs.Common.{arith, ◌*◌, ◌≤◌}
use Rattle.net.specs.Limits.{most_routes}
use Rattle.outcome.specs.Outcome.{found, beside}
use Rattle.plan_file.specs.Meaning.{plan_in}
use Rattle.plan_file.proofs.SoundLaws.{sound-e}
use Rattle.plan_file.proofs.MeaningLaws.{plan-most}
use Rattle.plan_fetch.proofs.PassLaws.{too-narrow, too_few, large-enough}
use Rattle.plan_fetch.proofs.answer.Goals as goal

pub returns-then-narrow-clause-told : goal.returns-then-narrow-clause-told
returns-then-narrow-clause-told c = rw (too-narrow (plan_in c.args.file.now c.args.plan) c.args.slots.now c.args.width (sym c.narrow.ensures ∙ c.if-narrow.true)) c.plain.ensures

pub returns-then-narrow-clause-area : goal.returns-then-narrow-clause-area
returns-then-narrow-clause-area c = rw (too-narrow (plan_in c.args.file.now c.args.plan) c.args.slots.now c.args.width (sym c.narrow.ensures ∙ c.if-narrow.true))

pub overflow_mul-count : goal.overflow_mul-count
overflow_mul-count c =
    let most : c.routes-count.result ≤ most_routes = omega (arith, c.routes-count.ensures, plan-most c.args.file.now (sound-e c.args.file.now c.requires.0) c.args.plan c.requires.1) in
    omega (arith, mul-le-mul_right {m = c.routes-count.result} {n = most_routes} c.args.width most)

pub returns-then-slots-count-clause-told : goal.returns-then-slots-count-clause-told
returns-then-slots-count-clause-told c =
    rw (too_few (plan_in c.args.file.now c.args.plan) c.args.slots.now c.args.width (sym c.narrow.ensures ∙ c.if-narrow.false) (omega (arith, c.if-slots-count.true, ap (λ x. x * c.args.width) c.routes-count.ensures))) c.plain-then-slots-count.ensures

pub returns-then-slots-count-clause-area : goal.returns-then-slots-count-clause-area
returns-then-slots-count-clause-area c =
    rw (too_few (plan_in c.args.file.now c.args.plan) c.args.slots.now c.args.width (sym c.narrow.ensures ∙ c.if-narrow.false) (omega (arith, c.if-slots-count.true, ap (λ x. x * c.args.width) c.routes-count.ensures)))

pub lay-requires : goal.lay-requires
lay-requires c = (
  c.requires.0,
  c.requires.1,
  c.routes-count.ensures,
  large-enough (plan_in c.args.file.now c.args.plan) c.args.slots.now c.args.width (sym c.narrow.ensures ∙ c.if-narrow.false) (omega (arith, c.if-slots-count.false, ap (λ x. x * c.args.width) c.routes-count.ensures)),
)

pub overflow_cast-result : goal.overflow_cast-result
overflow_cast-result c = omega (arith, c.routes-count.ensures, plan-most c.args.file.now (sound-e c.args.file.now c.requires.0) c.args.plan c.requires.1)

pub returns-clause-told : goal.returns-clause-told
returns-clause-told c =
    rw (large-enough (plan_in c.args.file.now c.args.plan) c.args.slots.now c.args.width (sym c.narrow.ensures ∙ c.if-narrow.false) (omega (arith, c.if-slots-count.false, ap (λ x. x * c.args.width) c.routes-count.ensures))) (ap (beside found) c.routes-count.ensures)

pub returns-clause-area : goal.returns-clause-area
returns-clause-area c =
    rw (large-enough (plan_in c.args.file.now c.args.plan) c.args.slots.now c.args.width (sym c.narrow.ensures ∙ c.if-narrow.false) (omega (arith, c.if-slots-count.false, ap (λ x. x * c.args.width) c.routes-count.ensures))) c.lay.ensures
