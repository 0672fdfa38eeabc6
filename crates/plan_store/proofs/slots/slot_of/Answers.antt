-- The part of `width` words from word r * width on.
use mathlib.Core.Path.{◌≡◌}
use Rattle.std.proofs.Common.{arith, ◌+◌, ◌-◌, ◌*◌}
use Rattle.words.specs.Part.{slot}
use Rattle.plan_store.proofs.slots.slot_of.Goals as goal

pub returns : goal.returns
unfolding slot
returns c =
    let a = c.args in
    let e : a.r * a.width + a.width - a.r * a.width ≡ a.width = omega arith in
    rw e
