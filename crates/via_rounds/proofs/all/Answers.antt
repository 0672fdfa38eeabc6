-- `going_on` is what the test of the loop asks. After the turns the room is cleared, and what was kept
-- is the profile.
use Rattle.std.proofs.Common.{ℕ, ◌*◌, ◌≤◌, length, sym, ap, ◌∙◌, arith}
use Rattle.outcome.specs.declared.Told.{Told}
use Rattle.search_ask.specs.Ask.{width}
use Rattle.summary.specs.declared.Sums.{Sums}
use Rattle.via_rounds.proofs.TurnLaws.{midway_start, below, taking, midway-step, midway_end}
use Rattle.via_rounds.proofs.LeftLaws.{record-in}
use Rattle.via_rounds.proofs.all.Goals as goal

pub going_on-requires : goal.going_on-requires
going_on-requires c = record-in c.loop-ask.invariant.queue

pub loop-ask-init : goal.loop-ask-init
loop-ask-init c =
    midway_start c.args.ask c.args.table.now c.args.closed.now c.requires.accepted c.args.k c.args.area.now c.args.room.now
    c.begin.new.area c.begin.new.room c.begin.result c.begin.ensures

pub step-x-requires : goal.step-x-requires
step-x-requires c =
    let slots : c.args.k * width c.args.ask ≤ length c.begin.new.area = omega (arith, c.requires.slots, c.begin.auto.area) in
    taking c.args.ask c.args.table.now c.args.closed.now c.requires.accepted c.args.k c.begin.new.area c.begin.new.room
    c.loop-ask.area c.loop-ask.room c.loop-ask.x c.loop-ask.invariant (sym c.going_on.ensures ∙ c.loop-ask-test.true)
    c.requires.few slots

pub loop-ask-smaller : goal.loop-ask-smaller
loop-ask-smaller c =
    omega (
      arith,
      c.step-x.ensures.count,
      below c.args.ask c.args.table.now c.args.closed.now c.requires.accepted c.args.k c.begin.new.area c.begin.new.room
          c.loop-ask.area c.loop-ask.room c.loop-ask.x c.loop-ask.invariant (sym c.going_on.ensures ∙ c.loop-ask-test.true),
    )

pub loop-ask-preserved : goal.loop-ask-preserved
loop-ask-preserved c =
    midway-step c.args.ask c.args.table.now c.args.closed.now c.requires.accepted c.args.k c.begin.new.area c.begin.new.room
    c.loop-ask.area c.loop-ask.room c.loop-ask.x c.loop-ask.invariant (sym c.going_on.ensures ∙ c.loop-ask-test.true)
    c.requires.few c.step-x.new.area c.step-x.new.room c.step-x.result c.step-x.auto.area c.step-x.auto.room c.step-x.ensures

pub returns : goal.returns
returns c =
    let got = c.got_of.ensures in
    midway_end c.args.ask c.args.table.now c.args.closed.now c.requires.accepted c.args.k c.begin.new.area c.begin.new.room
    c.loop-ask.area c.loop-ask.room c.loop-ask.x c.loop-ask.invariant (sym c.going_on.ensures ∙ c.loop-ask-test.false)
    c.requires.few c.args.area.now c.args.room.now c.begin.ensures.area c.begin.ensures.long c.got_of.result _
    (ap {B = Told} (λ y. y.told) got ∙ c.tell.ensures) (ap {B = Sums} (λ y. y.sums) got) (ap {B = ℕ} (λ y. y.n) got) c.fill.ensures
