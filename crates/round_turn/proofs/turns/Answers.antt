-- A turn keeps the invariant, and the number `left_in` falls. Where the search no longer goes on the loop ends, and what `begin` did and the turns since then add up
-- to the whole search.
use Rattle.std.proofs.Common.{◌≡◌, refl, sym, subst, arith, rules}
use Rattle.search_ask.specs.Ask.{query_for, last_in}
use Rattle.search_ask.specs.Earlier.{earlier_of}
use Rattle.search_driven.specs.Marks.{Filter}
use Rattle.search_batch.proofs.BatchLaws.{ahead-zero}
use Rattle.search_cursor.specs.Queue.{Queued}
use Rattle.round_label.specs.Stage.{Going}
use Rattle.round_label.proofs.ListsLaws.{but-trans, earlier-but, slots-but}
use Rattle.round_turn.specs.Turn.{Turned}
use Rattle.round_turn.proofs.SinceLaws.{since-start, since-going, since-turned, since-less, since-end}
use Rattle.round_turn.proofs.turns.Goals as goal
use Rattle.round_turn.proofs.turns.Goals.{In-GoesOn, After-turn-x}

pub mark_earlier-requires : goal.mark_earlier-requires
mark_earlier-requires c = (c.requires.0.accepted, c.requires.0.earlier.slots, search rules)

pub begin-x-requires : goal.begin-x-requires
begin-x-requires c = (c.requires.0, c.mark_earlier.ensures, c.requires.1, ahead-zero _ _ _ refl refl refl refl)

pub loop-x-init : goal.loop-x-init
loop-x-init c =
    record {
      since = since-start c.args.ask c.args.table.now c.args.closed.now (earlier_of c.args.ask c.args.area.now c.args.lens.now) _ c.begin-x.result c.args.labels.now c.begin-x.ensures.0;
      listing = c.begin-x.ensures.1;
      ahead = c.begin-x.ensures.2;
    }

-- the earlier answers stand as they did
same : (c : In-GoesOn) → earlier_of c.args.ask c.loop-x.area c.args.lens.now ≡ earlier_of c.args.ask c.args.area.now c.args.lens.now
same c = earlier-but c.loop-x.invariant.listing.around c.requires.0.earlier.slots

pub turn-x-requires : goal.turn-x-requires
turn-x-requires c =
    let e = sym (same (goal.at.turn-x-requires c).In-GoesOn) in
    let i = c.loop-x.invariant in
    let going = since-going c.args.ask c.args.table.now c.args.closed.now (earlier_of c.args.ask c.args.area.now c.args.lens.now) _ c.begin-x.result c.loop-x.labels c.loop-x.x i.since c.in-GoesOn.is in
    let q = query_for c.args.ask c.args.table.now c.args.closed.now c.loop-x.labels in (
      record {
        accepted = c.requires.0.accepted;
        earlier = slots-but i.listing.around c.requires.0.earlier.slots c.requires.0.earlier;
        few = c.requires.0.few;
        room = omega (arith, c.requires.0.room, i.since.long, c.begin-x.ensures.0.long);
      },
      c.in-GoesOn.is,
      subst (λ z. Going q z c.loop-x.labels c.loop-x.x) e going.0,
      subst (λ z. Queued q z (last_in c.loop-x.labels c.loop-x.x.last) c.loop-x.labels c.loop-x.x.n c.loop-x.x.root) e going.1,
      subst (λ z. Filter c.args.table.now z c.mark_earlier.new.marks) e c.mark_earlier.ensures,
      i.listing.listed c.in-GoesOn.is,
      i.listing.runs c.in-GoesOn.is,
      i.ahead,
    )

turned : (c : After-turn-x) →
    Turned (query_for c.args.ask c.args.table.now c.args.closed.now c.loop-x.labels) (earlier_of c.args.ask c.args.area.now c.args.lens.now) c.loop-x.labels c.loop-x.x c.turn-x.new.labels c.turn-x.result
turned c =
    subst (λ z. Turned (query_for c.args.ask c.args.table.now c.args.closed.now c.loop-x.labels) z c.loop-x.labels c.loop-x.x c.turn-x.new.labels c.turn-x.result)
    (earlier-but c.loop-x.invariant.listing.around c.requires.0.earlier.slots) c.turn-x.ensures.0

pub loop-x-smaller : goal.loop-x-smaller
loop-x-smaller c =
    since-less c.args.ask c.args.table.now c.args.closed.now (earlier_of c.args.ask c.args.area.now c.args.lens.now) _ c.begin-x.result c.loop-x.labels c.loop-x.x c.loop-x.invariant.since _
    c.turn-x.result (turned (goal.at.loop-x-smaller c).After-turn-x)

pub loop-x-preserved : goal.loop-x-preserved
loop-x-preserved c =
    let i = c.loop-x.invariant in
    record {
      since =
          since-turned c.args.ask c.args.table.now c.args.closed.now (earlier_of c.args.ask c.args.area.now c.args.lens.now) _ c.begin-x.result c.loop-x.labels c.loop-x.x i.since _
          c.turn-x.result (turned (goal.at.loop-x-preserved c).After-turn-x);
      listing = record { around = but-trans i.listing.around c.turn-x.ensures.1.around; listed = c.turn-x.ensures.1.listed; runs = c.turn-x.ensures.1.runs };
      ahead = c.turn-x.ensures.2;
    }

pub returns : goal.returns
returns c =
    let i = c.loop-x.invariant in (
      c.in_default.not-GoesOn,
      since-end c.args.ask c.args.table.now c.args.closed.now (earlier_of c.args.ask c.args.area.now c.args.lens.now) _ c.begin-x.result c.loop-x.labels c.loop-x.x i.since c.args.labels.now c.begin-x.ensures.0,
      i.listing.around,
    )
