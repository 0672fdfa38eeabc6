-- Invariant: the way back along the first route has come to v over k arcs, and these are marked (`Traced`). An arc more is `trace-step`; each comes to another node, so k
-- stays below the number of nodes. Nothing but marks changes. At s the whole route is marked.
use mathlib.Core.Path.{◌≡◌, sym, subst}
use Prim.Native.Nat.{pred, ◌+◌, ◌*◌, ◌-◌, ◌≤◌, ◌<◌}
use native.Mathlib.Omega.{arith}
use lib.ListN.{length}
use borrow.Author.Rules.{rules}
use Rattle.table.specs.Table.{from_at, net_of}
use Rattle.working_room.specs.Field.{room_bytes, Within}
use Rattle.working_room.proofs.RoomLaws.{within_same, within-trans}
use Rattle.node_queue.proofs.WinnerLaws.{room_at}
use Rattle.pair_marks.specs.Way.{Traced}
use Rattle.pair_marks.proofs.MarkLaws.{kept_put, trace-start, trace-arc, trace-below, trace-room, trace-step, trace-end}
use Rattle.pair_marks.proofs.first.Statement.{statement}
use Rattle.pair_marks.proofs.first.Tie as tie

abbrev invariant-loop-v : tie.invariant-loop-v
invariant-loop-v table closed nodes s goal room₀ n v₀ k₀ room v k = (length room ≡ length room₀) × Traced (net_of nodes table closed) s goal room v k × Within 36 8 room₀ room

abbrev decreases-loop-v : tie.decreases-loop-v
decreases-loop-v table closed nodes s goal room₀ n v₀ k₀ room v k = nodes - k

abbrev blanked : tie.After-slice_known-2-1 invariant-loop-v decreases-loop-v → tie.After-blank invariant-loop-v decreases-loop-v
blanked c = c.before.before

abbrev start : tie.After-slice_known-2-1 invariant-loop-v decreases-loop-v → tie.Start invariant-loop-v decreases-loop-v
start c = (blanked c).before.before.before.before.before

loop-holds : tie.Need-loop-v-init invariant-loop-v decreases-loop-v
loop-holds c =
    let s = start c in
    let b = (blanked c).blank.ensures in
    (omega arith, trace-start _ _ s.args.closed.now s.requires.0 _ _ _ _ s.requires.3 s.requires.2 s.requires.4 s.requires.5 b.0 b.1 b.2, within_same 36 8 _)

word-requires : tie.Need-word-arc-requires invariant-loop-v decreases-loop-v
word-requires c κs =
    let x = c.loop-v.invariant.1 in
    (room_at x.roomy _ x.below, omega arith)

mark-requires : tie.Need-mark-v-requires invariant-loop-v decreases-loop-v
mark-requires c κs =
    let w = c in
    let i = w in
    let a = i in
    let s = start a.before.before.before.before in
    let x = a.loop-v.invariant.1 in
    let t = s.args.table.now in (
      omega (arith, w.word-arc.ensures, trace-arc _ _ s.args.closed.now s.requires.0 _ _ _ _ _ x i.loop-v-test.true),
      omega arith,
      subst (λ y. from_at t y * room_bytes + room_bytes ≤ length a.loop-v.room) (sym w.word-arc.ensures)
          (room_at x.roomy _ (trace-below _ _ s.args.closed.now s.requires.0 _ _ _ _ _ x i.loop-v-test.true)),
    )

abbrev marked : tie.After-slice_known-in-loop-v-1 invariant-loop-v decreases-loop-v → tie.After-mark-v invariant-loop-v decreases-loop-v
marked c = c.before.before

abbrev inside : tie.After-slice_known-in-loop-v-1 invariant-loop-v decreases-loop-v → tie.In-loop-v invariant-loop-v decreases-loop-v
inside c = (marked c).before.before.before

room : (i : tie.In-loop-v invariant-loop-v decreases-loop-v) → i.loop-v.k < pred (start i.before.before).args.nodes
room i =
    let a = i in
    let s = start a.before.before in
    trace-room _ _ s.args.closed.now s.requires.0 _ _ _ _ _ a.loop-v.invariant.1 i.loop-v-test.true s.requires.1

loop-again : tie.Need-loop-v-preserved invariant-loop-v decreases-loop-v
loop-again c =
    let i = inside c in
    let a = i in
    let s = start a.before.before in
    let m = marked c in (
      omega arith,
      trace-step _ _ s.args.closed.now s.requires.0 _ _ _ _ _ a.loop-v.invariant.1 i.loop-v-test.true _ _ _
          m.word-arc.ensures m.mark-v.ensures.0 m.mark-v.ensures.1,
      within-trans a.loop-v.invariant.2 (subst (Within 36 8 a.loop-v.room) (sym m.mark-v.ensures.1) (kept_put a.loop-v.room m.mark-v.result m.word-arc.result)),
    )

returns : tie.Need-returns invariant-loop-v decreases-loop-v
returns c =
    let a = c in
    let s = start a.before.before in (
      within-trans (blanked a.before.before).blank.ensures.0 a.loop-v.invariant.2,
      trace-end _ _ s.args.closed.now s.requires.0 _ _ _ _ _ a.loop-v.invariant.1 c.loop-v-test.false,
    )

pub first_spec : {M : Type 1} → statement M
first_spec =
    tie.close
    (tie.spec
    invariant-loop-v
    decreases-loop-v
    (λ c κs. search rules)
    loop-holds
    (λ c. search rules)
    word-requires
    mark-requires
    (λ c. omega (arith, room (inside c)))
    (λ c. omega (arith, room (inside c)))
    loop-again
    (λ c. search rules)
    returns)
