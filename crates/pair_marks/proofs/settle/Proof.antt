-- Invariant: the way back along the second route has come to v over k arcs (`Undone`). A step more is `follow-step`; each arc comes to another node, so k stays below the
-- number of nodes. At s the marks are those of the pair.
use mathlib.Core.Path.{◌≡◌}
use Prim.Native.Nat.{pred, ◌-◌, ◌<◌}
use native.Mathlib.Omega.{arith}
use lib.ListN.{length}
use borrow.Author.Rules.{rules}
use Rattle.table.specs.Table.{net_of}
use Rattle.node_queue.proofs.WinnerLaws.{room_at}
use Rattle.pair_marks.specs.Way.{Undone}
use Rattle.pair_marks.proofs.MarkLaws.{follow-start, follow-arc, follow-below, follow-room, follow-step, follow-end}
use Rattle.pair_marks.proofs.settle.Statement.{statement}
use Rattle.pair_marks.proofs.settle.Tie as tie

abbrev invariant-loop-v : tie.invariant-loop-v
invariant-loop-v table closed nodes s goal room₀ v₀ k₀ room v k = (length room ≡ length room₀) × Undone (net_of nodes table closed) s goal room v k

abbrev decreases-loop-v : tie.decreases-loop-v
decreases-loop-v table closed nodes s goal room₀ v₀ k₀ room v k = nodes - k

abbrev start : tie.At-loop-v invariant-loop-v decreases-loop-v → tie.Start invariant-loop-v decreases-loop-v
start a = a.before.before.before.before

loop-holds : tie.Need-loop-v-init invariant-loop-v decreases-loop-v
loop-holds c =
    let s = c in
    (omega arith, follow-start _ _ s.args.closed.now s.requires.0 _ _ _ s.requires.3 s.requires.2 s.requires.4 s.requires.5)

step-requires : tie.Need-step-v-requires invariant-loop-v decreases-loop-v
step-requires c κs =
    let i = c in
    let a = i.before.before in
    let s = start a in
    let x = a.loop-v.invariant.1 in
    let r = x.roomy in (
      room_at r a.loop-v.v x.below,
      follow-arc _ _ s.args.closed.now s.requires.0 _ _ _ _ _ x i.loop-v-test.true,
      room_at r _ (follow-below _ _ s.args.closed.now s.requires.0 _ _ _ _ _ x i.loop-v-test.true),
    )

abbrev inside : tie.After-slice_known-in-loop-v-1 invariant-loop-v decreases-loop-v → tie.In-loop-v invariant-loop-v decreases-loop-v
inside c = c.before.before.before.before

room : (i : tie.In-loop-v invariant-loop-v decreases-loop-v) → i.loop-v.k < pred (start i.before).args.nodes
room i =
    let a = i.before in
    let s = start a in
    follow-room _ _ s.args.closed.now s.requires.0 _ _ _ _ _ a.loop-v.invariant.1 i.loop-v-test.true s.requires.1

loop-again : tie.Need-loop-v-preserved invariant-loop-v decreases-loop-v
loop-again c =
    let i = inside c in
    let a = i.before in
    let s = start a in
    (omega arith, follow-step _ _ s.args.closed.now s.requires.0 _ _ _ _ _ a.loop-v.invariant.1 i.loop-v-test.true _ _ c.step-v.ensures)

returns : tie.Need-returns invariant-loop-v decreases-loop-v
returns c =
    let a = c.before in
    let s = start a in
    (a.loop-v.invariant.0, follow-end _ _ s.args.closed.now s.requires.0 _ _ _ _ _ a.loop-v.invariant.1 c.loop-v-test.false)

pub settle_spec : {M : Type 1} → statement M
settle_spec =
    tie.close
    (tie.spec
    invariant-loop-v
    decreases-loop-v
    loop-holds
    step-requires
    (λ c. omega (arith, room (inside c)))
    (λ c. omega (arith, room (inside c)))
    loop-again
    (λ c. search rules)
    returns)
