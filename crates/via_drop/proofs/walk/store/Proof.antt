-- Invariant: what is left is the overlap of the way from u, and what is known stays right. The way is as it was, since only numbers have changed.
use mathlib.Core.Path.{◌≡◌, refl, sym, subst, ◌∙◌}
use mathlib.Core.Logic.{⊎_elim, inl, inr}
use mathlib.Core.List.{List}
use Prim.Native.Nat.{ℕ, ◌+◌, ◌*◌, ◌≤◌, ◌<◌}
use lib.ListN.{length}
use native.Mathlib.Omega.{arith}
use borrow.Author.Rules.{rules}
use Rattle.working_room.specs.Field.{Within}
use Rattle.working_room.proofs.RoomLaws.{within_same, within-trans}
use Rattle.node_queue.proofs.WinnerLaws.{room_at, roomy-kept}
use Rattle.search_ask.specs.Earlier.{route_in}
use Rattle.first_routes.specs.Firsts.{far}
use Rattle.via_drop.specs.Walks.{number_at, arc_by, dist_by, total_by, share, Step, Known}
use Rattle.via_drop.proofs.BesideLaws.{numbers-beside, arc-beside}
use Rattle.via_drop.proofs.WalkLaws.{number-within, known-put, not_end, turn-arc, turn_below, turn-nearer, turn-adds, dropping-numbers}
use Rattle.via_drop.proofs.walk.store.Statement.{statement}
use Rattle.via_drop.proofs.walk.store.Tie as tie

abbrev invariant-loop-known : tie.invariant-loop-known
invariant-loop-known table ask slot marks room₀ on v x u₀ left₀ known₀ room u left known =
    (u < ask.nodes) × (dist_by on ask.nodes room₀ u < far) × (left ≡ total_by on ask table (route_in slot) room₀ u) × (known ≡ number_at on room u)
    × (Within 40 16 room₀ room) × (Known ask table (route_in slot) room₀ room)

abbrev decreases-loop-known : tie.decreases-loop-known
decreases-loop-known table ask slot marks room₀ on v x u₀ left₀ known₀ room u left known = dist_by on ask.nodes room₀ u

abbrev start : tie.At-loop-known invariant-loop-known decreases-loop-known → tie.Start invariant-loop-known decreases-loop-known
start a = a.before.before.before.before.before.before

loop-holds : tie.Need-loop-known-init invariant-loop-known decreases-loop-known
loop-holds c =
    let s = c in
    (s.requires.1, s.requires.2, s.requires.3, c.number-known.ensures, within_same 40 16 _, s.requires.0.known)

unknown-at : (c : tie.In-loop-known invariant-loop-known decreases-loop-known) → number_at c.args.on c.loop-known.room c.loop-known.u ≡ 18446744073709551615
unknown-at c = sym c.loop-known.invariant.3 ∙ c.loop-known-test.true

step_of : (c : tie.In-loop-known invariant-loop-known decreases-loop-known)
    → let a = c.before in let s = start a in
    Step s.args.on s.args.ask s.args.table.now (route_in s.args.slot.now) s.args.room.now a.loop-known.u
step_of c =
    let a = c.before in
    let s = start a in
    s.requires.0.led.step s.args.on a.loop-known.u a.loop-known.invariant.0 (not_end a.loop-known.invariant.5 s.args.on a.loop-known.u (unknown-at c)) a.loop-known.invariant.1

abbrev turn : tie.After-arc_by-arc invariant-loop-known decreases-loop-known → tie.In-loop-known invariant-loop-known decreases-loop-known
turn c = c.before

arc-is : (c : tie.After-arc_by-arc invariant-loop-known decreases-loop-known)
    → let a = (turn c).before in let s = start a in
    c.arc_by-arc.result ≡ arc_by s.args.on s.args.room.now a.loop-known.u
arc-is c =
    let a = (turn c).before in
    c.arc_by-arc.ensures ∙ arc-beside (numbers-beside a.loop-known.invariant.4) a.args.on a.loop-known.u

-- the room after the store
stored : (c : tie.After-put_number invariant-loop-known decreases-loop-known)
    → let k = c.before.before in let a = (turn k).before in let s = start a in
    Within 40 16 s.args.room.now c.put_number.new.room × Known s.args.ask s.args.table.now (route_in s.args.slot.now) s.args.room.now c.put_number.new.room
stored c =
    let k = c.before.before in
    let a = (turn k).before in
    let s = start a in
    subst
    (λ r. Within 40 16 s.args.room.now r × Known s.args.ask s.args.table.now (route_in s.args.slot.now) s.args.room.now r)
    (sym c.put_number.ensures) (
      within-trans a.loop-known.invariant.4 (number-within a.loop-known.room a.loop-known.u a.loop-known.left s.args.on),
      known-put s.requires.0.led a.loop-known.invariant.4 a.loop-known.invariant.5 s.args.on a.loop-known.u a.loop-known.left a.loop-known.invariant.0 a.loop-known.invariant.1 (unknown-at (turn k)) a.loop-known.invariant.2,
    )

room_of : (a : tie.At-loop-known invariant-loop-known decreases-loop-known) (r : List ℕ) → Within 40 16 a.args.room.now r → (u : ℕ) → u < a.args.ask.nodes → u * 64 + 64 ≤ length r
room_of a r f u h = room_at (roomy-kept f a.requires.0.led.roomy) u h

-- the places of the store and of the arc, from where the next node is told
abbrev put_of : tie.After-next_by-u invariant-loop-known decreases-loop-known → tie.After-put_number invariant-loop-known decreases-loop-known
put_of n = n.before.before.before

abbrev arc-of : tie.After-next_by-u invariant-loop-known decreases-loop-known → tie.After-arc_by-arc invariant-loop-known decreases-loop-known
arc-of n = (put_of n).before.before

number-requires-2 : tie.Need-number-known-requires-in-loop-known invariant-loop-known decreases-loop-known
number-requires-2 c κs =
    let n = c in
    let k = arc-of n in
    room_of (turn k).before _ (stored (put_of n)).0 n.next_by-u.result (turn_below (step_of (turn k)) (arc-is k) n.next_by-u.ensures)

-- the next node is nearer, and what the arc does not share is left there
abbrev next_of : tie.After-number-known-in-loop-known invariant-loop-known decreases-loop-known → tie.After-next_by-u invariant-loop-known decreases-loop-known
next_of c = c.before

next-below : (c : tie.After-number-known-in-loop-known invariant-loop-known decreases-loop-known) → (next_of c).next_by-u.result < (start (turn (arc-of (next_of c))).before).args.ask.nodes
next-below c = let n = next_of c in let k = arc-of n in turn_below (step_of (turn k)) (arc-is k) n.next_by-u.ensures

next-less : (c : tie.After-number-known-in-loop-known invariant-loop-known decreases-loop-known)
    → let a = (turn (arc-of (next_of c))).before in let s = start a in
    dist_by s.args.on s.args.ask.nodes s.args.room.now (next_of c).next_by-u.result < dist_by s.args.on s.args.ask.nodes s.args.room.now a.loop-known.u
next-less c = let n = next_of c in let k = arc-of n in turn-nearer (step_of (turn k)) (arc-is k) n.next_by-u.ensures

parts : (c : tie.After-number-known-in-loop-known invariant-loop-known decreases-loop-known)
    → let k = arc-of (next_of c) in let a = (turn k).before in let s = start a in
    a.loop-known.left
    ≡ share s.args.ask s.args.table.now (route_in s.args.slot.now) k.arc_by-arc.result
    + total_by s.args.on s.args.ask s.args.table.now (route_in s.args.slot.now) s.args.room.now (next_of c).next_by-u.result
parts c =
    let n = next_of c in
    let k = arc-of n in
    (turn k).loop-known.invariant.2 ∙ turn-adds (step_of (turn k)) (arc-is k) n.next_by-u.ensures refl

rest-requires : tie.Need-rest-left-requires invariant-loop-known decreases-loop-known
rest-requires m κs =
    let n = next_of m in
    let k = arc-of n in
    let a = (turn k).before in
    let s = start a in
    let d = s.requires.0 in (
      d.accepted,
      d.filter,
      turn-arc (step_of (turn k)) (arc-is k),
      d.formed,
      omega (arith, parts m),
      ⊎_elim
          (λ z. inl (m.number-known-in-loop-known.ensures ∙ z))
          (λ z. inr (omega (arith, parts m, m.number-known-in-loop-known.ensures, z)))
          ((stored (put_of n)).1.right s.args.on n.next_by-u.result (next-below m) (omega (arith, next-less m, a.loop-known.invariant.1))),
    )

loop-less : tie.Need-loop-known-smaller invariant-loop-known decreases-loop-known
loop-less c = next-less c.before

loop-again : tie.Need-loop-known-preserved invariant-loop-known decreases-loop-known
loop-again c =
    let m = c.before in
    let n = next_of m in
    let a = (turn (arc-of n)).before in
    let w = stored (put_of n) in
    (next-below m, omega (arith, next-less m, a.loop-known.invariant.1), omega (arith, parts m, c.rest-left.ensures), m.number-known-in-loop-known.ensures, w.0, w.1)

returns : tie.Need-returns invariant-loop-known decreases-loop-known
returns c =
    let a = c in
    (a.loop-known.invariant.4, dropping-numbers a.requires.0 a.loop-known.invariant.4 a.loop-known.invariant.5)

pub store_spec : {M : Type 1} → statement M
store_spec =
    tie.close
    (tie.spec
    invariant-loop-known
    decreases-loop-known
    (λ c κs. let s = c in room_at s.requires.0.led.roomy s.args.v s.requires.1)
    loop-holds
    (λ c κs. let a = c.before in room_of a a.loop-known.room a.loop-known.invariant.4 a.loop-known.u a.loop-known.invariant.0)
    (λ c. search rules)
    (λ c κs. let a = (turn c.before).before in room_of a a.loop-known.room a.loop-known.invariant.4 a.loop-known.u a.loop-known.invariant.0)
    (λ c κs. let k = c.before.before.before.before in turn-arc (step_of (turn k)) (arc-is k))
    (λ c. search rules)
    number-requires-2
    rest-requires
    loop-less
    loop-again
    (λ c. omega (arith, c.loop-known.invariant.4.long))
    returns)
