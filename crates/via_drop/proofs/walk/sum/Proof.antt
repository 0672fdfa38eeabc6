-- Invariant: what was passed and the overlap of the way from u on are the overlap of the way from v. While the number of u is unknown, u is not where the way ends, so an
-- arc leads on from it, nearer to the end; a number that is known is right.
use mathlib.Core.Path.{◌≡◌, refl, sym, ◌∙◌}
use mathlib.Core.Logic.{⊎_elim}
use Prim.Native.Nat.{◌+◌, ◌<◌}
use native.Mathlib.Omega.{arith}
use borrow.Author.Rules.{rules}
use Rattle.node_queue.proofs.WinnerLaws.{room_at}
use Rattle.search_ask.specs.Earlier.{route_in}
use Rattle.first_routes.specs.Firsts.{far}
use Rattle.via_drop.specs.Walks.{number_at, dist_by, total_by, Step}
use Rattle.via_drop.proofs.WalkLaws.{not_end, turn-arc, turn_below, turn-nearer, turn-adds}
use Rattle.via_drop.proofs.walk.sum.Statement.{statement}
use Rattle.via_drop.proofs.walk.sum.Tie as tie

abbrev invariant-loop-known : tie.invariant-loop-known
invariant-loop-known table ask slot marks room on v u₀ passed₀ known₀ u passed known =
    (u < ask.nodes) × (dist_by on ask.nodes room u < far)
    × (passed + total_by on ask table (route_in slot) room u ≡ total_by on ask table (route_in slot) room v)
    × (known ≡ number_at on room u)

abbrev decreases-loop-known : tie.decreases-loop-known
decreases-loop-known table ask slot marks room on v u₀ passed₀ known₀ u passed known = dist_by on ask.nodes room u

abbrev start : tie.At-loop-known invariant-loop-known decreases-loop-known → tie.Start invariant-loop-known decreases-loop-known
start a = a.before.before.before.before.before.before

loop-holds : tie.Need-loop-known-init invariant-loop-known decreases-loop-known
loop-holds c =
    let s = c in
    (s.requires.1, s.requires.2, omega arith, c.number-known.ensures)

step_of : (c : tie.In-loop-known invariant-loop-known decreases-loop-known)
    → let a = c.before in let s = start a in
    Step s.args.on s.args.ask s.args.table.now (route_in s.args.slot.now) s.args.room.now a.loop-known.u
step_of c =
    let a = c.before in
    let s = start a in
    let d = s.requires.0 in
    d.led.step s.args.on a.loop-known.u a.loop-known.invariant.0 (not_end d.known s.args.on a.loop-known.u (sym a.loop-known.invariant.3 ∙ c.loop-known-test.true)) a.loop-known.invariant.1

share-of-requires : tie.Need-share_of-passed-requires invariant-loop-known decreases-loop-known
share-of-requires c κs =
    let d = c.requires.0 in
    (d.accepted, d.filter, turn-arc (step_of c.before) c.arc_by-arc.ensures, d.formed)

-- what is left of the way after a turn
adds : (c : tie.After-next_by-u invariant-loop-known decreases-loop-known)
    → let h = c in let k = h in let a = k.before.before.before.before in let s = start a in
    total_by s.args.on s.args.ask s.args.table.now (route_in s.args.slot.now) s.args.room.now a.loop-known.u
    ≡ h.share_of-passed.result + total_by s.args.on s.args.ask s.args.table.now (route_in s.args.slot.now) s.args.room.now c.next_by-u.result
adds c =
    let h = c in
    let k = h in
    turn-adds (step_of k.before.before.before) k.arc_by-arc.ensures c.next_by-u.ensures h.share_of-passed.ensures

add-passed : tie.Need-overflow_add-passed invariant-loop-known decreases-loop-known
add-passed c =
    let k = c in
    let a = k.before.before.before in
    let s = start a in
    let d = s.requires.0 in
    omega (arith, turn-adds (step_of k.before.before) k.arc_by-arc.ensures refl c.share_of-passed.ensures, a.loop-known.invariant.2, d.led.small s.args.on s.args.v s.requires.1 s.requires.2)

number-requires-2 : tie.Need-number-known-requires-in-loop-known invariant-loop-known decreases-loop-known
number-requires-2 c κs =
    let k = c in
    room_at k.requires.0.led.roomy c.next_by-u.result (turn_below (step_of k.before.before.before) k.arc_by-arc.ensures c.next_by-u.ensures)

loop-less : tie.Need-loop-known-smaller invariant-loop-known decreases-loop-known
loop-less c =
    let n = c in
    let k = n in
    turn-nearer (step_of k.before.before.before.before) k.arc_by-arc.ensures n.next_by-u.ensures

loop-again : tie.Need-loop-known-preserved invariant-loop-known decreases-loop-known
loop-again c =
    let n = c.before in
    let k = n in
    let a = k in (
      turn_below (step_of k.before.before.before) k.arc_by-arc.ensures n.next_by-u.ensures,
      omega (arith, turn-nearer (step_of k.before.before.before) k.arc_by-arc.ensures n.next_by-u.ensures, a.loop-known.invariant.1),
      omega (arith, adds n, a.loop-known.invariant.2),
      c.number-known-in-loop-known.ensures,
    )

-- the number at the end is the overlap from there
ended : (c : tie.After-loop-known invariant-loop-known decreases-loop-known)
    → let a = c.before in let s = start a in
    a.loop-known.passed + a.loop-known.known ≡ total_by s.args.on s.args.ask s.args.table.now (route_in s.args.slot.now) s.args.room.now s.args.v
ended c =
    let a = c.before in
    let s = start a in
    ⊎_elim
    (λ z. absurd (c.loop-known-test.false (a.loop-known.invariant.3 ∙ z)))
    (λ z. omega (arith, z, a.loop-known.invariant.2, a.loop-known.invariant.3))
    (s.requires.0.known.right s.args.on a.loop-known.u a.loop-known.invariant.0 a.loop-known.invariant.1)

add-result : tie.Need-overflow_add-result invariant-loop-known decreases-loop-known
add-result c =
    let s = start c.before in
    omega (arith, ended c, s.requires.0.led.small s.args.on s.args.v s.requires.1 s.requires.2)

pub sum_spec : {M : Type 1} → statement M
sum_spec =
    tie.close
    (tie.spec
    invariant-loop-known
    decreases-loop-known
    (λ c κs. let s = c in room_at s.requires.0.led.roomy s.args.v s.requires.1)
    loop-holds
    (λ c κs. room_at c.requires.0.led.roomy c.loop-known.u c.loop-known.invariant.0)
    (λ c. search rules)
    share-of-requires
    add-passed
    (λ c κs. turn-arc (step_of c.before.before) c.arc_by-arc.ensures)
    (λ c. search rules)
    number-requires-2
    loop-less
    loop-again
    add-result
    ended)
