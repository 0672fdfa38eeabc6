-- Invariant: only winners changed, and node x is the first of block j of `half` nodes, in which it stands; from there on the winners are right by the keys before.
-- It takes the place of a winner whose key is not less than its own (`lowers-wins`); at one whose key is less the tree is right (`lowers-stops`).
use mathlib.Core.Path.{◌≡◌, ap, sym, ◌∙◌}
use Prim.Native.Nat.{◌+◌, ◌-◌, ◌*◌, ◌/◌, ◌≤◌, ◌<◌}
use native.Mathlib.Omega.{arith}
use borrow.Author.Rules.{rules}
use Rattle.net.specs.Limits.{most_nodes}
use Rattle.working_room.specs.Field.{Within}
use Rattle.working_room.proofs.RoomLaws.{within_same, within-trans}
use Rattle.node_queue.specs.Queue.{key_at, winner_at, Roomy}
use Rattle.node_queue.proofs.WinnerLaws.{room_at, roomy-kept, key-kept}
use Rattle.node_queue.proofs.ClimbLaws.{mid}
use Rattle.node_queue.proofs.LowerLaws.{Lowers, lowers-start, lowers-pos, lowers-mid, lowers-block, lowers-past, was-used, lowers-wins, lowers-stops, lowers-done}
use Rattle.node_queue.proofs.lower.lower.Statement.{statement}
use Rattle.node_queue.proofs.lower.lower.Tie as tie

abbrev invariant-loop-half : tie.invariant-loop-half
invariant-loop-half b₀ n x key half₀ j₀ b half j = (Within 8 4 b₀ b) × (Lowers n x half j b)

abbrev decreases-loop-half : tie.decreases-loop-half
decreases-loop-half b₀ n x key half₀ j₀ b half j = n - half

abbrev start : tie.At-loop-half invariant-loop-half decreases-loop-half → tie.Start invariant-loop-half decreases-loop-half
start a = a.before.before

roomy : (a : tie.At-loop-half invariant-loop-half decreases-loop-half) → Roomy (start a).args.n a.loop-half.room
roomy a = roomy-kept a.loop-half.invariant.0 (start a).requires.0

own : (a : tie.At-loop-half invariant-loop-half decreases-loop-half) → (start a).args.key ≡ key_at a.loop-half.room (start a).args.x
own a = (start a).requires.2 ∙ sym (key-kept a.loop-half.invariant.0 _)

-- the factor and the product of the place where the second block begins
fits : (t : tie.In-loop-half invariant-loop-half decreases-loop-half)
    → let a = t.before in
    (a.loop-half.j / 2 * 2 + 1 < 2 * most_nodes) × (mid a.loop-half.j a.loop-half.half < 2 * most_nodes)
fits t =
    let a = t.before in
    let m = lowers-mid _ a.loop-half.invariant.1 in
    let s = start a in
    (omega (arith, m.0, m.1, t.loop-half-test.true, s.requires.1, s.requires.0.few), omega (arith, m.1, t.loop-half-test.true, s.requires.1, s.requires.0.few))

below : (e : tie.Else-n-mid invariant-loop-half decreases-loop-half) → let a = e.before.before in mid a.loop-half.j a.loop-half.half < (start a).args.n
below e = omega (arith, e.if-n-mid.false)

abbrev else1 : tie.After-long-k invariant-loop-half decreases-loop-half → tie.Else-n-mid invariant-loop-half decreases-loop-half
else1 c = c.before.before

-- the key of the winner that stands there
told : (c : tie.After-long-k invariant-loop-half decreases-loop-half)
    → let a = (else1 c).before.before in
    c.long-k.result ≡ key_at a.loop-half.room (winner_at a.loop-half.room (mid a.loop-half.j a.loop-half.half))
told c = c.long-k.ensures ∙ ap (key_at _) c.before.word-w.ensures

long-requires : tie.Need-long-k-requires invariant-loop-half decreases-loop-half
long-requires c κs =
    let e = c.before in
    let a = e.before.before in
    (room_at (roomy a) _ (omega (arith, c.word-w.ensures, was-used _ a.loop-half.invariant.1 (below e))), omega arith)

root-requires : tie.Need-root-requires invariant-loop-half decreases-loop-half
root-requires c κs =
    let d = c.before in
    let e = else1 d in
    let a = e.before.before in
    (roomy a, lowers-block _ a.loop-half.invariant.1, e.before.loop-half-test.true, lowers-stops _ a.loop-half.invariant.1 (below e) (omega (arith, c.if-k-key.true, told d, own a)))

returns : tie.Need-returns-then-k-key invariant-loop-half decreases-loop-half
returns c =
    let d = c.before.before in
    let e = else1 d in
    let a = e.before.before in
    (a.loop-half.invariant.0, lowers-stops _ a.loop-half.invariant.1 (below e) (omega (arith, c.before.if-k-key.true, told d, own a)), c.root.ensures)

stays-first : (f : tie.Else-k-key invariant-loop-half decreases-loop-half)
    → let a = (else1 f.before).before.before in
    key_at a.loop-half.room (start a).args.x ≤ key_at a.loop-half.room (winner_at a.loop-half.room (mid a.loop-half.j a.loop-half.half))
stays-first f = omega (arith, f.if-k-key.false, told f.before, own (else1 f.before).before.before)

loop-again-2 : tie.Need-loop-half-preserved invariant-loop-half decreases-loop-half
loop-again-2 c =
    let p = c.before.before in
    let f = p.before.before in
    let e = else1 f.before in
    let a = e.before.before in
    let v = a.loop-half.invariant in
    let r = lowers-wins _ v.1 (below e) (roomy a) (stays-first f) _ p.put_word.ensures in
    (within-trans v.0 r.0, r.1)

returns-2 : tie.Need-returns invariant-loop-half decreases-loop-half
returns-2 c =
    let v = c.before.loop-half.invariant in
    let d = lowers-done _ v.1 (omega (arith, c.loop-half-test.false)) in
    (v.0, d.0, d.1)

pub lower_spec : {M : Type 1} → statement M
lower_spec =
    tie.close
    (tie.spec
    invariant-loop-half
    decreases-loop-half
    (λ c. (within_same 8 4 _, lowers-start _ _ _ c.before.requires.1 c.before.requires.3))
    (λ c. omega (arith, (fits c).0))
    (λ c. omega (arith, (fits c).0))
    (λ c. omega (arith, (fits c).1))
    (λ c. search rules)
    (λ c. omega (arith, c.before.loop-half-test.true, lowers-pos _ c.before.before.loop-half.invariant.1))
    (λ c. let v = c.before.before.loop-half.invariant in (v.0, lowers-past _ v.1 c.if-n-mid.true))
    (λ c κs. (room_at (roomy c.before.before) _ (below c), omega arith))
    (λ c. search rules)
    long-requires
    root-requires
    (λ c. search rules)
    returns
    (λ c. search rules)
    (λ c κs. let e = else1 c.before.before in (room_at (roomy e.before.before) _ (below e), omega arith))
    (λ c. search rules)
    (λ c. let t = (else1 c.before.before.before.before.before).before in omega (arith, t.loop-half-test.true, lowers-pos _ t.before.loop-half.invariant.1))
    loop-again-2
    (λ c. search rules)
    returns-2)
