-- Invariant: label n begins block j of `half` labels, and is alone in it. Where the block is the first of two the other has no label, so that the way up goes on
-- (`level-past`); where it is the second, `join` has the winner of both, and if that is label n, `rise` the rest.
use mathlib.Core.Path.{◌≡◌, ap}
use Prim.Native.Nat.{◌+◌, ◌*◌, ◌/◌, ◌≤◌, ◌<◌}
use native.Mathlib.Omega.{arith}
use borrow.Author.Rules.{rules}
use Rattle.search_tree.specs.Tree.{Climbs}
use Rattle.search_tree.proofs.TreeLaws.{first-near}
use Rattle.search_queue.specs.Working.{winner_at}
use Rattle.search_queue.specs.Order.{NotAfter}
use Rattle.search_queue.proofs.OnlyLaws.{only-trans, comparable-only}
use Rattle.search_queue.proofs.WorkingLaws.{only-working, not-after-only}
use Rattle.search_queue.proofs.ClimbLaws.{level-past, half_pos}
use Rattle.search_queue.proofs.EnterLaws.{enter-start, half-most, enters-only, enters-same, enters-stop}
use Rattle.search_queue.proofs.winner.enter.Statement.{statement}
use Rattle.search_queue.proofs.winner.enter.Tie as tie

abbrev invariant-loop-j : tie.invariant-loop-j
invariant-loop-j b n root j₀ half₀ j half = (Climbs (NotAfter b) (winner_at b) (n + 1) n half j n) × (n ≡ j * half)

abbrev decreases-loop-j : tie.decreases-loop-j
decreases-loop-j b n root j₀ half₀ j half = j

abbrev start : tie.At-loop-j invariant-loop-j decreases-loop-j → tie.Start invariant-loop-j decreases-loop-j
start a = a.before.before

most : (a : tie.At-loop-j invariant-loop-j decreases-loop-j) → (0 < a.loop-j.j) × (a.loop-j.half ≤ (start a).args.n)
most a = half-most a.loop-j.invariant.1 (omega (arith, (start a).requires.3.used))

loop-again : tie.Need-loop-j-preserved invariant-loop-j decreases-loop-j
loop-again c =
    let a = c.before in
    let v = a.loop-j.invariant in
    let j = a.loop-j.j in
    let e : j ≡ j / 2 * 2 = omega arith in
    ((level-past _ v.0 (omega arith) (omega (arith, v.1, half_pos _ v.0))).1, omega (arith, v.1, ap (λ z. z * a.loop-j.half) e))

join-requires : tie.Need-join-u-requires invariant-loop-j decreases-loop-j
join-requires c κs =
    let a = c.before.before in
    let s = start a in
    (s.requires.0, s.requires.1, s.requires.2, a.loop-j.invariant.0, a.loop-j.invariant.1, omega (arith, c.before.loop-j-test.false))

abbrev begun : tie.After-join-u invariant-loop-j decreases-loop-j → tie.Start invariant-loop-j decreases-loop-j
begun c = start c.before.before.before

returns : tie.Need-returns-then-u-n invariant-loop-j decreases-loop-j
returns c =
    let d = c.before.before.before in
    let o = d.join-u.ensures.0 in
    let e = d.join-u.ensures.1 in
    let k = enters-stop _ (enters-only o e) _ (omega (arith, e.enter.climb.wins.used, c.if-u-n.true)) (first-near _ _ (not-after-only o) (begun d).requires.3) in
    (o, k.0, k.1)

rise-requires : tie.Need-rise-requires invariant-loop-j decreases-loop-j
rise-requires c κs =
    let d = c.before.before.before.before in
    let s = begun d in
    let o = d.join-u.ensures.0 in (
      comparable-only (only-working o) _ s.requires.0,
      s.requires.1,
      first-near _ _ (not-after-only o) s.requires.3,
      enters-same c.before.if-u-n.false (enters-only o d.join-u.ensures.1),
    )

returns-2 : tie.Need-returns invariant-loop-j decreases-loop-j
returns-2 c =
    let r = c.before.before in
    let d = r.before.before.before.before.before in
    let e = r.rise.ensures in
    (only-trans d.join-u.ensures.0 e.0, e.1, e.2)

pub enter_spec : {M : Type 1} → statement M
enter_spec =
    tie.close
    (tie.spec
    invariant-loop-j
    decreases-loop-j
    (λ c. (enter-start _ _ c.before.requires.2, omega arith))
    (λ c. omega (arith, most c.before))
    (λ c. omega (arith, (most c.before).0))
    loop-again
    join-requires
    (λ c. search rules)
    returns
    (λ c. omega (arith, most c.before.before.before.before.before.before.before))
    rise-requires
    (λ c. search rules)
    returns-2)
