-- The loop goes on over first arcs and writes each behind those already written: what stands in the slot before k, and then the route from x, is what stood before
-- `at` and then the route from v. At the goal nothing is left to write.
use mathlib.Core.Path.{◌≡◌, refl, ap, ◌∙◌}
use mathlib.Core.List.{◌++◌}
use Prim.Native.Nat.{◌+◌, ◌<◌}
use native.Mathlib.Omega.{arith}
use lib.ListN.{length, take, length-set}
use borrow.Author.Rules.{rules}
use Rattle.reach.specs.Stand.{dist_in}
use Rattle.first_routes.specs.Firsts.{far, back}
use Rattle.via_chains.specs.Candidate.{on_of}
use Rattle.via_chains.proofs.CandidateLaws.{On, on_none, on-arc, on_some, on-over, on-write, on-end}
use Rattle.via_chains.proofs.chain.write_on.Statement.{statement}
use Rattle.via_chains.proofs.chain.write_on.Tie as tie

abbrev invariant-loop-x : tie.invariant-loop-x
invariant-loop-x table closed ask room v slot₀ at k₀ x₀ slot k x =
    (x < ask.nodes) × (dist_in back ask.nodes room x < far) × (k + length (on_of ask table closed room x) ≡ at + length (on_of ask table closed room v))
    × (length slot ≡ length slot₀) × (take k slot ++ on_of ask table closed room x ≡ take at slot₀ ++ on_of ask table closed room v)

abbrev decreases-loop-x : tie.decreases-loop-x
decreases-loop-x table closed ask room v slot₀ at k₀ x₀ slot k x = length (on_of ask table closed room x)

abbrev start : tie.At-loop-x invariant-loop-x decreases-loop-x → tie.Start invariant-loop-x decreases-loop-x
start a = a.before.before.before.before.before

abbrev now-at : tie.After-word-a invariant-loop-x decreases-loop-x → tie.At-loop-x invariant-loop-x decreases-loop-x
now-at c = c.before.before.before

loop-holds : tie.Need-loop-x-init invariant-loop-x decreases-loop-x
loop-holds c = let s = c in (s.requires.1, s.requires.2, refl, refl, refl)

word-requires : tie.Need-word-a-requires invariant-loop-x decreases-loop-x
word-requires c κs = let a = c.before.before in (omega (arith, (start a).requires.0.prepared.roomy.enough, a.loop-x.invariant.0), omega arith)

-- a turn has an arc to write, and a word for it
room-left : (c : tie.After-word-a invariant-loop-x decreases-loop-x) → (now-at c).loop-x.k < length (start (now-at c)).args.slot.now
room-left c =
    let a = now-at c in
    omega (arith, a.loop-x.invariant.2, (start a).requires.3, on_some (start a).requires.0 a.loop-x.x a.loop-x.invariant.0 c.loop-x-test.true a.loop-x.invariant.1)

to-of-requires : tie.Need-to_of-x-requires invariant-loop-x decreases-loop-x
to-of-requires c κs =
    let a = now-at c in
    omega (arith, c.word-a.ensures, on-arc (start a).requires.0 a.loop-x.x a.loop-x.invariant.0 c.loop-x-test.true a.loop-x.invariant.1)

turn : (c : tie.After-to_of-x invariant-loop-x decreases-loop-x) → On (start (now-at c.before)).requires.0 (now-at c.before).loop-x.x c.word-a.result c.to_of-x.result
turn c =
    let a = now-at c.before in
    on-over (start a).requires.0 a.loop-x.x a.loop-x.invariant.0 c.loop-x-test.true a.loop-x.invariant.1 c.word-a.result c.to_of-x.result c.word-a.ensures
    c.to_of-x.ensures

loop-again : tie.Need-loop-x-preserved invariant-loop-x decreases-loop-x
loop-again c =
    let a = now-at c.before in
    let s = start a in
    let t = turn c in
    let on = on_of s.args.ask s.args.table.now s.args.closed.now s.args.room.now in (
      t.below,
      t.near,
      omega (arith, t.one, a.loop-x.invariant.2),
      simp length-set a.loop-x.invariant.3,
      on-write (on c.to_of-x.result) (on a.loop-x.x) c.word-a.result a.loop-x.slot a.loop-x.k t.joins (omega (arith, room-left c.before, a.loop-x.invariant.3)) ∙ a.loop-x.invariant.4,
    )

returns : tie.Need-returns invariant-loop-x decreases-loop-x
returns c =
    let a = c.before.before in
    let n = on_none (start a).requires.0 a.loop-x.x c.loop-x-test.false in
    (omega (arith, a.loop-x.invariant.2, ap length n), a.loop-x.invariant.3, on-end _ _ _ a.loop-x.k n a.loop-x.invariant.4)

pub write_on_spec : {M : Type 1} → statement M
write_on_spec =
    tie.close
    (tie.spec
    invariant-loop-x
    decreases-loop-x
    loop-holds
    (λ c. search rules)
    word-requires
    (λ c. let a = now-at c in omega (arith, room-left c, (start a).well_formed.1.1.1.1.1.0.1))
    (λ c. let a = now-at c in omega (arith, room-left c, a.loop-x.invariant.3))
    (λ c. let a = now-at c in omega (arith, room-left c, (start a).well_formed.1.1.1.1.1.0.1))
    (λ c. search rules)
    to-of-requires
    (λ c. search rules)
    (λ c. omega (arith, (turn c).one))
    loop-again
    (λ c. omega (arith, c.loop-x.invariant.3))
    returns)
