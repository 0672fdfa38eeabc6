-- The loop goes back over last arcs and writes each before those already written: the route to x, and then what stands in the slot from k on, is the route to v and
-- then what stood behind it. At s nothing is left to write, and k is 0.
use mathlib.Core.Path.{◌≡◌, refl, ◌∙◌}
use mathlib.Core.List.{◌++◌}
use Prim.Native.Nat.{◌≤◌, ◌<◌}
use native.Mathlib.Omega.{arith}
use lib.ListN.{length, drop, length-set}
use borrow.Author.Rules.{rules}
use Rattle.labels.proofs.ChainLaws.{back_step}
use Rattle.reach.specs.Stand.{dist_in}
use Rattle.first_routes.specs.Firsts.{far, forth}
use Rattle.via_chains.specs.Candidate.{to_of}
use Rattle.via_chains.proofs.CandidateLaws.{Back, to_none, back-arc, back_some, back-over, back_end}
use Rattle.via_chains.proofs.chain.write_to.Statement.{statement}
use Rattle.via_chains.proofs.chain.write_to.Tie as tie

abbrev invariant-loop-x : tie.invariant-loop-x
invariant-loop-x table closed ask room v slot₀ n k₀ x₀ slot k x =
    (x < ask.nodes) × (dist_in forth ask.nodes room x < far) × (k ≡ length (to_of ask table closed room x)) × (k ≤ length slot₀) × (length slot ≡ length slot₀)
    × (to_of ask table closed room x ++ drop k slot ≡ to_of ask table closed room v ++ drop n slot₀)

abbrev decreases-loop-x : tie.decreases-loop-x
decreases-loop-x table closed ask room v slot₀ n k₀ x₀ slot k x = length (to_of ask table closed room x)

abbrev start : tie.At-loop-x invariant-loop-x decreases-loop-x → tie.Start invariant-loop-x decreases-loop-x
start a = a.before.before.before.before.before

abbrev at : tie.After-word-a invariant-loop-x decreases-loop-x → tie.At-loop-x invariant-loop-x decreases-loop-x
at c = c.before.before.before

loop-holds : tie.Need-loop-x-init invariant-loop-x decreases-loop-x
loop-holds c = let s = c in (s.requires.1, s.requires.2, s.requires.3, s.requires.4, refl, refl)

word-requires : tie.Need-word-a-requires invariant-loop-x decreases-loop-x
word-requires c κs = let a = c.before.before in (omega (arith, (start a).requires.0.prepared.roomy.enough, a.loop-x.invariant.0), omega arith)

-- a turn has an arc to write
some : (c : tie.After-word-a invariant-loop-x decreases-loop-x) → 1 ≤ (at c).loop-x.k
some c =
    let a = at c in
    omega (arith, a.loop-x.invariant.2, back_some (start a).requires.0 a.loop-x.x a.loop-x.invariant.0 c.loop-x-test.true a.loop-x.invariant.1)

mul-slot : tie.Need-offset_bounds-slot-k invariant-loop-x decreases-loop-x
mul-slot c = let a = at c in omega (arith, a.loop-x.invariant.3, (start a).well_formed.1.1.1.1.1.0.1)

from-of-requires : tie.Need-from_of-x-requires invariant-loop-x decreases-loop-x
from-of-requires c κs =
    let a = at c in
    omega (arith, c.word-a.ensures, back-arc (start a).requires.0 a.loop-x.x a.loop-x.invariant.0 c.loop-x-test.true a.loop-x.invariant.1)

turn : (c : tie.After-from_of-x invariant-loop-x decreases-loop-x) → Back (start (at c.before)).requires.0 (at c.before).loop-x.x c.word-a.result c.from_of-x.result
turn c =
    let a = at c.before in
    back-over (start a).requires.0 a.loop-x.x a.loop-x.invariant.0 c.loop-x-test.true a.loop-x.invariant.1 c.word-a.result c.from_of-x.result c.word-a.ensures
    c.from_of-x.ensures

loop-again : tie.Need-loop-x-preserved invariant-loop-x decreases-loop-x
loop-again c =
    let a = at c.before in
    let s = start a in
    let t = turn c in
    let to = to_of s.args.ask s.args.table.now s.args.closed.now s.args.room.now in (
      t.below,
      t.near,
      omega (arith, t.one, a.loop-x.invariant.2),
      omega (arith, a.loop-x.invariant.3),
      simp length-set a.loop-x.invariant.4,
      back_step (to c.from_of-x.result) (to a.loop-x.x) c.word-a.result a.loop-x.slot a.loop-x.k t.joins a.loop-x.invariant.2 (omega (arith, a.loop-x.invariant.3, a.loop-x.invariant.4))
          ∙ a.loop-x.invariant.5,
    )

returns : tie.Need-returns invariant-loop-x decreases-loop-x
returns c =
    let a = c.before.before in
    back_end _ _ _ a.loop-x.k (to_none (start a).requires.0 a.loop-x.x c.loop-x-test.false) a.loop-x.invariant.2 a.loop-x.invariant.5

pub write_to_spec : {M : Type 1} → statement M
write_to_spec =
    tie.close
    (tie.spec
    invariant-loop-x
    decreases-loop-x
    loop-holds
    (λ c. search rules)
    word-requires
    (λ c. omega (arith, some c))
    mul-slot
    (λ c. let a = at c in omega (arith, some c, a.loop-x.invariant.3, a.loop-x.invariant.4))
    (λ c. search rules)
    from-of-requires
    (λ c. search rules)
    (λ c. omega (arith, (turn c).one))
    loop-again
    (λ c. omega (arith, c.loop-x.invariant.4))
    returns)
