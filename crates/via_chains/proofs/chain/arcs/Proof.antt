-- The loop goes back over last arcs: the arcs counted, and those of the route to x, are as many as the route to v has. At s that route is empty.
use mathlib.Core.Path.{◌≡◌, ap}
use Prim.Native.Nat.{◌+◌, ◌<◌}
use native.Mathlib.Omega.{arith}
use lib.ListN.{length}
use borrow.Author.Rules.{rules}
use Rattle.reach.specs.Stand.{dist_in}
use Rattle.first_routes.specs.Firsts.{far, forth}
use Rattle.via_chains.specs.Candidate.{to_of}
use Rattle.via_chains.proofs.CandidateLaws.{Back, to_none, to-short, back-arc, back-over}
use Rattle.via_chains.proofs.chain.arcs.Statement.{statement}
use Rattle.via_chains.proofs.chain.arcs.Tie as tie

abbrev invariant-loop-x : tie.invariant-loop-x
invariant-loop-x table closed ask room v k₀ x₀ k x =
    (x < ask.nodes) × (dist_in forth ask.nodes room x < far) × (k + length (to_of ask table closed room x) ≡ length (to_of ask table closed room v))

abbrev decreases-loop-x : tie.decreases-loop-x
decreases-loop-x table closed ask room v k₀ x₀ k x = length (to_of ask table closed room x)

abbrev start : tie.At-loop-x invariant-loop-x decreases-loop-x → tie.Start invariant-loop-x decreases-loop-x
start a = a.before.before.before.before

abbrev at : tie.After-word-a invariant-loop-x decreases-loop-x → tie.At-loop-x invariant-loop-x decreases-loop-x
at c = c.before.before.before

loop-holds : tie.Need-loop-x-init invariant-loop-x decreases-loop-x
loop-holds c = let s = c in (s.requires.1, s.requires.2, omega arith)

word-requires : tie.Need-word-a-requires invariant-loop-x decreases-loop-x
word-requires c κs = let a = c.before.before in (omega (arith, (start a).requires.0.prepared.roomy.enough, a.loop-x.invariant.0), omega arith)

from-of-requires : tie.Need-from_of-x-requires invariant-loop-x decreases-loop-x
from-of-requires c κs =
    let a = at c in
    omega (arith, c.word-a.ensures, back-arc (start a).requires.0 a.loop-x.x a.loop-x.invariant.0 c.loop-x-test.true a.loop-x.invariant.1)

turn : (c : tie.After-from_of-x invariant-loop-x decreases-loop-x) → Back (start (at c.before)).requires.0 (at c.before).loop-x.x c.word-a.result c.from_of-x.result
turn c =
    let a = at c.before in
    back-over (start a).requires.0 a.loop-x.x a.loop-x.invariant.0 c.loop-x-test.true a.loop-x.invariant.1 c.word-a.result c.from_of-x.result c.word-a.ensures
    c.from_of-x.ensures

add-k : tie.Need-overflow_add-k invariant-loop-x decreases-loop-x
add-k c =
    let a = at c.before in
    let s = start a in
    omega (arith, a.loop-x.invariant.2, to-short s.requires.0 s.args.v s.requires.1 s.requires.2, s.requires.0.prepared.roomy.few)

loop-again : tie.Need-loop-x-preserved invariant-loop-x decreases-loop-x
loop-again c = let t = turn c in (t.below, t.near, omega (arith, t.one, (at c.before).loop-x.invariant.2))

returns : tie.Need-returns invariant-loop-x decreases-loop-x
returns c =
    let a = c.before.before in
    omega (arith, a.loop-x.invariant.2, ap length (to_none (start a).requires.0 a.loop-x.x c.loop-x-test.false))

pub arcs_spec : {M : Type 1} → statement M
arcs_spec =
    tie.close
    (tie.spec
    invariant-loop-x
    decreases-loop-x
    loop-holds
    (λ c. search rules)
    word-requires
    (λ c. search rules)
    from-of-requires
    (λ c. search rules)
    add-k
    (λ c. omega (arith, (turn c).one))
    loop-again
    returns)
