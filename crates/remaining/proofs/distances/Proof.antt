-- The invariant: what is below `far` is the length of a chain to the goal. The measure is the sum of the distances: a pass that brings a node nearer lowers it.
use mathlib.Core.Path.{◌≡◌, refl}
use native.Mathlib.Omega.{arith}
use borrow.Author.Rules.{rules}
use lib.ListN.{length}
use Rattle.table.specs.Table.{net_of}
use Rattle.working_room.specs.Field.{Within}
use Rattle.working_room.proofs.RoomLaws.{within_same, within-trans}
use Rattle.remaining.specs.Going.{Going}
use Rattle.remaining.specs.Standing.{far, field, go_in, sum_in}
use Rattle.remaining.proofs.StandingLaws.{going-begun, settled, sum-falls}
use Rattle.remaining.proofs.distances.Statement.{statement}
use Rattle.remaining.proofs.distances.Tie as tie

abbrev invariant-loop-nodes : tie.invariant-loop-nodes
invariant-loop-nodes table closed nodes goal room₀ room = (length room ≡ length room₀) × Within field 8 room₀ room × Going (net_of nodes table closed) goal far (go_in nodes room)

abbrev decreases-loop-nodes : tie.decreases-loop-nodes
decreases-loop-nodes table closed nodes goal room₀ room = sum_in nodes room

loop-holds : tie.Need-loop-nodes-init invariant-loop-nodes decreases-loop-nodes
loop-holds c =
    let x = c in
    let s = x in
    (refl, within_same _ _ _, going-begun (net_of s.args.nodes s.args.table.now s.args.closed.now) s.args.goal _ _ s.requires.2 x.start.ensures)

abbrev begun : tie.At-loop-nodes invariant-loop-nodes decreases-loop-nodes → tie.After-start invariant-loop-nodes decreases-loop-nodes
begun a = a.before.before.before

abbrev entry : tie.At-loop-nodes invariant-loop-nodes decreases-loop-nodes → tie.Start invariant-loop-nodes decreases-loop-nodes
entry a = (begun a).before.before.before.before.before

pass-requires : tie.Need-pass-requires invariant-loop-nodes decreases-loop-nodes
pass-requires c κs = let a = c.before in let s = entry a in (s.requires.0, omega (arith, s.requires.1, a.loop-nodes.invariant.0, (begun a).start.ensures.within.long), a.loop-nodes.invariant.2)

returns : tie.Need-returns-then-pass-eq0 invariant-loop-nodes decreases-loop-nodes
returns c =
    let p = c in
    let a = p.before.before.before.before.before in
    let s = entry a in
    settled s.args.nodes s.args.table.now s.args.closed.now s.args.goal s.requires.0 _ _ _ (within-trans (begun a).start.ensures.within a.loop-nodes.invariant.1) (rw c.if-pass-eq0.true at p.pass.ensures)

loop-less : tie.Need-loop-nodes-smaller invariant-loop-nodes decreases-loop-nodes
loop-less c = let p = c in sum-falls p.pass.ensures c.if-pass-eq0.false

loop-again : tie.Need-loop-nodes-preserved invariant-loop-nodes decreases-loop-nodes
loop-again c =
    let p = c in
    let a = p in
    (search rules, within-trans a.loop-nodes.invariant.1 p.pass.ensures.within, p.pass.ensures.going)

pub distances_spec : {M : Type 1} → statement M
distances_spec =
    tie.close
    (tie.spec
    invariant-loop-nodes
    decreases-loop-nodes
    (λ c κs. search rules)
    loop-holds
    pass-requires
    (λ c. search rules)
    returns
    loop-less
    loop-again)
