-- Invariant: only winners changed, and the way up has come to the block of `half` nodes in which node x stands. A level more is `level`'s; at a block that has all
-- nodes the tree is right (`update-done`).
use Prim.Native.Nat.{◌-◌}
use native.Mathlib.Omega.{arith}
use borrow.Author.Rules.{rules}
use Rattle.working_room.specs.Field.{Within}
use Rattle.working_room.proofs.RoomLaws.{within_same, within-trans}
use Rattle.search_tree.specs.Tree.{Climbs}
use Rattle.node_queue.specs.Queue.{winner_at, NotAfter}
use Rattle.node_queue.proofs.WinnerLaws.{roomy-kept}
use Rattle.node_queue.proofs.ClimbLaws.{update-start, update-done, climbs-kept, half_pos}
use Rattle.node_queue.proofs.winner.update.Statement.{statement}
use Rattle.node_queue.proofs.winner.update.Tie as tie

abbrev invariant-loop-half : tie.invariant-loop-half
invariant-loop-half b₀ n x w₀ half₀ j₀ b w half j = (Within 8 4 b₀ b) × (Climbs (NotAfter b) (winner_at b) n x half j w)

abbrev decreases-loop-half : tie.decreases-loop-half
decreases-loop-half b₀ n x w₀ half₀ j₀ b w half j = n - half

abbrev start : tie.At-loop-half invariant-loop-half decreases-loop-half → tie.Start invariant-loop-half decreases-loop-half
start a = a.before.before

level-requires : tie.Need-level-w-requires invariant-loop-half decreases-loop-half
level-requires c κs =
    let a = c.before.before in
    let s = start a in
    (roomy-kept a.loop-half.invariant.0 s.requires.0, s.requires.1, omega (arith, c.before.loop-half-test.true), a.loop-half.invariant.1)

loop-less : tie.Need-loop-half-smaller invariant-loop-half decreases-loop-half
loop-less c =
    let t = c.before.before.before.before in
    omega (arith, t.loop-half-test.true, half_pos _ t.before.loop-half.invariant.1)

loop-again : tie.Need-loop-half-preserved invariant-loop-half decreases-loop-half
loop-again c =
    let l = c.before.before in
    let a = l.before.before.before in
    (within-trans a.loop-half.invariant.0 l.level-w.ensures.0, climbs-kept l.level-w.ensures.0 l.level-w.ensures.1)

returns : tie.Need-returns invariant-loop-half decreases-loop-half
returns c =
    let a = c.before in
    let d = update-done _ (start a).requires.1 (omega arith) a.loop-half.invariant.1 in
    (a.loop-half.invariant.0, d.0, d.1)

pub update_spec : {M : Type 1} → statement M
update_spec =
    tie.close
    (tie.spec
    invariant-loop-half
    decreases-loop-half
    (λ c. (within_same 8 4 _, update-start _ _ _ c.before.requires.1 c.before.requires.2))
    level-requires
    (λ c. search rules)
    loop-less
    loop-again
    (λ c. search rules)
    returns)
