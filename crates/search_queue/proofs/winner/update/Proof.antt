-- Invariant: only winners changed, and the way up has come to the block of `half` labels in which label i stands. A level more is `level`'s; at a block that has all
-- labels the tree is right (`update-done`).
use Prim.Native.Nat.{◌-◌}
use native.Mathlib.Omega.{arith}
use borrow.Author.Rules.{rules}
use Rattle.search_tree.specs.Tree.{Climbs}
use Rattle.search_queue.specs.Working.{winner_at}
use Rattle.search_queue.specs.Only.{Only}
use Rattle.search_queue.specs.Order.{NotAfter}
use Rattle.search_queue.proofs.OnlyLaws.{only_same, only-trans, comparable-only}
use Rattle.search_queue.proofs.WorkingLaws.{only-working}
use Rattle.search_queue.proofs.ClimbLaws.{update-start, update-done, climbs-only, half_pos}
use Rattle.search_queue.proofs.winner.update.Statement.{statement}
use Rattle.search_queue.proofs.winner.update.Tie as tie

abbrev invariant-loop-half : tie.invariant-loop-half
invariant-loop-half b₀ n i w₀ half₀ j₀ b w half j = (Only 28 2 n b₀ b) × (Climbs (NotAfter b) (winner_at b) n i half j w)

abbrev decreases-loop-half : tie.decreases-loop-half
decreases-loop-half b₀ n i w₀ half₀ j₀ b w half j = n - half

abbrev start : tie.At-loop-half invariant-loop-half decreases-loop-half → tie.Start invariant-loop-half decreases-loop-half
start a = a.before.before

level-requires : tie.Need-level-w-requires invariant-loop-half decreases-loop-half
level-requires c κs =
    let a = c.before.before in
    let s = start a in
    (comparable-only (only-working a.loop-half.invariant.0) _ s.requires.0, s.requires.1, s.requires.2, c.before.loop-half-test.true, a.loop-half.invariant.1)

loop-less : tie.Need-loop-half-smaller invariant-loop-half decreases-loop-half
loop-less c =
    let t = c.before.before.before.before in
    omega (arith, t.loop-half-test.true, half_pos _ t.before.loop-half.invariant.1)

loop-again : tie.Need-loop-half-preserved invariant-loop-half decreases-loop-half
loop-again c =
    let l = c.before.before in
    let a = l.before.before.before in
    (only-trans a.loop-half.invariant.0 l.level-w.ensures.0, climbs-only l.level-w.ensures.0 l.level-w.ensures.1)

returns : tie.Need-returns invariant-loop-half decreases-loop-half
returns c =
    let a = c.before in
    let d = update-done _ (start a).requires.2 (omega arith) a.loop-half.invariant.1 in
    (a.loop-half.invariant.0, d.0, d.1)

pub update_spec : {M : Type 1} → statement M
update_spec =
    tie.close
    (tie.spec
    invariant-loop-half
    decreases-loop-half
    (λ c. (only_same 28 2 _ _, update-start _ _ _ c.before.requires.2 c.before.requires.3))
    level-requires
    (λ c. search rules)
    loop-less
    loop-again
    (λ c. search rules)
    returns)
