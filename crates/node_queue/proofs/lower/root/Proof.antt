-- Invariant: a block of `half` nodes begins at 0, and node `half` is below n. Where twice as many are all, it has the winner of all (`root-first`).
use mathlib.Core.Path.{sym, subst}
use Prim.Native.Nat.{◌-◌, ◌<◌}
use native.Mathlib.Omega.{arith}
use borrow.Author.Rules.{rules}
use Rattle.search_tree.specs.Tree.{First, Block}
use Rattle.node_queue.proofs.WinnerLaws.{room_at}
use Rattle.node_queue.proofs.LowerLaws.{block-pos, block-double, root-first}
use Rattle.node_queue.proofs.lower.root.Statement.{statement}
use Rattle.node_queue.proofs.lower.root.Tie as tie

abbrev invariant-loop-half : tie.invariant-loop-half
invariant-loop-half b n below half₀ half = (Block 0 half) × (half < n)

abbrev decreases-loop-half : tie.decreases-loop-half
decreases-loop-half b n below half₀ half = n - half

word-requires : tie.Need-word-requires invariant-loop-half decreases-loop-half
word-requires c κs = (room_at c.before.before.before.requires.0 _ c.before.loop-half.invariant.1, omega arith)

returns : tie.Need-returns invariant-loop-half decreases-loop-half
returns c =
    let e = c.before in
    let v = e.before.loop-half.invariant in
    let s = e.before.before.before in
    subst (First _ _ _ _) (sym c.word.ensures) (root-first _ _ _ s.requires.3 v.0 v.1 (omega (arith, e.loop-half-test.false)))

pub root_spec : {M : Type 1} → statement M
root_spec =
    tie.close
    (tie.spec
    invariant-loop-half
    decreases-loop-half
    (λ c. (c.before.requires.1, c.before.requires.2))
    (λ c. omega (arith, c.loop-half.invariant.1, c.before.before.requires.0.few))
    (λ c. search rules)
    (λ c. omega (arith, block-pos c.before.loop-half.invariant.0))
    (λ c. (block-double c.before.loop-half.invariant.0, omega arith))
    word-requires
    (λ c. search rules)
    returns)
