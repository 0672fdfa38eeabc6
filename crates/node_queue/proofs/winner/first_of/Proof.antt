-- The part that matters is one node, which is the first, or two halves whose winner their middle has.
use mathlib.Core.Path.{sym, subst}
use Prim.Native.Nat.{◌+◌, ◌/◌, ◌<◌}
use native.Mathlib.Omega.{arith}
use borrow.Author.Rules.{rules}
use Rattle.search_tree.specs.Tree.{First}
use Rattle.node_queue.specs.Queue.{winner_at, NotAfter}
use Rattle.node_queue.proofs.WinnerLaws.{room_at}
use Rattle.node_queue.proofs.ClimbLaws.{block-alone, block-middle}
use Rattle.node_queue.proofs.winner.first_of.Statement.{statement}
use Rattle.node_queue.proofs.winner.first_of.Tie as tie

returns : tie.Need-returns-then-s-eq1
returns c =
    let s = c.before.before in
    block-alone _ s.requires.1 _ _ s.requires.2 s.requires.3 c.if-s-eq1.true

middle : (c : tie.Else-s-eq1)
    → let s = c.before.before in
    let at = s.args.e + s.args.s / 2 in
    let l = s.args.room.now in
    (at < s.args.n) × First (NotAfter l) s.args.n s.args.e (s.args.e + s.args.half) (winner_at l at)
middle c =
    let s = c.before.before in
    block-middle _ s.requires.1 _ _ s.requires.2 s.requires.3 c.if-s-eq1.false

pub first_of_spec : {M : Type 1} → statement M
first_of_spec =
    tie.close
    (tie.spec
    returns
    (λ c. search rules)
    (λ c κs. (room_at c.before.before.requires.0 _ (middle c).0, omega arith))
    (λ c. search rules)
    (λ c. subst (First _ _ _ _) (sym c.word.ensures) (middle c.before).1))
