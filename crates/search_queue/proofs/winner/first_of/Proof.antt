-- The block is narrowed to its part that matters: one label, which is the first, or two halves whose winner their middle has.
use mathlib.Core.Path.{sym, subst}
use Prim.Native.Nat.{◌+◌, ◌/◌, ◌<◌}
use native.Mathlib.Omega.{arith}
use borrow.Author.Rules.{rules}
use Rattle.search_tree.specs.Tree.{First}
use Rattle.search_queue.specs.Working.{winner_at}
use Rattle.search_queue.specs.Order.{NotAfter}
use Rattle.search_queue.proofs.ClimbLaws.{block-alone, block-middle}
use Rattle.search_queue.proofs.winner.first_of.Statement.{statement}
use Rattle.search_queue.proofs.winner.first_of.Tie as tie

abbrev start : tie.Else-s-eq1 → tie.Start
start c = c.before.before.before

returns : tie.Need-returns-then-s-eq1
returns c =
    let s = c.before.before.before in
    block-alone _ s.requires.4 _ _ s.requires.6 c.before.narrow-s.ensures c.if-s-eq1.true

middle : (c : tie.Else-s-eq1)
    → let s = start c in
    let at = s.args.e + c.before.narrow-s.result / 2 in
    let l = s.args.labels.now in
    (at < s.args.n) × First (NotAfter l) s.args.n s.args.e (s.args.e + s.args.half) (winner_at l at)
middle c =
    let s = start c in
    block-middle _ s.requires.4 _ _ s.requires.6 c.before.narrow-s.ensures c.if-s-eq1.false

pub first_of_spec : {M : Type 1} → statement M
first_of_spec =
    tie.close
    (tie.spec
    (λ c κs. search rules)
    returns
    (λ c. search rules)
    (λ c κs. omega (arith, (middle c).0, (start c).requires.0.down.room))
    (λ c. search rules)
    (λ c. subst (First _ _ _ _) (sym c.winner.ensures) (middle c.before).1))
