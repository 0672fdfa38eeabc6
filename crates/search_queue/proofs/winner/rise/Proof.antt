-- Invariant: only winners changed, the way up has come to block j of `half` labels, of which label n is the first, and `root` is the first of the others. Where the
-- block is the first of two there is nothing to do; else label n takes the winner's place (`enters-wins`), or all stays as it is (`enters-stays`).
use mathlib.Core.Path.{subst}
use Prim.Native.Nat.{◌+◌, ◌-◌, ◌*◌, ◌≤◌, ◌<◌}
use native.Mathlib.Omega.{arith}
use borrow.Author.Rules.{rules}
use Rattle.labels.specs.Standing.{Comparable}
use Rattle.search_tree.specs.Tree.{First, Enters}
use Rattle.search_tree.proofs.TreeLaws.{first-near}
use Rattle.search_queue.specs.Working.{winner_at}
use Rattle.search_queue.specs.Only.{Only}
use Rattle.search_queue.specs.Order.{NotAfter}
use Rattle.search_queue.proofs.OnlyLaws.{only_same, only-trans, comparable-only}
use Rattle.search_queue.proofs.OrderLaws.{is-sooner, is-no-sooner}
use Rattle.search_queue.proofs.WorkingLaws.{only-working, not-after-only}
use Rattle.search_queue.proofs.EnterLaws.{enters-only, enters-low, enters-pos, enters-past, old-used, enters-wins, enters-stays, enters-done}
use Rattle.search_queue.proofs.winner.rise.Statement.{statement}
use Rattle.search_queue.proofs.winner.rise.Tie as tie

abbrev invariant-loop-half : tie.invariant-loop-half
invariant-loop-half b₀ n root block size j₀ half₀ b j half =
    (Only 28 2 (n + 1) b₀ b) × (Enters (NotAfter b) (winner_at b) n half j n) × (First (NotAfter b) n 0 n root)

abbrev decreases-loop-half : tie.decreases-loop-half
decreases-loop-half b₀ n root block size j₀ half₀ b j half = n + 1 - half

abbrev start : tie.At-loop-half invariant-loop-half decreases-loop-half → tie.Start invariant-loop-half decreases-loop-half
start a = a.before.before

comparable : (a : tie.At-loop-half invariant-loop-half decreases-loop-half) → Comparable a.loop-half.labels ((start a).args.n + 1)
comparable a = comparable-only (only-working a.loop-half.invariant.0) _ (start a).requires.0

low : (a : tie.At-loop-half invariant-loop-half decreases-loop-half) → a.loop-half.j * a.loop-half.half ≤ (start a).args.n
low a = enters-low _ a.loop-half.invariant.1

loop-again : tie.Need-loop-half-preserved-then-j-eq0 invariant-loop-half decreases-loop-half
loop-again c =
    let v = c.before.before.loop-half.invariant in
    (v.0, enters-past _ v.1 c.if-j-eq0.true, v.2)

-- where label n stands in the second of two blocks: the winner there is one of the others
others : (c : tie.After-winner-w invariant-loop-half decreases-loop-half)
    → c.winner-w.result < (start c.before.before.before).args.n
others c =
    let e = c.before in
    let a = e.before in
    omega (arith, c.winner-w.ensures, old-used _ a.loop-half.invariant.1 e.if-j-eq0.false)

is-sooner-requires : tie.Need-is_sooner-requires invariant-loop-half decreases-loop-half
is-sooner-requires c κs = (comparable c.before.before.before, omega (arith, others c), omega (arith, others c))

abbrev turned : tie.After-is_sooner invariant-loop-half decreases-loop-half → tie.Else-j-eq0 invariant-loop-half decreases-loop-half
turned c = c.before.before

returns : tie.Need-returns-then-is_sooner invariant-loop-half decreases-loop-half
returns c =
    let d = c.before in
    let e = turned d in
    let a = e.before.before in
    let v = a.loop-half.invariant in
    let h = subst (λ w. NotAfter a.loop-half.labels w (start a).args.n) d.before.winner-w.ensures (is-sooner _ _ _ _ d.is_sooner.ensures c.if-is_sooner.true) in
    let k = enters-stays _ v.1 e.if-j-eq0.false _ h v.2 in
    (v.0, k.0, k.1)

loop-again-2 : tie.Need-loop-half-preserved invariant-loop-half decreases-loop-half
loop-again-2 c =
    let p = c.before.before in
    let d = p.before.before.before in
    let e = turned d in
    let a = e.before.before in
    let v = a.loop-half.invariant in
    let h = subst (λ w. NotAfter a.loop-half.labels (start a).args.n w) d.before.winner-w.ensures (is-no-sooner _ _ _ _ d.is_sooner.ensures p.before.before.if-is_sooner.false) in
    let w = enters-wins _ v.1 e.if-j-eq0.false (omega (arith, (comparable a).down.room)) (start a).requires.1 h _ p.put_winner.ensures in
    (only-trans v.0 w.0, enters-only w.0 w.1, first-near _ _ (not-after-only w.0) v.2)

returns-2 : tie.Need-returns invariant-loop-half decreases-loop-half
returns-2 c =
    let v = c.before.loop-half.invariant in
    let d = enters-done _ v.1 (omega arith) in
    (v.0, d.0, d.1)

pub rise_spec : {M : Type 1} → statement M
rise_spec =
    tie.close
    (tie.spec
    invariant-loop-half
    decreases-loop-half
    (λ c. (only_same 28 2 _ _, c.before.requires.3, c.before.requires.2))
    (λ c. search rules)
    (λ c. omega (arith, enters-pos _ c.before.before.loop-half.invariant.1))
    loop-again
    (λ c. omega (arith, low c.before.before))
    (λ c κs. let a = c.before.before in omega (arith, low a, (comparable a).down.room))
    (λ c. search rules)
    (λ c. search rules)
    is-sooner-requires
    (λ c. search rules)
    returns
    (λ c. search rules)
    (λ c κs. let a = (turned c.before.before).before.before in omega (arith, low a, (comparable a).down.room))
    (λ c. search rules)
    (λ c. omega (arith, enters-pos _ (turned c.before.before.before.before.before).before.before.loop-half.invariant.1))
    loop-again-2
    (λ c. search rules)
    returns-2)
