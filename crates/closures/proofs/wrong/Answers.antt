-- The number of bytes, then the bytes: a test of each number's byte is a test of each byte (`any_at`).
use Rattle.std.proofs.Common.{ltb, sym, ap, ◌∙◌, get_or, arith, rules, tests}
use borrow.Author.Tests.{eq-eqb, ne_eqb}
use Rattle.std.proofs.lemmas.Iterator.{YieldsList-from_slice}
use Rattle.std.proofs.lemmas.Iterator.Search.{any_from_yields_List}
use Rattle.lists.proofs.LoopLaws.{any_at}
use Rattle.lists.proofs.StdLaws.{any-any}
use Rattle.closures.specs.Closed.{wrong}
use Rattle.closures.proofs.wrong.Goals as goal

pub returns-then-closed-table : goal.returns-then-closed-table
unfolding wrong
returns-then-closed-table c = rw (ne_eqb _ _ c.if-closed-table.true)

pub returns-else-closed-table : goal.returns-else-closed-table
unfolding wrong
returns-else-closed-table c =
    let xs = c.args.closed.now in
    rw (eq-eqb _ _ c.if-closed-table.false)
    (any_from_yields_List (ltb 1) _ _ _ c.any.ensures.ran (YieldsList-from_slice xs cc) (λ x b q k. search (rules, tests))
    ∙ sym (any_at (ltb 1) (λ i. ltb 1 (get_or xs i 0)) 0 xs 0 (λ j h. ap (λ i. ltb 1 (get_or xs i 0)) (omega arith)) ∙ sym (any-any (ltb 1) xs)))
