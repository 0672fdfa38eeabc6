-- Where the test passes at each record before it, each is none of the plan or a lower part.
use mathlib.Core.Path.{◌≡◌, refl}
use borrow.Author.Tests.{tests}
use Rattle.std.proofs.Common.{rules, arith, ℕ}
use Rattle.std.proofs.lemmas.Bool.{MatchBool-at_true}
use Rattle.std.proofs.lemmas.Iterator.{YieldsList-from_range, cases_from_all}
use Rattle.plan_record.specs.Record.{plan_at}
use Rattle.lists.proofs.StdLaws.{each-below}
use Rattle.plan_file.specs.Pass.{Lower}
use Rattle.plan_file.proofs.all_below.Goals as goal

pub returns : goal.returns
returns c e =
    let f = c.args.file.now in
    let i = c.args.i in
    let Fine = λ (k : ℕ). plan_at f k ≡ plan_at f i → Lower f k i in
    each-below Fine i
    (MatchBool-at_true _ _ e
    (cases_from_all _ _ c.all.result Fine (λ _. Unit {0}) c.all.ensures.ran (YieldsList-from_range 0 i i refl (omega arith)) (λ x q k. search (rules, tests)) (λ x q k. tt)))
