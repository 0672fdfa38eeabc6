-- The chain tests each record, as the definition does.
use mathlib.Core.Path.{refl, ◌∙◌}
use borrow.Author.Tests.{tests}
use Rattle.std.proofs.Common.{rules, arith, nat_eq}
use Rattle.std.proofs.lemmas.Iterator.{YieldsList-from_range}
use Rattle.std.proofs.lemmas.Iterator.Search.{any_from_yields_List}
use Rattle.plan_record.specs.Record.{records, plan_at}
use Rattle.lists.proofs.StdLaws.{any-each}
use Rattle.plan_file.specs.Meaning.{has_plan}
use Rattle.plan_file.proofs.has_plan.Goals as goal

pub returns : goal.returns
unfolding has_plan
returns c =
    let f = c.args.file.now in
    any_from_yields_List (λ i. nat_eq (plan_at f i) c.args.plan) _ _ c.any.result c.any.ensures.ran (YieldsList-from_range 0 (records f) (records f) refl (omega arith)) (λ x b q k. search (rules, tests))
    ∙ any-each (λ i. nat_eq (plan_at f i) c.args.plan) (records f)
