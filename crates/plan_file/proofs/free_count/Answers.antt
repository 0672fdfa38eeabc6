-- The chain counts the indices of the free records, as many as the definition keeps.
use mathlib.Core.Path.{ap, ◌∙◌}
use borrow.Author.Tests.{tests}
use Rattle.std.proofs.Common.{rules, arith, nat_eq, length}
use Rattle.std.proofs.lemmas.Iterator.{YieldsList-from_range}
use Rattle.std.proofs.lemmas.Iterator.Consumers.{YieldsList-from_filter, count_from_yields_List}
use Rattle.plan_record.specs.Record.{records, plan_at}
use Rattle.lists.proofs.StdLaws.{filter-each}
use Rattle.plan_file.specs.Meaning.{free_in}
use Rattle.plan_file.proofs.free_count.Goals as goal

pub returns : goal.returns
unfolding free_in
returns c =
    let f = c.args.file.now in
    count_from_yields_List c.filter.result _ c.count.ensures.ran (YieldsList-from_filter _ (λ i. nat_eq (plan_at f i) 0) (YieldsList-from_range 0 (records f) (records f) (search rules) (omega arith)) c.filter.ensures.closure (λ x r q k. search (rules, tests)))
    ∙ ap length (filter-each (λ i. nat_eq (plan_at f i) 0) (records f))
