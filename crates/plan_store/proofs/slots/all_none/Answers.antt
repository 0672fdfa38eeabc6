-- The chain tests each word, as the definition does.
use mathlib.Core.Path.{◌∙◌}
use borrow.Author.Tests.{tests}
use lib.Dec.{eqb}
use Rattle.std.proofs.Common.{rules}
use Rattle.std.proofs.lemmas.Iterator.{YieldsList-from_slice}
use Rattle.std.proofs.lemmas.Iterator.Search.{all_from_yields_List}
use Rattle.labels.specs.Field.{no_number}
use Rattle.lists.proofs.StdLaws.{all-every}
use Rattle.plan_store.proofs.slots.all_none.Goals as goal

pub returns : goal.returns
returns c =
    all_from_yields_List (λ a. eqb a no_number) _ _ c.all.result c.all.ensures.ran (YieldsList-from_slice c.args.words.now (search rules)) (λ x b q k. search (rules, tests))
    ∙ all-every (λ a. eqb a no_number) c.args.words.now
