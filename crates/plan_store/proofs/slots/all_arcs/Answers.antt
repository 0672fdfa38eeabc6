-- The chain tests each number, as the definition does.
use mathlib.Core.Path.{◌∙◌}
use borrow.Author.Tests.{tests}
use lib.Dec.{ltb}
use Rattle.std.proofs.Common.{rules}
use Rattle.std.proofs.lemmas.Iterator.{YieldsList-from_slice}
use Rattle.std.proofs.lemmas.Iterator.Search.{all_from_yields_List}
use Rattle.net.specs.Limits.{most_arcs}
use Rattle.lists.proofs.StdLaws.{all-every}
use Rattle.plan_store.proofs.slots.all_arcs.Goals as goal

pub returns : goal.returns
returns c =
    all_from_yields_List (λ a. ltb a most_arcs) _ _ c.all.result c.all.ensures.ran (YieldsList-from_slice c.args.route.now (search rules)) (λ x b q k. search (rules, tests))
    ∙ all-every (λ a. ltb a most_arcs) c.args.route.now
