-- The chain tests each place of the arc numbers, as the definition does.
use mathlib.Core.Path.{refl, ◌∙◌}
use borrow.Author.Tests.{tests}
use Rattle.std.proofs.Common.{rules}
use Rattle.std.proofs.lemmas.Iterator.{YieldsList-from_range}
use Rattle.std.proofs.lemmas.Iterator.Search.{all_from_yields_List}
use Rattle.plan_record.specs.Record.{part_arcs, formed_arc}
use Rattle.lists.proofs.StdLaws.{all-each}
use Rattle.plan_record.proofs.formed_arcs.Goals as goal

pub returns : goal.returns
returns c =
    all_from_yields_List (formed_arc c.args.file.now c.args.i) _ _ c.all.result c.all.ensures.ran (YieldsList-from_range 0 part_arcs part_arcs refl refl) (λ x b q k. search (rules, tests))
    ∙ all-each (formed_arc c.args.file.now c.args.i) part_arcs
