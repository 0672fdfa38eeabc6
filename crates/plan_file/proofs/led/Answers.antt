-- The chain tests each record, as the definition does.
use mathlib.Core.Path.{refl, ◌∙◌}
use borrow.Author.Tests.{tests}
use Rattle.std.proofs.Common.{rules, arith}
use Rattle.std.proofs.lemmas.Iterator.{YieldsList-from_range}
use Rattle.std.proofs.lemmas.Iterator.Search.{any_from_yields_List}
use Rattle.plan_record.specs.Record.{records}
use Rattle.lists.proofs.StdLaws.{any-each}
use Rattle.plan_file.specs.File.{follows}
use Rattle.plan_file.proofs.led.Goals as goal

pub returns : goal.returns
returns c =
    let f = c.args.file.now in
    any_from_yields_List (follows f c.args.i) _ _ c.any.result c.any.ensures.ran (YieldsList-from_range 0 (records f) (records f) refl (omega arith)) (λ x b q k. search (rules, tests))
    ∙ any-each (follows f c.args.i) (records f)
