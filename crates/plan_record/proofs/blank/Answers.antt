-- The chain tests each byte of the record, as the definition does.
use mathlib.Core.Path.{◌∙◌}
use borrow.Author.Tests.{tests}
use Rattle.std.proofs.Common.{rules, nat_eq}
use Rattle.std.proofs.lemmas.Iterator.{YieldsList-from_slice}
use Rattle.std.proofs.lemmas.Iterator.Search.{all_from_yields_List}
use Rattle.words.specs.Part.{slot}
use Rattle.plan_record.specs.Record.{record_bytes, blank}
use Rattle.lists.proofs.StdLaws.{all-every}
use Rattle.plan_record.proofs.blank.Goals as goal

pub returns : goal.returns
unfolding blank slot
returns c =
    all_from_yields_List (λ b. nat_eq b 0) _ _ c.all.result c.all.ensures.ran (YieldsList-from_slice (slot record_bytes c.args.i c.args.file.now) (search rules)) (λ x b q k. search (rules, tests))
    ∙ all-every (λ b. nat_eq b 0) (slot record_bytes c.args.i c.args.file.now)
