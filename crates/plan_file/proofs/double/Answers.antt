-- The chain tests each record before it, as the definition does.
use mathlib.Core.Path.{refl, ◌∙◌}
use borrow.Author.Tests.{tests}
use Rattle.std.proofs.Common.{rules, arith}
use Rattle.std.proofs.lemmas.Iterator.{YieldsList-from_range}
use Rattle.std.proofs.lemmas.Iterator.Search.{any_from_yields_List}
use Rattle.lists.proofs.StdLaws.{any-each}
use Rattle.plan_file.specs.File.{is_part, is_double}
use Rattle.plan_file.proofs.double.Goals as goal

pub returns : goal.returns
unfolding is_double
returns c =
    let f = c.args.file.now in
    let same = is_part f c.plan-plan.result c.rank-rank.result c.part-part.result in
    any_from_yields_List same _ _ c.any.result c.any.ensures.ran (YieldsList-from_range 0 c.args.i c.args.i refl (omega arith)) (λ x b q k. search (rules, tests))
    ∙ any-each same c.args.i ∙ rw (c.plan-plan.ensures, c.rank-rank.ensures, c.part-part.ensures)
