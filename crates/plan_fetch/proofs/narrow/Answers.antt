-- The chain looks for a record that reaches past the width: one is found where, and only where, a route is longer (`narrow-is`).
use mathlib.Core.Path.{refl, ◌∙◌}
use borrow.Author.Tests.{tests}
use Rattle.std.proofs.Common.{rules, arith}
use Rattle.std.proofs.lemmas.Iterator.{YieldsList-from_range}
use Rattle.std.proofs.lemmas.Iterator.Search.{any_from_yields_List}
use Rattle.plan_record.specs.Record.{records}
use Rattle.lists.proofs.StdLaws.{any-each}
use Rattle.plan_file.proofs.SoundLaws.{sound-e}
use Rattle.plan_fetch.proofs.PassLaws.{reaches_at, narrow-is}
use Rattle.plan_fetch.proofs.narrow.Goals as goal

pub returns : goal.returns
returns c =
    let f = c.args.file.now in
    let test = reaches_at f c.args.plan c.args.width in
    any_from_yields_List test _ _ c.any.result c.any.ensures.ran (YieldsList-from_range 0 (records f) (records f) refl (omega arith)) (λ x b q k. search (rules, tests))
    ∙ any-each test (records f) ∙ narrow-is f (sound-e f c.requires.0) c.args.plan c.requires.1 c.args.width
