-- The chain tests each slot, as the definition does.
use mathlib.Core.Path.{refl, ◌∙◌}
use borrow.Author.Tests.{tests}
use Rattle.std.proofs.Common.{rules, arith, ℕ}
use Rattle.std.proofs.lemmas.Iterator.{YieldsList-from_range}
use Rattle.std.proofs.lemmas.Iterator.Search.{any_from_yields_List}
use Rattle.words.specs.Part.{slot}
use Rattle.lists.proofs.StdLaws.{any-each}
use Rattle.plan_store.specs.Slots.{wrong_slot}
use Rattle.plan_store.proofs.slots.any_wrong.Goals as goal

pub returns : goal.returns
returns c =
    let test = λ (r : ℕ). wrong_slot (slot c.args.width r c.args.slots.now) in
    any_from_yields_List test _ _ c.any.result c.any.ensures.ran (YieldsList-from_range 0 c.args.routes c.args.routes refl (omega arith)) (λ x b q k. search (rules, tests))
    ∙ any-each test c.args.routes
