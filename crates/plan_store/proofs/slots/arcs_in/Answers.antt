-- The first word that stands for no arc, or the end.
use mathlib.Core.Path.{ap, ◌∙◌}
use borrow.Author.Tests.{tests}
use lib.Dec.{eqb}
use Rattle.std.proofs.Common.{rules, length}
use Rattle.std.specs.Option.{unwrap_or}
use Rattle.std.proofs.lemmas.Iterator.{YieldsList-from_slice}
use Rattle.std.proofs.lemmas.Iterator.Search.{position_from_yields_List}
use Rattle.labels.specs.Field.{no_number}
use Rattle.plan_store.specs.Slots.{arcs_in}
use Rattle.plan_store.proofs.SlotLaws.{place-or-end}
use Rattle.plan_store.proofs.slots.arcs_in.Goals as goal

pub returns : goal.returns
unfolding arcs_in
returns c =
    c.unwrap_or.ensures
    ∙ ap (λ o. unwrap_or o (length c.args.slot.now))
    (position_from_yields_List (λ a. eqb a no_number) _ _ c.position.result c.position.ensures.ran (YieldsList-from_slice c.args.slot.now (search rules)) (λ x b q k. search (rules, tests)))
    ∙ place-or-end (λ a. eqb a no_number) c.args.slot.now
