-- Each of the two comparisons is made where there is an arc to compare with, and holds where there is none.
use mathlib.Core.Path.{◌≡◌, sym, ◌∙◌}
use mathlib.Core.Logic.{⊎_elim}
use mathlib.Core.Bool.{true}
use Rattle.table.specs.Table.{arcs_of}
use Rattle.search_advance.specs.Own.{after_arc}
use Rattle.search_advance.proofs.OwnLaws.{after_none, after-some, before-none, before-some, wanted-both, wanted-not-after, wanted-not-before}
use Rattle.search_advance.proofs.wanted.Statement.{statement}
use Rattle.search_advance.proofs.wanted.Tie as tie

abbrev start : tie.Joined-from-ne-NO_ARC → tie.Start
start c = c.before.before

after : (c : tie.Joined-from-ne-NO_ARC) → after_arc (arcs_of c.args.table.now) c.args.from c.args.arc ≡ true
after c =
    ⊎_elim (λ w. after-some _ _ _ w.if-from-ne-NO_ARC.true ∙ sym w.arc_first.ensures ∙ w.if-not-arc_first.false) (λ w. after_none _ _ _ w.if-from-ne-NO_ARC.false) c.if-from-ne-NO_ARC.branch-raw

arc-first-requires : tie.Need-arc_first-requires
arc-first-requires c κs = let s = c in (s.requires.0 c.if-from-ne-NO_ARC.true, s.requires.2)

returns : tie.Need-returns-then-not-arc_first
returns c =
    let t = c in
    sym (wanted-not-after _ _ _ _ (after-some _ _ _ t.if-from-ne-NO_ARC.true ∙ sym c.arc_first.ensures ∙ c.if-not-arc_first.true))

arc-first-requires-2 : tie.Need-arc_first-requires-then-best-ne-NO_ARC
arc-first-requires-2 c κs = let s = start c.before in (s.requires.2, s.requires.1 c.if-best-ne-NO_ARC.true)

returns-2 : tie.Need-returns-then-not-arc_first-2
returns-2 c =
    let t = c in
    sym (wanted-not-before _ _ _ _ (after t.before.before.before) (before-some _ _ _ t.if-best-ne-NO_ARC.true ∙ sym c.arc_first-then-best-ne-NO_ARC.ensures ∙ c.if-not-arc_first-2.true))

returns-3 : tie.Need-returns-else-not-arc_first-2
returns-3 c =
    let t = c in
    sym (wanted-both _ _ _ _ (after t.before.before.before) (before-some _ _ _ t.if-best-ne-NO_ARC.true ∙ sym c.arc_first-then-best-ne-NO_ARC.ensures ∙ c.if-not-arc_first-2.false))

returns-4 : tie.Need-returns-else-best-ne-NO_ARC
returns-4 c = sym (wanted-both _ _ _ _ (after c.before) (before-none _ _ _ c.if-best-ne-NO_ARC.false))

pub wanted_spec : {M : Type 1} → statement M
wanted_spec =
    tie.close
    (tie.spec arc-first-requires returns arc-first-requires-2 returns-2 returns-3 returns-4)
