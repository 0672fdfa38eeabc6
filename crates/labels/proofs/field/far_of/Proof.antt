-- Label 0 is its own. For another the rule is followed as it reads: both far ancestors on the way lie below the label, and each has no more arcs than the one
-- before it, so the differences are numbers.
use mathlib.Core.Path.{sym, ap, ◌∙◌}
use Prim.Native.Nat.{◌<◌}
use native.Mathlib.Omega.{arith}
use lib.ListN.{length}
use borrow.Author.Rules.{rules}
use Rattle.labels.specs.Chain.{chain_at}
use Rattle.labels.proofs.FarLaws.{far-first, far-later, rule-over, rule-one, far-le, far-shorter}
use Rattle.labels.proofs.field.far_of.Statement.{statement}
use Rattle.labels.proofs.field.far_of.Tie as tie

abbrev start : tie.Else-label-eq0 → tie.Start
start c = c.before.before

low : (c : tie.Else-label-eq0) → (start c).args.extends < (start c).args.label
low c = (start c).requires.2 c.if-label-eq0.false

-- the next two far ancestors
next : (c : tie.After-far-next) → c.far-next.result < (start c.before).args.label
next c =
    let s = start c.before in
    omega (arith, c.far-next.ensures, far-le s.requires.0 s.requires.1 s.args.extends (low c.before), low c.before)

after : (c : tie.After-far-after) → c.far-after.result < (start c.before.before).args.label
after c =
    let s = start c.before.before in
    omega (arith, c.far-after.ensures, far-le s.requires.0 s.requires.1 c.before.far-next.result (next c.before), next c.before)

sub-if2 : tie.Need-overflow_sub-d
sub-if2 c =
    let q = c.before.before.before.before in
    let s = start q.before in
    let b = s.args.labels.now in
    omega (
      arith,
      c.before.depth-e.ensures,
      s.requires.1.depths q.far-next.result (next q),
      ap (λ z. length (chain_at b z)) q.far-next.ensures,
      c.before.before.depth-d.ensures,
      s.requires.1.depths s.args.extends (low q.before),
      far-shorter s.requires.0 s.requires.1 s.args.extends (low q.before),
    )

sub-if2-2 : tie.Need-overflow_sub-e
sub-if2-2 c =
    let w = c.before.before.before in
    let q = w.before in
    let s = start q.before in
    let b = s.args.labels.now in
    omega (
      arith,
      c.before.depth-e.ensures,
      s.requires.1.depths q.far-next.result (next q),
      c.depth-f.ensures,
      s.requires.1.depths w.far-after.result (after w),
      ap (λ z. length (chain_at b z)) w.far-after.ensures,
      far-shorter s.requires.0 s.requires.1 q.far-next.result (next q),
    )

returns-2 : tie.Need-returns-then-d-e
returns-2 c =
    let k = c.before in
    let w = k.before.before.before in
    let q = w.before in
    let s = start q.before in
    rule-over s.args.labels.now s.args.extends _ _ _ _ _
    q.far-next.ensures w.far-after.ensures k.before.before.depth-d.ensures k.before.depth-e.ensures k.depth-f.ensures c.if-d-e.true
    ∙ sym (far-later s.args.labels.now s.args.label s.args.extends q.before.if-label-eq0.false)

returns-3 : tie.Need-returns
returns-3 c =
    let k = c.before in
    let w = k.before.before.before in
    let q = w.before in
    let s = start q.before in
    rule-one s.args.labels.now s.args.extends _ _ _ _ _
    q.far-next.ensures w.far-after.ensures k.before.before.depth-d.ensures k.before.depth-e.ensures k.depth-f.ensures c.if-d-e.false
    ∙ sym (far-later s.args.labels.now s.args.label s.args.extends q.before.if-label-eq0.false)

pub far_of_spec : {M : Type 1} → statement M
far_of_spec =
    tie.close
    (tie.spec
    (λ c. let s = c.before.before in sym (far-first s.args.labels.now s.args.label s.args.extends c.if-label-eq0.true))
    (λ c κs. omega (arith, low c, (start c).requires.0.room))
    (λ c. search rules)
    (λ c κs. omega (arith, next c, (start c.before).requires.0.room))
    (λ c κs. omega (arith, low c.before.before, (start c.before.before).requires.0.room))
    (λ c. search rules)
    (λ c κs. omega (arith, next c.before.before, (start c.before.before.before).requires.0.room))
    (λ c. search rules)
    (λ c κs. omega (arith, after c.before.before, (start c.before.before.before.before).requires.0.room))
    sub-if2
    sub-if2-2
    returns-2
    returns-3)
