-- Label 0 has no arcs; another has one more than the label that it extends, and that has no more than its own number.
use mathlib.Core.Path.{sym, ap, ◌∙◌}
use Prim.Native.Nat.{◌+◌, ◌<◌}
use native.Mathlib.Omega.{arith}
use Rattle.labels.proofs.ChainLaws.{chain-short}
use Rattle.labels.proofs.FarLaws.{depth-first, depth-later}
use Rattle.labels.proofs.field.depth_of.Statement.{statement}
use Rattle.labels.proofs.field.depth_of.Tie as tie

abbrev start : tie.Else-label-eq0 → tie.Start
start c = c.before.before

low : (c : tie.Else-label-eq0) → (start c).args.extends < (start c).args.label
low c = (start c).requires.2 c.if-label-eq0.false

add-result : tie.Need-overflow_add-result
add-result c =
    let s = start c.before in
    let k = low c.before in
    omega (arith, k, s.requires.3, c.depth.ensures, s.requires.1.depths s.args.extends k, chain-short s.args.labels.now s.args.extends)

returns-2 : tie.Need-returns
returns-2 c =
    let s = start c.before in
    ap (λ k. k + 1) c.depth.ensures ∙ sym (depth-later s.args.labels.now s.args.label s.args.extends c.before.if-label-eq0.false)

pub depth_of_spec : {M : Type 1} → statement M
depth_of_spec =
    tie.close
    (tie.spec
    (λ c. let s = c.before.before in sym (depth-first s.args.labels.now s.args.label s.args.extends c.if-label-eq0.true))
    (λ c κs. omega (arith, low c, (start c).requires.0.room))
    add-result
    returns-2)
