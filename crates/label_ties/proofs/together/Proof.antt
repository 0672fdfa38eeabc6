-- Invariant: the chains of the labels reached have as many arcs, and with what was decided they compare as the chains asked for. Far ancestors that differ do so
-- too (`pair_far`); a step takes the last arc off both and lets those two decide before what came after them (`pair-back`). Where the labels meet the chains are
-- one, and what was decided stands.
use mathlib.Core.Path.{◌≡◌, refl, sym, ap, ◌∙◌}
use Prim.Native.Nat.{◌<◌}
use native.Mathlib.Omega.{arith}
use lib.ListN.{length}
use borrow.Author.Rules.{rules}
use Rattle.labels.specs.Chain.{chain_at}
use Rattle.label_ties.specs.Together.{together}
use Rattle.label_ties.proofs.TogetherLaws.{together-same}
use Rattle.label_ties.proofs.PairLaws.{pair-lower, pair-back, pair-far-lower, pair_far}
use Rattle.label_ties.proofs.together.Statement.{statement}
use Rattle.label_ties.proofs.together.Tie as tie

abbrev invariant-loop-x : tie.invariant-loop-x
invariant-loop-x b n u v after x₀ y₀ r₀ x y r =
    (x < n) × (y < n) × (length (chain_at b x) ≡ length (chain_at b y)) × (together (chain_at b x) (chain_at b y) r ≡ together (chain_at b u) (chain_at b v) after)

abbrev decreases-loop-x : tie.decreases-loop-x
decreases-loop-x b n u v after x₀ y₀ r₀ x y r = x

abbrev start : tie.At-loop-x invariant-loop-x decreases-loop-x → tie.Start invariant-loop-x decreases-loop-x
start a = a.before.before

loop-less : tie.Need-loop-x-smaller-then-x_far-y_far invariant-loop-x decreases-loop-x
loop-less c =
    let f = c.before.before in
    let a = f.before.before in
    let v = a.loop-x.invariant in
    omega (arith, f.far-x_far.ensures, pair-far-lower (start a).requires.0 a.loop-x.x a.loop-x.y v.0 v.1 v.2 f.before.loop-x-test.true)

loop-again : tie.Need-loop-x-preserved-then-x_far-y_far invariant-loop-x decreases-loop-x
loop-again c =
    let f = c.before.before in
    let a = f.before.before in
    let v = a.loop-x.invariant in
    let w =
    pair_far (start a).requires.0 a.loop-x.x a.loop-x.y v.0 v.1 v.2 f.before.loop-x-test.true _ _ a.loop-x.r
    f.far-x_far.ensures c.before.far-y_far.ensures c.if-x_far-y_far.true in
    (w.0, w.1, w.2, w.3 ∙ v.3)

abbrev stepped : tie.After-decide-r invariant-loop-x decreases-loop-x → tie.After-extends-x_extends invariant-loop-x decreases-loop-x
stepped c = c.before.before.before.before

abbrev turned : tie.After-extends-x_extends invariant-loop-x decreases-loop-x → tie.In-loop-x invariant-loop-x decreases-loop-x
turned l = l.before.before.before.before

loop-less-2 : tie.Need-loop-x-smaller invariant-loop-x decreases-loop-x
loop-less-2 c =
    let l = stepped c in
    let a = (turned l).before in
    let v = a.loop-x.invariant in
    omega (arith, l.extends-x_extends.ensures, pair-lower (start a).requires.0 a.loop-x.x a.loop-x.y v.0 v.1 v.2 (turned l).loop-x-test.true)

loop-again-2 : tie.Need-loop-x-preserved invariant-loop-x decreases-loop-x
loop-again-2 c =
    let l = stepped c in
    let a = (turned l).before in
    let v = a.loop-x.invariant in
    let back =
    pair-back (start a).requires.0 a.loop-x.x a.loop-x.y v.0 v.1 v.2 (turned l).loop-x-test.true _ _ _ _ a.loop-x.r c.decide-r.result
    l.extends-x_extends.ensures c.before.before.before.extends-y_extends.ensures c.before.before.last_arc.ensures c.before.last_arc-in-loop-x.ensures c.decide-r.ensures in
    (back.0, back.1, back.2, back.3 ∙ v.3)

returns : tie.Need-returns invariant-loop-x decreases-loop-x
returns c =
    let a = c.before in
    let b = (start a).args.labels.now in
    let x = chain_at b a.loop-x.x in
    sym (together-same x a.loop-x.r) ∙ ap (λ z. together x (chain_at b z) a.loop-x.r) c.loop-x-test.false ∙ a.loop-x.invariant.3

pub together_spec : {M : Type 1} → statement M
together_spec =
    tie.close
    (tie.spec
    invariant-loop-x
    decreases-loop-x
    (λ c. (c.before.requires.1, c.before.requires.2, c.before.requires.3, refl))
    (λ c κs. omega (arith, (start c.before).requires.0.down.room))
    (λ c. search rules)
    (λ c κs. omega (arith, (start c.before.before).requires.0.down.room))
    (λ c. search rules)
    loop-less
    loop-again
    (λ c κs. omega (arith, (start c.before.before.before.before).requires.0.down.room))
    (λ c. search rules)
    (λ c κs. omega (arith, (start (turned c).before).requires.0.down.room))
    (λ c. search rules)
    (λ c κs. omega (arith, (start (turned c.before).before).requires.0.down.room))
    (λ c κs. omega (arith, (start (turned c.before.before).before).requires.0.down.room))
    (λ c κs. search rules)
    loop-less-2
    loop-again-2
    returns)
