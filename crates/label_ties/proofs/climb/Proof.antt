-- Invariant: the label reached stands for the first e arcs of the chain, and at e = d the arc last passed is the one after those. A far ancestor of more than d
-- arcs leaves that arc yet to be passed; a step takes one arc off, and passes it. The loop ends at e = d.
use mathlib.Core.Path.{◌≡◌, sym, ap, ◌∙◌}
use mathlib.Core.List.{List, [], ◌∷◌, ◌++◌}
use Prim.Native.Nat.{ℕ, ◌≤◌, ◌<◌}
use native.Mathlib.Omega.{arith}
use lib.ListN.{length, take, get_or}
use lib.Seq.{take-length, get_or-append_seam}
use borrow.Author.Rules.{rules}
use Rattle.labels.specs.Chain.{chain_at}
use Rattle.labels.proofs.ChainLaws.{chain-one}
use Rattle.labels.proofs.FarLaws.{far-lower}
use Rattle.label_ties.proofs.ClimbLaws.{climb-nonzero, climb-arc, climb-chain, climb-far}
use Rattle.label_ties.proofs.climb.Statement.{statement}
use Rattle.label_ties.proofs.climb.Tie as tie

abbrev invariant-loop-e : tie.invariant-loop-e
invariant-loop-e b n label arc d at₀ next₀ e₀ at next e =
    (at < n) × (d ≤ e) × (e ≤ length (chain_at b label)) × (e ≡ length (chain_at b at)) × (chain_at b at ≡ take e (chain_at b label))
    × (e ≡ d → next ≡ get_or (chain_at b label ++ (arc ∷ [])) e 0)

abbrev decreases-loop-e : tie.decreases-loop-e
decreases-loop-e b n label arc d at₀ next₀ e₀ at next e = at

abbrev start : tie.At-loop-e invariant-loop-e decreases-loop-e → tie.Start invariant-loop-e decreases-loop-e
start a = a.before.before.before

abbrev chain : tie.At-loop-e invariant-loop-e decreases-loop-e → List ℕ
chain a = chain_at (start a).args.labels.now (start a).args.label

nonzero : (l : tie.In-loop-e invariant-loop-e decreases-loop-e) → l.before.loop-e.at ≡ 0 → ⊥
nonzero l =
    let a = l.before in
    climb-nonzero (start a).args.labels.now a.loop-e.at a.loop-e.e a.loop-e.invariant.3 (omega (arith, l.loop-e-test.true))

loop-holds : tie.Need-loop-e-init invariant-loop-e decreases-loop-e
loop-holds c =
    let s = c.before.before in
    let x = chain_at s.args.labels.now s.args.label in
    let k : c.depth-e.result ≡ length x = c.depth-e.ensures ∙ s.requires.1.depths s.args.label s.requires.2 in (
      s.requires.2,
      omega (arith, k, s.requires.3),
      omega (arith, k),
      k,
      sym (ap (λ z. take z x) k ∙ take-length x),
      λ w. sym (ap (λ z. get_or (x ++ (s.args.arc ∷ [])) z 0) k ∙ get_or-append_seam x s.args.arc [] 0),
    )

-- ---- to the far ancestor

far-below : (c : tie.After-far-far invariant-loop-e decreases-loop-e) → c.far-far.result < c.before.before.loop-e.at
far-below c =
    let a = c.before.before in
    omega (arith, c.far-far.ensures, far-lower (start a).requires.0 (start a).requires.1 a.loop-e.at a.loop-e.invariant.0 (nonzero c.before))

loop-again : tie.Need-loop-e-preserved-then-f-d invariant-loop-e decreases-loop-e
loop-again c =
    let q = c.before in
    let r = q.before in
    let a = r.before.before in
    let s = start a in
    let v = a.loop-e.invariant in
    let u : r.far-far.result < s.args.n = omega (arith, far-below r, v.0) in
    let k = q.depth-f.ensures ∙ s.requires.1.depths r.far-far.result u in
    let w = climb-far s.requires.0 s.requires.1 (chain a) a.loop-e.at a.loop-e.e _ _ v.0 v.3 v.2 v.4 r.far-far.ensures k in
    (u, omega (arith, c.if-f-d.true), w.0, k, w.1, λ z. absurd (omega (arith, c.if-f-d.true, z)))

-- ---- to the label extended

abbrev stepped : tie.After-extends-at invariant-loop-e decreases-loop-e → tie.In-loop-e invariant-loop-e decreases-loop-e
stepped c = c.before.before.before.before.before

extends-below : (c : tie.After-extends-at invariant-loop-e decreases-loop-e) → c.extends-at.result < (stepped c).before.loop-e.at
extends-below c =
    let a = (stepped c).before in
    omega (arith, c.extends-at.ensures, (start a).requires.0.lower a.loop-e.at a.loop-e.invariant.0 (nonzero (stepped c)))

loop-again-2 : tie.Need-loop-e-preserved invariant-loop-e decreases-loop-e
loop-again-2 c =
    let l = stepped c in
    let a = l.before in
    let s = start a in
    let b = s.args.labels.now in
    let down = s.requires.0 in
    let at = a.loop-e.at in
    let e = a.loop-e.e in
    let v = a.loop-e.invariant in
    let t = l.loop-e-test.true in
    let nz = nonzero l in
    let r = c.extends-at.ensures in (
      omega (arith, extends-below c, v.0),
      omega (arith, t),
      omega (arith, v.2),
      omega (arith, chain-one down at v.0 nz, ap (λ z. length (chain_at b z)) r, v.3),
      ap (chain_at b) r ∙ climb-chain down (chain a) at e v.0 nz v.3 v.2 v.4,
      λ z. c.before.last_arc-next.ensures ∙ climb-arc down (chain a) at e v.0 nz v.3 v.2 v.4 s.args.arc,
    )

returns : tie.Need-returns invariant-loop-e decreases-loop-e
returns c =
    let a = c.before in
    let v = a.loop-e.invariant in
    let e : a.loop-e.e ≡ (start a).args.d = omega (arith, c.loop-e-test.false, v.1) in
    (v.0, v.4 ∙ ap (λ z. take z (chain a)) e, v.5 e ∙ ap (λ z. get_or (chain a ++ ((start a).args.arc ∷ [])) z 0) e)

pub climb_spec : {M : Type 1} → statement M
climb_spec =
    tie.close
    (tie.spec
    invariant-loop-e
    decreases-loop-e
    (λ c κs. search rules)
    loop-holds
    (λ c κs. omega (arith, (start c.before).requires.0.room))
    (λ c. search rules)
    (λ c κs. omega (arith, far-below c, (start c.before.before).requires.0.room))
    (λ c. far-below c.before.before)
    loop-again
    (λ c κs. omega (arith, (start c.before.before.before.before).requires.0.room))
    (λ c κs. omega (arith, (start c.before.before.before.before.before).requires.0.room))
    (λ c. search rules)
    (λ c. search rules)
    extends-below
    loop-again-2
    returns)
