-- The list behind label i is gone down, `Sweeping`: label p was kept last, and h is the head of what is left. Links lead down, so h falls.
use mathlib.Core.Path.{◌≡◌, refl, sym, subst, ◌∙◌}
use Prim.Native.Nat.{◌-◌, ◌<◌}
use native.Mathlib.Omega.{arith}
use lib.ListN.{length}
use borrow.Author.Rules.{rules}
use Rattle.search_lists.proofs.SweepLaws.{Sweeping, sweep-start, head-below, sweep-keep, sweep-drop, sweep-done}
use Rattle.search_lists.proofs.list.sweep.Statement.{statement}
use Rattle.search_lists.proofs.list.sweep.Tie as tie

abbrev invariant-loop-h : tie.invariant-loop-h
invariant-loop-h labels₀ n r i p₀ h₀ labels p h = (length labels ≡ length labels₀) × (Sweeping labels₀ n r i labels p h)

abbrev decreases-loop-h : tie.decreases-loop-h
decreases-loop-h labels₀ n r i p₀ h₀ labels p h = h

abbrev start : tie.At-loop-h invariant-loop-h decreases-loop-h → tie.Start invariant-loop-h decreases-loop-h
start a = a.before.before.before

-- the head is not above label p, and the label there is below n
below : (c : tie.In-loop-h invariant-loop-h decreases-loop-h) → c.loop-h.h - 1 < (start c.before).args.n
below c =
    let a = c.before in
    let s = start a in
    omega (arith, head-below s.requires.0 s.args.r s.args.i s.requires.2 s.requires.1 a.loop-h.invariant.1, a.loop-h.invariant.1.down, s.requires.2)

link-requires : tie.Need-link-h-requires invariant-loop-h decreases-loop-h
link-requires c κs = omega (arith, c.requires.0.room, c.requires.2)

loop-holds : tie.Need-loop-h-init invariant-loop-h decreases-loop-h
loop-holds c =
    let s = c in
    let b = s.args.labels.now in
    (refl, subst (Sweeping b s.args.n s.args.r s.args.i b s.args.i) (sym c.link-h.ensures) (sweep-start s.requires.0 s.args.r s.args.i s.requires.2 s.requires.1))

link-requires-2 : tie.Need-link-next-requires invariant-loop-h decreases-loop-h
link-requires-2 c κs = omega (arith, below c, c.loop-h.invariant.1.linked.room)

covers-requires : tie.Need-covers-requires invariant-loop-h decreases-loop-h
covers-requires c κs =
    let i = c.before in
    let s = start i.before in
    let room = i.loop-h.invariant.1.linked.room in
    (omega (arith, room, s.requires.2, below i), omega (arith, room, s.requires.2, below i), s.requires.1)

put-link-requires : tie.Need-put_link-requires invariant-loop-h decreases-loop-h
put-link-requires c κs =
    let a = c.before.before.before.before.before in
    omega (arith, a.loop-h.invariant.1.linked.room, a.loop-h.invariant.1.down, (start a).requires.2)

lower : (c : tie.After-link-next invariant-loop-h decreases-loop-h) → c.link-next.result < c.loop-h.h
lower c =
    let i = c.before in
    omega (arith, c.link-next.ensures, i.loop-h.invariant.1.linked.links (i.loop-h.h - 1) (below i), i.loop-h-test.true)

dropped : (c : tie.After-slice_known-then-covers-1 invariant-loop-h decreases-loop-h)
    → let a = c.before.before.before.before.before.before.before.before in
    Sweeping (start a).args.labels.now (start a).args.n (start a).args.r (start a).args.i c.put_link.new.labels a.loop-h.p c.link-next.result
dropped c =
    let t = c in
    let q = t in
    let l = q in
    let i = l in
    let a = i.before.before.before.before.before.before.before.before in
    let s = start a in
    subst (λ z. Sweeping s.args.labels.now s.args.n s.args.r s.args.i z a.loop-h.p l.link-next.result) (sym c.put_link.ensures)
    (sweep-drop s.requires.0 s.args.r s.args.i s.requires.2 s.requires.1 a.loop-h.invariant.1 (a.loop-h.h - 1) i.loop-h-test.true refl l.link-next.result l.link-next.ensures (omega arith)
    (sym q.covers.ensures ∙ t.if-covers.true))

loop-less : tie.Need-loop-h-smaller-then-covers invariant-loop-h decreases-loop-h
loop-less c = lower c.before.before.before.before.before.before

loop-again : tie.Need-loop-h-preserved-then-covers invariant-loop-h decreases-loop-h
loop-again c = ((dropped c).only.long, dropped c)

loop-less-2 : tie.Need-loop-h-smaller invariant-loop-h decreases-loop-h
loop-less-2 c = lower c.before.before

loop-again-2 : tie.Need-loop-h-preserved invariant-loop-h decreases-loop-h
loop-again-2 c =
    let q = c in
    let l = q in
    let i = l in
    let a = i.before.before.before.before in
    let s = start a in (
      a.loop-h.invariant.0,
      subst (Sweeping s.args.labels.now s.args.n s.args.r s.args.i a.loop-h.labels (a.loop-h.h - 1)) (sym l.link-next.ensures)
          (sweep-keep s.requires.0 s.args.r s.args.i s.requires.2 s.requires.1 a.loop-h.invariant.1 (a.loop-h.h - 1) i.loop-h-test.true refl (sym q.covers.ensures ∙ c.if-covers.false)),
    )

returns : tie.Need-returns invariant-loop-h decreases-loop-h
returns c =
    let a = c.before in
    let s = start a in
    sweep-done s.requires.0 s.args.r s.args.i s.requires.2 s.requires.1 a.loop-h.invariant.1 c.loop-h-test.false

pub sweep_spec : {M : Type 1} → statement M
sweep_spec =
    tie.close
    (tie.spec
    invariant-loop-h
    decreases-loop-h
    link-requires
    (λ c. search rules)
    loop-holds
    (λ c. search rules)
    link-requires-2
    covers-requires
    put-link-requires
    (λ c. search rules)
    loop-less
    loop-again
    (λ c. search rules)
    loop-less-2
    loop-again-2
    (λ c. search rules)
    returns)
