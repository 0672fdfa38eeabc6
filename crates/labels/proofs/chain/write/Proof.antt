-- The loop goes down the labels and writes each last arc before those already written: the chain of label j, and then what stands in s from k on, is the
-- chain of label i and then what filled s. Label j extends a lower one, so j falls. At label 0 nothing is left to write, and k is 0.
use mathlib.Core.Path.{◌≡◌, refl, ap, ◌∙◌}
use mathlib.Core.List.{◌++◌}
use Prim.Native.Nat.{◌≤◌, ◌<◌}
use native.Mathlib.Omega.{arith}
use lib.ListN.{length, drop, length-set}
use borrow.Author.Rules.{rules}
use Rattle.labels.specs.Field.{no_number}
use Rattle.labels.specs.Chain.{chain_at}
use Rattle.labels.proofs.ChainLaws.{chain-none, chain_more, chain-one, back_step, back_done}
use Rattle.labels.proofs.chain.write.Statement.{statement}
use Rattle.labels.proofs.chain.write.Tie as tie

abbrev invariant-loop-j : tie.invariant-loop-j
invariant-loop-j b n i s₀ k₀ j₀ s k j =
    (j ≤ i) × (k ≡ length (chain_at b j)) × (k ≤ length s₀) × (length s ≡ length s₀) × (chain_at b j ++ drop k s ≡ chain_at b i ++ drop (length (chain_at b i)) s₀)

abbrev decreases-loop-j : tie.decreases-loop-j
decreases-loop-j b n i s₀ k₀ j₀ s k j = j

abbrev filled : tie.At-loop-j invariant-loop-j decreases-loop-j → tie.After-fill invariant-loop-j decreases-loop-j
filled a = a.before.before.before.before

abbrev start : tie.At-loop-j invariant-loop-j decreases-loop-j → tie.Start invariant-loop-j decreases-loop-j
start a = (filled a).before.before.before.before

below : (a : tie.At-loop-j invariant-loop-j decreases-loop-j) → a.loop-j.j < (start a).args.n
below a = omega (arith, (start a).requires.1)

-- a turn has an arc to write
some : (c : tie.In-loop-j invariant-loop-j decreases-loop-j) → 1 ≤ c.before.loop-j.k
some c = omega (arith, chain-one (start c.before).requires.0 c.before.loop-j.j (below c.before) c.loop-j-test.true)

lower : (c : tie.After-extends-j invariant-loop-j decreases-loop-j) → c.extends-j.result < c.before.before.before.loop-j.j
lower c =
    let a = c.before.before.before in
    omega (arith, c.extends-j.ensures, (start a).requires.0.lower a.loop-j.j (below a) c.before.before.loop-j-test.true)

loop-holds : tie.Need-loop-j-init invariant-loop-j decreases-loop-j
loop-holds c =
    let f = c.before.before.before in
    (search rules, c.arcs-k.ensures, omega (arith, f.fill.auto.b, f.before.before.before.before.requires.2), refl, cc)

mul-slot : tie.Need-offset_bounds-slot-k invariant-loop-j decreases-loop-j
mul-slot c =
    let a = c.before.before in
    omega (arith, a.loop-j.invariant.2, (filled a).fill.auto.b, (start a).well_formed.1.1.1.0.1)

loop-again : tie.Need-loop-j-preserved invariant-loop-j decreases-loop-j
loop-again c =
    let a = c.before.before.before in
    let b = (start a).args.labels.now in
    let d = (start a).requires.0 in
    let r = c.extends-j.ensures in
    let t = c.before.before.loop-j-test.true in (
      omega (arith, lower c),
      omega (arith, chain-one d a.loop-j.j (below a) t, ap (λ x. length (chain_at b x)) r),
      omega arith,
      simp length-set a.loop-j.invariant.3,
      back_step (chain_at b c.extends-j.result) (chain_at b a.loop-j.j) c.before.last_arc.result a.loop-j.slot a.loop-j.k
          (cc (chain_more d a.loop-j.j (below a) t, r, c.before.last_arc.ensures)) a.loop-j.invariant.1 (omega arith)
          ∙ a.loop-j.invariant.4,
    )

returns : tie.Need-returns invariant-loop-j decreases-loop-j
returns c =
    let a = c.before in
    let s = start a in
    let n = chain-none s.args.labels.now a.loop-j.j c.loop-j-test.false in
    back_done (chain_at s.args.labels.now s.args.label) a.loop-j.slot (filled a).fill.new.b (length s.args.slot.now) no_number a.loop-j.k
    (filled a).fill.ensures (omega (arith, ap length n)) (rw n at a.loop-j.invariant.4)

pub write_spec : {M : Type 1} → statement M
write_spec =
    tie.close
    (tie.spec
    invariant-loop-j
    decreases-loop-j
    (λ c κs. search rules)
    (λ c κs. search rules)
    loop-holds
    (λ c. omega (arith, some c))
    (λ c κs. omega (arith, (start c.before).requires.0.room))
    mul-slot
    (λ c. omega (arith, some c.before))
    (λ c κs. omega (arith, (start c.before.before).requires.0.room))
    (λ c. search rules)
    (λ c. lower c)
    loop-again
    (λ c. search rules)
    returns)
