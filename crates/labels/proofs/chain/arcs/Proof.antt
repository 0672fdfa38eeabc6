-- The loop goes down the labels: the arcs counted, and those of the chain of label j, are as many as the chain of label i has. Label j extends a lower
-- one, so j falls, and its chain has one arc more than that of the label extended. At label 0 the chain is empty.
use mathlib.Core.Path.{◌≡◌, ap}
use Prim.Native.Nat.{◌+◌, ◌≤◌, ◌<◌}
use native.Mathlib.Omega.{arith}
use lib.ListN.{length}
use borrow.Author.Rules.{rules}
use Rattle.labels.specs.Chain.{chain_at}
use Rattle.labels.proofs.ChainLaws.{chain-none, chain-short, chain-one}
use Rattle.labels.proofs.chain.arcs.Statement.{statement}
use Rattle.labels.proofs.chain.arcs.Tie as tie

abbrev invariant-loop-j : tie.invariant-loop-j
invariant-loop-j b n i k₀ j₀ k j = (j ≤ i) × (k + length (chain_at b j) ≡ length (chain_at b i))

abbrev decreases-loop-j : tie.decreases-loop-j
decreases-loop-j b n i k₀ j₀ k j = j

abbrev start : tie.After-extends-j invariant-loop-j decreases-loop-j → tie.Start invariant-loop-j decreases-loop-j
start c = c.before.before.before.before

lower : (c : tie.After-extends-j invariant-loop-j decreases-loop-j) → c.extends-j.result < c.before.before.loop-j.j
lower c = omega (arith, c.extends-j.ensures, (start c).requires.0.lower c.before.before.loop-j.j (omega arith) c.before.loop-j-test.true)

loop-again : tie.Need-loop-j-preserved invariant-loop-j decreases-loop-j
loop-again c =
    let j = c.before.before.loop-j.j in
    omega (
      arith,
      lower c,
      chain-one (start c).requires.0 j (omega arith) c.before.loop-j-test.true,
      ap (λ x. length (chain_at (start c).args.labels.now x)) c.extends-j.ensures,
    )

returns : tie.Need-returns invariant-loop-j decreases-loop-j
returns c = omega (arith, ap length (chain-none c.before.before.before.args.labels.now c.before.loop-j.j c.loop-j-test.false))

pub arcs_spec : {M : Type 1} → statement M
arcs_spec =
    tie.close
    (tie.spec
    invariant-loop-j
    decreases-loop-j
    (λ c. search rules)
    (λ c κs. search rules)
    (λ c. search rules)
    (λ c. omega (arith, chain-short (start c).args.labels.now (start c).args.label))
    (λ c. lower c)
    loop-again
    returns)
