-- Both candidates are cut after as many arcs as the shorter chain has. Behind the cut the arcs after it decide, and where those are equal the shorter chain
-- comes first; that is handed to the comparison of the two beginnings (`cut-together`).
use Rattle.std.proofs.Common.{◌≡◌, ℕ, ◌⊎◌, inl, inr, min, length, ◌∙◌, arith}
use mathlib.Core.Logic.{⊎_elim}
use Rattle.lists.proofs.Cases.{order}
use Rattle.labels.specs.Chain.{chain_at}
use Rattle.label_ties.proofs.CutLaws.{cut-together}
use Rattle.label_ties.proofs.numbers_first.Goals as goal

-- the cut is at the end of one of the two
shorter : (d k m x y : ℕ) → d ≡ min k m → k ≡ x → m ≡ y → (d ≡ x) ⊎ (d ≡ y)
shorter d k m x y e f g = ⊎_elim (λ h. inl (omega arith)) (λ h. inr (omega arith)) (order k m)

pub returns : goal.returns
returns c =
    let left = chain_at c.args.labels.now c.args.i in
    let right = chain_at c.args.labels.now c.args.j in
    let many : c.depth-k.result ≡ length left = c.depth-k.ensures ∙ c.requires.0.jumping.depths c.args.i c.requires.1 in
    let others : c.depth-m.result ≡ length right = c.depth-m.ensures ∙ c.requires.0.jumping.depths c.args.j c.requires.2 in
    c.together.ensures
    ∙ cut-together left right c.min-d.result _ _ (omega arith) (omega arith) c.climb-x.ensures.1 c.climb-y.ensures.1
    c.args.a c.args.c _ _ _ _ _ (shorter _ _ _ _ _ c.min-d.ensures many others) many others c.climb-x.ensures.2 c.climb-y.ensures.2 c.decide.ensures
