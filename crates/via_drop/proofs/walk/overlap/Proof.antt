-- The way is gone twice: what the first time gives is what the second time stores.
use native.Mathlib.Omega.{arith}
use Rattle.via_drop.proofs.walk.overlap.Statement.{statement}
use Rattle.via_drop.proofs.walk.overlap.Tie as tie

abbrev start : tie.After-sum-x → tie.Start
start c = c.before.before.before.before.before

store-requires : tie.Need-store-requires
store-requires c κs =
    let k = c.before in
    let s = start k in
    (s.requires.0, s.requires.1, s.requires.2, k.sum-x.ensures)

returns : tie.Need-returns
returns c =
    let p = c in
    (p.store.ensures.0, p.store.ensures.1, p.sum-x.ensures)

pub overlap_spec : {M : Type 1} → statement M
overlap_spec =
    tie.close
    (tie.spec
    (λ c κs. c.requires)
    store-requires
    (λ c. omega (arith, c.store.ensures.0.long))
    returns)
