-- A step back of two labels u and v whose chains have as many arcs. If they are not one label neither is label 0, whose chain is empty: so both extend a lower
-- one, those two chains again have as many arcs, and what the arcs stepped over decide is what these leave it to where they are equal. Or both go to their far
-- ancestors: if these are not one label their chains differ, and nothing behind those counts.
use mathlib.Core.Path.{◌≡◌, sym, ap, ap₂, ◌∙◌}
use mathlib.Core.Bool.{Bool}
use mathlib.Core.List.{List, ◌++◌}
use mathlib.Core.Logic.{◌≢◌}
use Prim.Native.Nat.{ℕ, ◌<◌}
use native.Mathlib.Omega.{arith}
use lib.ListN.{length}
use Rattle.lists.specs.Tests.{lex}
use Rattle.labels.specs.Field.{last_arc_at, extends_at, far_at}
use Rattle.labels.specs.Chain.{chain_at}
use Rattle.labels.specs.Standing.{Comparable}
use Rattle.labels.proofs.ChainLaws.{chain_more, chain-one, chain-none}
use Rattle.labels.proofs.FarLaws.{far-le, far-lower, far-begins, far-alike}
use Rattle.label_ties.specs.Together.{together}
use Rattle.label_ties.proofs.TogetherLaws.{together-last, together-front}

module _ {b : List ℕ} {n : ℕ} (k : Comparable b n) (u v : ℕ) (hu : u < n) (hv : v < n) (e : length (chain_at b u) ≡ length (chain_at b v)) (ne : u ≢ v) where
  left-some : u ≡ 0 → ⊥
  left-some z = omega (arith, ap length (chain-none b u z), chain-one k.down v hv (λ w. ne (omega arith)))

  right-some : v ≡ 0 → ⊥
  right-some z = omega (arith, ap length (chain-none b v z), chain-one k.down u hu (λ w. ne (omega arith)))

  pair-lengths : length (chain_at b (extends_at b u)) ≡ length (chain_at b (extends_at b v))
  pair-lengths = omega (arith, chain-one k.down u hu left-some, chain-one k.down v hv right-some)

  pair_step : (r : Bool)
      → together (chain_at b u) (chain_at b v) r ≡ together (chain_at b (extends_at b u)) (chain_at b (extends_at b v)) (lex (last_arc_at b u) (last_arc_at b v) r)
  pair_step r =
      ap₂ (λ x y. together x y r) (chain_more k.down u hu left-some) (chain_more k.down v hv right-some)
      ∙ together-last (chain_at b (extends_at b u)) (chain_at b (extends_at b v)) (last_arc_at b u) (last_arc_at b v) r pair-lengths

  pub pair-lower : extends_at b u < u
  pair-lower = k.down.lower u hu left-some

  pub pair-back : (x y p q : ℕ) (r s : Bool) → x ≡ extends_at b u → y ≡ extends_at b v → p ≡ last_arc_at b u → q ≡ last_arc_at b v → s ≡ lex p q r
      → (x < n) × (y < n) × (length (chain_at b x) ≡ length (chain_at b y)) × (together (chain_at b x) (chain_at b y) s ≡ together (chain_at b u) (chain_at b v) r)
  pair-back x y p q r s ex ey ep eq es = (
    omega (arith, pair-lower),
    omega (arith, k.down.lower v hv right-some),
    rw (ex, ey) pair-lengths,
    rw (es, ep, eq, ex, ey) (sym (pair_step r)),
  )

  pub pair-far-lower : far_at b u < u
  pair-far-lower = far-lower k.down k.jumping u hu left-some

  pub pair_far : (x y : ℕ) (r : Bool) → x ≡ far_at b u → y ≡ far_at b v → x ≢ y
      → (x < n) × (y < n) × (length (chain_at b x) ≡ length (chain_at b y)) × (together (chain_at b x) (chain_at b y) r ≡ together (chain_at b u) (chain_at b v) r)
  pair_far x y r ex ey apart =
      let p = far-begins k.down k.jumping u hu in
      let q = far-begins k.down k.jumping v hv in
      let hx : x < n = omega (arith, far-le k.down k.jumping u hu) in
      let hy : y < n = omega (arith, far-le k.down k.jumping v hv) in
      let many : length (chain_at b x) ≡ length (chain_at b y) = rw (ex, ey) (far-alike k.down k.jumping u v hu hv e) in (
        hx,
        hy,
        many,
        sym (ap₂ (λ w z. together w z r) (p.whole ∙ ap (λ z. chain_at b z ++ p.rest) (sym ex)) (q.whole ∙ ap (λ z. chain_at b z ++ q.rest) (sym ey))
            ∙ together-front (chain_at b x) (chain_at b y) p.rest q.rest r many (λ z. apart (k.once x y hx hy z))),
      )
