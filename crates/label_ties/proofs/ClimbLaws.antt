-- The way back along one chain x, with arc a behind it: a label whose chain is the first e arcs of x extends one whose chain is the first e - 1, and its last
-- arc is the one after those; and the chain of its far ancestor, too, is a beginning of x.
use mathlib.Core.Path.{◌≡◌, sym, ap, ◌∙◌}
use mathlib.Core.List.{List, [], ◌∷◌, ◌++◌}
use Prim.Native.Nat.{ℕ, ◌+◌, ◌-◌, ◌≤◌, ◌<◌}
use native.Mathlib.Omega.{arith}
use lib.ListN.{length, get_or, take, length-append, get_or-append}
use lib.Seq.{get_or-append_seam, take-append_seam, take-take, get_or-take, length-take-le}
use Rattle.labels.specs.Field.{last_arc_at, extends_at, far_at}
use Rattle.labels.specs.Chain.{chain_at}
use Rattle.labels.specs.Standing.{Down, Jumping}
use Rattle.labels.proofs.ChainLaws.{chain_more, chain-one, chain-none}
use Rattle.labels.proofs.FarLaws.{far-begins, far-shorter}

-- what begins a beginning
front-take : (p r x : List ℕ) (e : ℕ) → p ++ r ≡ take e x → e ≤ length x → p ≡ take (length p) x
front-take p r x e h k =
    let n : length p + length r ≡ e = sym (length-append p r) ∙ ap length h ∙ length-take-le e x k in
    sym (take-append_seam p r) ∙ ap (take (length p)) h ∙ take-take (length p) e x (omega arith)

-- a chain that has arcs is not that of label 0
pub climb-nonzero : (b : List ℕ) (i e : ℕ) → e ≡ length (chain_at b i) → 0 < e → (i ≡ 0 → ⊥)
climb-nonzero b i e k h z = omega (arith, ap length (chain-none b i z))

module _ {b : List ℕ} {n : ℕ} (d : Down b n) (x : List ℕ) (i e : ℕ) (h : i < n) (ne : i ≡ 0 → ⊥) (k : e ≡ length (chain_at b i)) (m : e ≤ length x)
    (f : chain_at b i ≡ take e x) where
  pub climb-arc : (a : ℕ) → last_arc_at b i ≡ get_or (x ++ (a ∷ [])) (e - 1) 0
  climb-arc a =
      let c = chain_at b (extends_at b i) in
      let one = chain-one d i h ne in
      let j : e - 1 ≡ length c = omega arith in
      sym (get_or-append_seam c (last_arc_at b i) [] 0) ∙ ap (λ z. get_or z (length c) 0) (sym (chain_more d i h ne) ∙ f) ∙ get_or-take e x (length c) 0 (omega arith)
      ∙ sym (get_or-append x (a ∷ []) 0 (length c) (omega arith)) ∙ ap (λ z. get_or (x ++ (a ∷ [])) z 0) (sym j)

  pub climb-chain : chain_at b (extends_at b i) ≡ take (e - 1) x
  climb-chain =
      let c = chain_at b (extends_at b i) in
      let one = chain-one d i h ne in
      let j : length c ≡ e - 1 = omega arith in
      front-take c (last_arc_at b i ∷ []) x e (sym (chain_more d i h ne) ∙ f) m ∙ ap (λ z. take z x) j

-- e and f are the numbers of arcs of label i and of its far ancestor u
pub climb-far : {b : List ℕ} {n : ℕ} (d : Down b n) → Jumping b n → (x : List ℕ) (i e u f : ℕ) → i < n → e ≡ length (chain_at b i) → e ≤ length x → chain_at b i ≡ take e x
    → u ≡ far_at b i → f ≡ length (chain_at b u) → (f ≤ length x) × (chain_at b u ≡ take f x)
climb-far {b} d g x i e u f h k m c eu ef =
    let w = far-begins d g i h in
    let j : length (chain_at b (far_at b i)) ≡ f = ap (λ z. length (chain_at b z)) (sym eu) ∙ sym ef in
    (omega (arith, j, far-shorter d g i h), ap (chain_at b) eu ∙ front-take (chain_at b (far_at b i)) w.rest x e (sym w.whole ∙ c) m ∙ ap (λ z. take z x) j)
