-- The chain of a label, where each label extends a lower one. The number of a label is steps enough, by induction on the steps, so its chain is that of the
-- label extended and one arc more. For writing a chain from its end: what is yet to be written, and then what stands, stays one list.
use mathlib.Core.Path.{◌≡◌, refl, sym, ◌∙◌}
use mathlib.Core.List.{List, [], ◌∷◌, ◌++◌}
use Prim.Native.Nat.{ℕ, zero, suc, ◌+◌, ◌-◌, ◌≤◌, ◌<◌}
use native.Mathlib.Nat.{sub-zero, zero-sub, suc-sub-suc}
use native.Mathlib.Numerals.{add-one}
use native.Mathlib.Omega.{arith}
use lib.ListN.{length, set, drop, replicate, length-append, length-set}
use lib.Seq.{drop-cons, drop-set-lt, get_or-set_same, append_snoc}
use Rattle.labels.specs.Field.{last_arc_at, extends_at}
use Rattle.labels.specs.Chain.{steps, chain_at}
use Rattle.labels.specs.Standing.{Down}

pub chain-empty : (l : List ℕ) → chain_at l 0 ≡ []
unfolding chain_at steps
chain-empty l = refl

pub chain-none : (l : List ℕ) (i : ℕ) → i ≡ 0 → chain_at l i ≡ []
chain-none l i e = rw e (chain-empty l)

steps-short : (f : ℕ) (l : List ℕ) (i : ℕ) → length (steps f l i) ≤ f
unfolding steps
steps-short zero l i = omega arith
steps-short (suc f) l zero = omega arith
steps-short (suc f) l (suc i) = simp length-append (omega (arith, steps-short f l (extends_at l (suc i))))

-- a chain has no more arcs than its label's number
pub chain-short : (l : List ℕ) (i : ℕ) → length (chain_at l i) ≤ i
unfolding chain_at
chain-short l i = steps-short i l i

module _ {l : List ℕ} {n : ℕ} (d : Down l n) where
  enough : (f g i : ℕ) → i < n → i ≤ f → i ≤ g → steps f l i ≡ steps g l i
  unfolding steps
  enough zero zero i h a b = refl
  enough zero (suc g) zero h a b = refl
  enough zero (suc g) (suc i) h a b = absurd (omega arith)
  enough (suc f) zero zero h a b = refl
  enough (suc f) zero (suc i) h a b = absurd (omega arith)
  enough (suc f) (suc g) zero h a b = refl
  enough (suc f) (suc g) (suc i) h a b =
      let w : extends_at l (suc i) < suc i = d.lower (suc i) h (λ e. omega arith) in
      rw (enough f g (extends_at l (suc i)) (omega arith) (omega arith) (omega arith))

  pub chain_more : (i : ℕ) → i < n → (i ≡ 0 → ⊥) → chain_at l i ≡ chain_at l (extends_at l i) ++ (last_arc_at l i ∷ [])
  unfolding chain_at steps
  chain_more zero h ne = absurd (ne refl)
  chain_more (suc i) h ne =
      let w : extends_at l (suc i) < suc i = d.lower (suc i) h ne in
      rw (enough i (extends_at l (suc i)) (extends_at l (suc i)) (omega arith) (omega arith) (omega arith))

  -- the same in lengths
  pub chain-one : (i : ℕ) → i < n → (i ≡ 0 → ⊥) → length (chain_at l i) ≡ length (chain_at l (extends_at l i)) + 1
  chain-one i h ne = rw (chain_more i h ne) (simp length-append)

-- ---- written from its end

-- the last arc a of the chain q stands before what was written
pub back_step : (p q : List ℕ) (a : ℕ) (s : List ℕ) (k : ℕ) → q ≡ p ++ (a ∷ []) → k ≡ length q → k ≤ length s → p ++ drop (k - 1) (set s (k - 1) a) ≡ q ++ drop k s
back_step p q a s k e n h =
    let m : k ≡ suc (length p) = n ∙ rw e (simp length-append (add-one (length p))) in
    let j : k - 1 ≡ length p = omega arith in
    let i : length p < length (set s (length p) a) = simp length-set (omega arith) in
    rw (j, m, e, drop-cons (set s (length p) a) (length p) 0 i, get_or-set_same s (length p) a 0 (omega arith), drop-set-lt (suc (length p)) s (length p) a (omega arith))
    (sym (append_snoc p a (drop (suc (length p)) s)))

drop-replicate : (n w v : ℕ) → drop n (replicate w v) ≡ replicate (w - n) v
drop-replicate zero w v = rw sub-zero
drop-replicate (suc n) zero v = rw zero-sub
drop-replicate (suc n) (suc w) v = rw suc-sub-suc (drop-replicate n w v)

-- nothing is yet to be written, and behind the chain q stands what filled the list at first
pub back_done : (q s s₀ : List ℕ) (w v k : ℕ) → s₀ ≡ replicate w v → k ≡ 0 → [] ++ drop k s ≡ q ++ drop (length q) s₀ → s ≡ q ++ replicate (w - length q) v
back_done q s s₀ w v k e z h = (rw z at h) ∙ rw (e, drop-replicate)
