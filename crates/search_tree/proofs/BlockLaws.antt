-- The first of a block, read from one winner. A block whose second half has no number below n is halved, and loses none that is below n; what is left is one number, or
-- two halves whose winner stands in their middle.
use mathlib.Core.Path.{◌≡◌, sym, subst}
use mathlib.Core.Logic.{⊎_elim}
use Prim.Native.Nat.{ℕ, zero, suc, ◌+◌, ◌*◌, ◌/◌, ◌≤◌, ◌<◌}
use native.Mathlib.Omega.{arith}
use Rattle.lists.proofs.Cases.{order}
use Rattle.search_tree.specs.Tree.{side, First, Joins, Block, Narrowed}
use Rattle.search_tree.proofs.TreeLaws.{side-pos, side-mono, first_one, first_past}

pub block_half : {e s : ℕ} → Block e s → 1 < s → Block e (s / 2)
unfolding side
block_half {e} {s} b h = go b.level b.sized b.place
  where
    go : (l : ℕ) → s ≡ side l → e ≡ b.number * side l → Block e (s / 2)
    go zero p q = absurd (omega arith)
    go (suc l) p q = record { level = l; number = 2 * b.number; sized = omega arith; place = omega arith }

pub block_one : {e s : ℕ} → Block e s → s ≤ 1 → s ≡ 1
block_one b h = omega (arith, b.sized, side-pos b.level)

module _ (le : ℕ → ℕ → Type 0) (same : (a : ℕ) → le a a) (trans : (a b c : ℕ) → le a b → le b c → le a c) (winner : ℕ → ℕ) (n e size k : ℕ)
    (sized : size ≡ side k) (used : e < n) (right : (l i : ℕ) → (2 * i + 1) * side l < n → l < k → Joins le winner n l i) where
  widen : (s w : ℕ) → Narrowed n e size s → First le n e (e + s) w → First le n e (e + size) w
  widen s w d f =
      ⊎_elim (λ z. subst (λ y. First le n e (e + y) w) z f) (λ z. first_past le same trans n e (e + s) (e + size) w f z (omega (arith, d.inside))) d.all

  pub first_alone : (s : ℕ) → Narrowed n e size s → s ≡ 1 → First le n e (e + size) e
  first_alone s d z = widen s e d (subst (λ y. First le n e (e + y) e) (sym z) (first_one le same trans n e used))

  pub first-middle : (s : ℕ) → Narrowed n e size s → (s ≡ 1 → ⊥) → (e + s / 2 < n) × First le n e (e + size) (winner (e + s / 2))
  unfolding side
  first-middle s d ne = go d.block.level d.block.sized d.block.place
    where
      h : (1 < s) × (e + s / 2 < n)
      h = ⊎_elim (λ z. absurd (ne z)) (λ z. z) d.half

      go : (l : ℕ) → s ≡ side l → e ≡ d.block.number * side l → (e + s / 2 < n) × First le n e (e + size) (winner (e + s / 2))
      go zero p q = absurd (omega (arith, h.0))
      go (suc l) p q =
          let i = d.block.number in
          let m : (2 * i + 1) * side l ≡ e + s / 2 = omega arith in
          let lo : 2 * i * side l ≡ e = omega arith in
          let hi : (2 * i + 2) * side l ≡ e + s = omega arith in
          let low : l < k = ⊎_elim (λ z. absurd (omega (arith, side-mono k l z, side-pos l, d.inside))) (λ z. z) (order k l) in
          let f = right l i (omega (arith, m, h.1)) low in (
            h.1,
            widen s (winner (e + s / 2)) d
                (subst (λ y. First le n e (e + s) (winner y)) m
                (subst (λ y. First le n e y (winner ((2 * i + 1) * side l))) hi (subst (λ y. First le n y ((2 * i + 2) * side l) (winner ((2 * i + 1) * side l))) lo f))),
          )
