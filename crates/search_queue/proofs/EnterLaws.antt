-- A label that came in, over bytes: the laws of the tree, where a winner is stored in a label. The store changes no candidate.
use mathlib.Core.Path.{◌≡◌, subst, ap, ◌∙◌}
use mathlib.Core.Logic.{◌≢◌, inl, inr, ⊎_elim}
use mathlib.Core.List.{List}
use Prim.Native.Nat.{ℕ, zero, suc, ◌+◌, ◌-◌, ◌*◌, ◌/◌, ◌%◌, ◌≤◌, ◌<◌}
use native.Mathlib.Nat.{mul-le-mul_right}
use native.Mathlib.Omega.{arith}
use lib.ListN.{length}
use Rattle.net.specs.Limits.{most_labels}
use Rattle.labels.specs.Field.{label_bytes}
use Rattle.search_tree.specs.Tree.{side, First, Tree, Climbs, Enters}
use Rattle.search_tree.proofs.TreeLaws.{side-pos, climb-done, but_last}
use Rattle.search_tree.proofs.EnterLaws.{enter-near, enter-own, enter-past, pair, enter-wins, enter-stays, enter-stop}
use Rattle.search_queue.specs.Working.{winner_at, put_winner}
use Rattle.search_queue.specs.Only.{Only}
use Rattle.search_queue.specs.Order.{NotAfter, Chosen}
use Rattle.search_queue.proofs.OrderLaws.{not-after-same, not-after-trans}
use Rattle.search_queue.proofs.WorkingLaws.{only-winner, winner-same, winner-other, not-after-only}
use Rattle.search_queue.proofs.ClimbLaws.{update-start, odd-before}

-- the way begins as every way up does
pub enter-start : (l : List ℕ) (n : ℕ) → Tree (NotAfter l) (winner_at l) n → Climbs (NotAfter l) (winner_at l) (n + 1) n 1 n n
enter-start l n t =
    update-start l (n + 1) n (omega arith) (but_last (NotAfter l) (winner_at l) n t)

pub half-most : {n j half : ℕ} → n ≡ j * half → 0 < n → (0 < j) × (half ≤ n)
half-most {j = zero} e h = absurd (omega arith)
half-most {j = suc j} {half} e h = (omega arith, omega (arith, mul-le-mul_right {m = 1} {n = suc j} half (omega arith)))

pub enters-only : {k : ℕ} {l m : List ℕ} → Only 28 2 k l m → {winner : ℕ → ℕ} {n half j u : ℕ} → Enters (NotAfter l) winner n half j u → Enters (NotAfter m) winner n half j u
enters-only {l = l} {m} o c = record { level = c.level; sized = c.sized; enter = enter-near (NotAfter l) (NotAfter m) (not-after-only o) c.enter }

pub enters-same : {le : ℕ → ℕ → Type 0} {winner : ℕ → ℕ} {n half j u v : ℕ} → u ≡ v → Enters le winner n half j u → Enters le winner n half j v
enters-same {le} {winner} {n} {half} {j} e c = subst (λ z. Enters le winner n half j z) e c

double : (half k : ℕ) → half ≡ side k → half * 2 ≡ side (suc k)
unfolding side
double half k e = omega arith

module _ (l : List ℕ) {n half j u : ℕ} (c : Enters (NotAfter l) (winner_at l) n half j u) where
  abbrev k : ℕ
  k = c.level

  at : j * half ≡ j * side k
  at = ap (λ z. j * z) c.sized

  odd : j % 2 ≢ 0 → j ≡ 2 * (j / 2) + 1
  odd e = omega arith

  pub enters-low : j * half ≤ n
  enters-low = omega (arith, at, c.enter.climb.low)

  pub enters-pos : 0 < half
  enters-pos = rw c.sized (side-pos k)

  pub enters-past : j % 2 ≡ 0 → Enters (NotAfter l) (winner_at l) n (half * 2) (j / 2) u
  enters-past e =
      record {
        level = suc k;
        sized = double half k c.sized;
        enter = enter-past (NotAfter l) (not-after-same l) (not-after-trans l) n (winner_at l) k j u (j / 2) c.enter (omega arith);
      }

  -- label n stands in the second of two blocks
  module _ (e : j % 2 ≢ 0) where
    pub old-used : winner_at l (j * half) < n
    old-used =
        rw at (pair (NotAfter l) (not-after-same l) (not-after-trans l) n (winner_at l) k j u (j / 2) c.enter (odd e)).used

    pub enters-wins : n * label_bytes + label_bytes ≤ length l → n < most_labels → NotAfter l n (winner_at l (j * half)) → (m : List ℕ) → m ≡ put_winner l (j * half) n
        → Only 28 2 (n + 1) l m × Enters (NotAfter l) (winner_at m) n (half * 2) (j / 2) n
    enters-wins room few h m g =
        let x : j * half < n + 1 = omega (arith, enters-low) in
        let r : j * half * label_bytes + label_bytes ≤ length l = omega (arith, mul-le-mul_right {m = j * half} {n = n} label_bytes enters-low) in (
          rw g (only-winner l (j * half) n (n + 1) x),
          record {
            level = suc k;
            sized = double half k c.sized;
            enter = enter-wins (NotAfter l) (not-after-same l) (not-after-trans l) n (winner_at l) k j u (j / 2) c.enter (odd e) (winner_at m)
                (subst (λ z. NotAfter l n (winner_at l z)) at h) (λ y ne. rw g (winner-other l (j * half) n y (λ z. ne (z ∙ at))))
                (rw (g, ← at) (winner-same l (j * half) n r (omega arith)));
          },
        )

    -- the winner there does not come after it
    pub enters-stays : (root : ℕ) → NotAfter l (winner_at l (j * half)) n → First (NotAfter l) n 0 n root
        → Tree (NotAfter l) (winner_at l) (n + 1) × First (NotAfter l) (n + 1) 0 (n + 1) root
    enters-stays root h f =
        enter-stop (NotAfter l) (not-after-same l) (not-after-trans l) n (winner_at l) (suc k) (j / 2) (winner_at l (j * side k)) root
        (enter-stays (NotAfter l) (not-after-same l) (not-after-trans l) n (winner_at l) k j u (j / 2) c.enter (odd e) (subst (λ z. NotAfter l (winner_at l z) n) at h))
        (subst (λ z. winner_at l z < n) at old-used) f

  pub enters-stop : (root : ℕ) → u < n → First (NotAfter l) n 0 n root → Tree (NotAfter l) (winner_at l) (n + 1) × First (NotAfter l) (n + 1) 0 (n + 1) root
  enters-stop root b f = enter-stop (NotAfter l) (not-after-same l) (not-after-trans l) n (winner_at l) k j u root c.enter b f

  pub enters-done : n < half → Tree (NotAfter l) (winner_at l) (n + 1) × First (NotAfter l) (n + 1) 0 (n + 1) u
  enters-done h =
      climb-done (NotAfter l) (not-after-same l) (not-after-trans l) (winner_at l) (n + 1) n k j u c.enter.climb (omega arith) (omega (arith, c.sized))

-- the level at which label n begins the second of two blocks: v is the first of the other
pub enters-join : (l : List ℕ) {n half j : ℕ} → Climbs (NotAfter l) (winner_at l) (n + 1) n half j n → Tree (NotAfter l) (winner_at l) n
    → n * label_bytes + label_bytes ≤ length l → n < most_labels → n ≡ j * half → j % 2 ≡ 1
    → (v u : ℕ) → First (NotAfter l) (n + 1) (n - half) (n - half + half) v → Chosen l v n u → u < n + 1 → (m : List ℕ) → m ≡ put_winner l n u
    → Only 28 2 (n + 1) l m × Enters (NotAfter l) (winner_at m) n (half * 2) (j / 2) u
enters-join l {n} {half} {j} c t room few p e v u f ch used m g =
    let k = c.level in
    let at : j * half ≡ j * side k = ap (λ z. j * z) c.sized in
    let o : j ≡ 2 * (j / 2) + 1 = omega arith in
    let n-is : n ≡ j * side k = p ∙ at in
    let lo : n - half ≡ 2 * (j / 2) * side k = omega (arith, ap (λ z. z * side k) o, c.sized) in
    let hi : n - half + half ≡ j * side k = omega (arith, odd-before l c e) in (
      rw g (only-winner l n u (n + 1) (omega arith)),
      record {
        level = suc k;
        sized = double half k c.sized;
        enter = enter-own (NotAfter l) (not-after-same l) (not-after-trans l) n (winner_at l) (winner_at m) k j (j / 2) v u t c.climb o n-is
            (subst (λ z. First (NotAfter l) (n + 1) z (j * side k) v) lo (subst (λ z. First (NotAfter l) (n + 1) (n - half) z v) hi f)) (⊎_elim inr inl ch)
            (λ y ne. rw g (winner-other l n u y (λ z. ne (z ∙ n-is)))) (subst (λ z. winner_at m z ≡ u) n-is (rw g (winner-same l n u room (omega arith))));
      },
    )
