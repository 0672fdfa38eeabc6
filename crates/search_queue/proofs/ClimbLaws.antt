-- A level of the way up, over bytes: the laws of the tree, where the winner of two blocks is stored in the label at which the second begins. The store changes no
-- candidate, so the order that the winners are by is that of the bytes before and after it.
use mathlib.Core.Path.{◌≡◌, refl, subst, ap, ◌∙◌}
use mathlib.Core.Logic.{◌≢◌, inl, ⊎_elim}
use mathlib.Core.List.{List}
use Prim.Native.Nat.{ℕ, suc, ◌+◌, ◌-◌, ◌*◌, ◌/◌, ◌%◌, ◌≤◌, ◌<◌}
use native.Mathlib.Nat.{mul-le-mul_right}
use native.Mathlib.Omega.{arith}
use lib.ListN.{length}
use Rattle.net.specs.Limits.{most_labels}
use Rattle.labels.specs.Field.{label_bytes}
use Rattle.search_tree.specs.Tree.{side, First, Tree, TreeBut, Climbs, Block, Narrowed}
use Rattle.search_tree.proofs.TreeLaws.{side-pos, climb-near, climb-start, climb-right, climb-left, climb-past, climb-done}
use Rattle.search_tree.proofs.BlockLaws.{first_alone, first-middle}
use Rattle.search_queue.specs.Working.{winner_at, put_winner}
use Rattle.search_queue.specs.Only.{Only}
use Rattle.search_queue.specs.Order.{NotAfter, Chosen}
use Rattle.search_queue.proofs.OnlyLaws.{only_same}
use Rattle.search_queue.proofs.OrderLaws.{not-after-same, not-after-trans}
use Rattle.search_queue.proofs.WorkingLaws.{only-winner, winner-same, winner-other, not-after-only}

pub chosen-used : (l : List ℕ) (n w v u : ℕ) → Chosen l w v u → w < n → v < n → u < n
chosen-used l n w v u c h k = ⊎_elim (λ z. omega (arith, z.0)) (λ z. omega (arith, z.0)) c

module _ (l : List ℕ) {n i half j w : ℕ} (c : Climbs (NotAfter l) (winner_at l) n i half j w) where
  pub from_low : j * half ≤ i
  from_low = rw c.sized c.climb.low

  pub winner-used : w < n
  winner-used = c.climb.wins.used

  pub half_pos : 0 < half
  half_pos = rw c.sized (side-pos c.level)

  -- an odd block has one before it
  pub odd-before : j % 2 ≡ 1 → half ≤ j * half
  odd-before e = omega (arith, mul-le-mul_right {m = 1} {n = j} half (omega arith))

  pub block-before : j % 2 ≡ 1 → Block (j * half - half) half
  block-before e =
      record {
        level = c.level;
        number = 2 * (j / 2);
        sized = c.sized;
        place =
            let o : j ≡ 2 * (j / 2) + 1 = omega arith in
            rw (← c.sized) (omega (arith, ap (λ z. z * half) o));
      }

  pub block-after : Block (j * half + half) half
  block-after = record { level = c.level; number = j + 1; sized = c.sized; place = rw (← c.sized) (omega arith) }

  module _ (e s : ℕ) (used : e < n) (d : Narrowed n e half s) where
    pub block-alone : s ≡ 1 → First (NotAfter l) n e (e + half) e
    block-alone z =
        first_alone (NotAfter l) (not-after-same l) (not-after-trans l) (winner_at l) n e half c.level c.sized used
        (λ k m u h. c.climb.joins k m u (inl h)) s d z

    pub block-middle : s ≢ 1 → (e + s / 2 < n) × First (NotAfter l) n e (e + half) (winner_at l (e + s / 2))
    block-middle z =
        first-middle (NotAfter l) (not-after-same l) (not-after-trans l) (winner_at l) n e half c.level c.sized used
        (λ k m u h. c.climb.joins k m u (inl h)) s d z

  double : half * 2 ≡ side (suc c.level)
  unfolding side
  double = omega (arith, c.sized)

  pub level-past : j % 2 ≢ 1 → n ≤ j * half + half → Only 28 2 n l l × Climbs (NotAfter l) (winner_at l) n i (half * 2) (j / 2) w
  level-past e x = (
    only_same 28 2 n l,
    record {
      level = suc c.level;
      sized = double;
      climb = climb-past (NotAfter l) (not-after-same l) (not-after-trans l) (winner_at l) n i c.level j w (j / 2) c.climb (omega arith)
          (rw (← c.sized) x);
    },
  )

  -- u, chosen of w and the first v of the block next to it, is stored
  module _ (room : n * label_bytes ≤ length l) (few : n ≤ most_labels) (below : i < n) (v u : ℕ) (ch : Chosen l w v u) (used : u < n) (m : List ℕ) where
    room_at : (x : ℕ) → x < n → x * label_bytes + label_bytes ≤ length l
    room_at x h = omega (arith, mul-le-mul_right {m = suc x} {n = n} label_bytes h)

    pub level-right : j % 2 ≡ 1 → First (NotAfter l) n (j * half - half) (j * half - half + half) v → m ≡ put_winner l (j * half) u
        → Only 28 2 n l m × Climbs (NotAfter l) (winner_at m) n i (half * 2) (j / 2) u
    level-right e f g =
        let k = c.level in
        let at : j * half ≡ j * side k = ap (λ z. j * z) c.sized in
        let o : j ≡ 2 * (j / 2) + 1 = omega arith in
        let lo : j * half - half ≡ 2 * (j / 2) * side k = omega (arith, ap (λ z. z * side k) o, c.sized, at) in
        let hi : j * half - half + half ≡ j * side k = omega (arith, at, odd-before e) in
        let x : j * half < n = omega (arith, from_low) in (
          rw g (only-winner l (j * half) u n x),
          record {
            level = suc k;
            sized = double;
            climb = climb-right (NotAfter l) (not-after-same l) (not-after-trans l) (winner_at l) (winner_at m) n i k j w u c.climb (j / 2) v o
                (subst (λ z. First (NotAfter l) n z (j * side k) v) lo (subst (λ z. First (NotAfter l) n (j * half - half) z v) hi f)) ch
                (λ y ne. rw g (winner-other l (j * half) u y (λ z. ne (z ∙ at))))
                (rw (g, ← at) (winner-same l (j * half) u (room_at (j * half) x) (omega arith)));
          },
        )

    pub level-left : j % 2 ≢ 1 → j * half + half < n → First (NotAfter l) n (j * half + half) (j * half + half + half) v → m ≡ put_winner l (j * half + half) u
        → Only 28 2 n l m × Climbs (NotAfter l) (winner_at m) n i (half * 2) (j / 2) u
    level-left e x f g =
        let k = c.level in
        let at : j * half + half ≡ j * side k + side k = omega (arith, c.sized, ap (λ z. j * z) c.sized) in
        let o : j ≡ 2 * (j / 2) = omega arith in (
          rw g (only-winner l (j * half + half) u n x),
          record {
            level = suc k;
            sized = double;
            climb = climb-left (NotAfter l) (not-after-same l) (not-after-trans l) (winner_at l) (winner_at m) n i k j w u c.climb (j / 2) v o
                (rw (← c.sized) f) ch (λ y ne. rw g (winner-other l (j * half + half) u y (λ z. ne (z ∙ at))))
                (rw (g, ← at) (winner-same l (j * half + half) u (room_at (j * half + half) x) (omega arith)));
          },
        )

-- ---- the ends of the way

pub update-start : (l : List ℕ) (n i : ℕ) → i < n → TreeBut (NotAfter l) (winner_at l) n i → Climbs (NotAfter l) (winner_at l) n i 1 i i
unfolding side
update-start l n i h t =
    record { level = 0; sized = refl; climb = climb-start (NotAfter l) (not-after-same l) (not-after-trans l) (winner_at l) n i h t }

-- the order carried along, where only winners changed
pub climbs-only : {k : ℕ} {l m : List ℕ} → Only 28 2 k l m → {winner : ℕ → ℕ} {n i half j w : ℕ} → Climbs (NotAfter l) winner n i half j w
    → Climbs (NotAfter m) winner n i half j w
climbs-only {l = l} {m} o c = record { level = c.level; sized = c.sized; climb = climb-near (NotAfter l) (NotAfter m) (not-after-only o) c.climb }

pub update-done : (l : List ℕ) {n i half j w : ℕ} → i < n → n ≤ half → Climbs (NotAfter l) (winner_at l) n i half j w
    → Tree (NotAfter l) (winner_at l) n × First (NotAfter l) n 0 n w
update-done l h g c = climb-done (NotAfter l) (not-after-same l) (not-after-trans l) (winner_at l) _ _ c.level _ _ c.climb h (rw (← c.sized) g)
