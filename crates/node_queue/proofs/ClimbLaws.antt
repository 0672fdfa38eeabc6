-- A level of the way up, over bytes: the laws of the tree, where the winner of two blocks is stored in the node at which the second begins. The store changes no key,
-- so the order that the winners are by is that of the bytes before and after it.
use mathlib.Core.Path.{◌≡◌, refl, subst, ap, ◌∙◌}
use mathlib.Core.Logic.{◌≢◌, ◌⊎◌, inl, inr}
use mathlib.Core.List.{List}
use Prim.Native.Nat.{ℕ, zero, suc, ◌+◌, ◌-◌, ◌*◌, ◌/◌, ◌%◌, ◌≤◌, ◌<◌}
use native.Mathlib.Nat.{mul-le-mul_left, mul-le-mul_right}
use native.Mathlib.Decide.{ℕ_discrete}
use native.Mathlib.Omega.{arith}
use Rattle.working_room.specs.Field.{put_word, Within}
use Rattle.working_room.proofs.RoomLaws.{word-put, word-put-node, within_same, within_word}
use Rattle.search_tree.specs.Tree.{side, First, Tree, TreeBut, Climb, Climbs, Block, Narrowed}
use Rattle.search_tree.proofs.TreeLaws.{side-pos, climb-near, climb-start, climb-right, climb-left, climb-past, climb-done}
use Rattle.search_tree.proofs.BlockLaws.{first_alone, first-middle}
use Rattle.node_queue.specs.Queue.{winner_at, NotAfter, Roomy}
use Rattle.node_queue.specs.Choice.{Chosen, Under}
use Rattle.node_queue.proofs.WinnerLaws.{not-after-same, not-after-trans, not-after-kept, room_at}

-- ---- the first of a block

-- all nodes of the block are below n: it is its own part that matters
pub narrowed-whole : (n e half : ℕ) → Block e half → e + half ≤ n → Narrowed n e half half
narrowed-whole n e half b h = record { block = b; inside = omega arith; all = inl refl; half = go half (rw b.sized (side-pos b.level)) h }
  where
    go : (s : ℕ) → 0 < s → e + s ≤ n → (s ≡ 1) ⊎ ((1 < s) × (e + s / 2 < n))
    go zero p q = absurd (omega arith)
    go (suc zero) p q = inl refl
    go (suc (suc s)) p q = inr (omega arith, omega arith)

module _ (l : List ℕ) {n half : ℕ} (c : Under n half l) (e s : ℕ) (used : e < n) (d : Narrowed n e half s) where
  pub block-alone : s ≡ 1 → First (NotAfter l) n e (e + half) e
  block-alone z =
      first_alone (NotAfter l) (not-after-same l) (not-after-trans l) (winner_at l) n e half c.level c.sized used c.right s d z

  pub block-middle : s ≢ 1 → (e + s / 2 < n) × First (NotAfter l) n e (e + half) (winner_at l (e + s / 2))
  block-middle z =
      first-middle (NotAfter l) (not-after-same l) (not-after-trans l) (winner_at l) n e half c.level c.sized used c.right s d z

-- ---- block j, which x stands in, and the one next to it

-- where the second of the two begins, and where the one next to block j does
abbrev pub mid : ℕ → ℕ → ℕ
mid j half = (j / 2 * 2 + 1) * half

abbrev pub next : ℕ → ℕ → ℕ
next j half = (j + 1 - j % 2 * 2) * half

module _ (j half k x : ℕ) (sized : half ≡ side k) (low : j * side k ≤ x) where
  pub mid-is : mid j half ≡ (2 * (j / 2) + 1) * side k
  mid-is = omega (arith, ap (λ z. (2 * (j / 2) + 1) * z) sized)

  pub pair-low : 2 * (j / 2) * side k ≤ x
  pair-low = omega (arith, low, mul-le-mul_right {m = 2 * (j / 2)} {n = j} (side k) (omega arith))

  half-is-pos : 0 < half
  half-is-pos = rw sized (side-pos k)

  -- that they can be computed
  pub mid-most : (j / 2 * 2 + 1 ≤ mid j half) × (mid j half ≤ x + half)
  mid-most = (omega (arith, mul-le-mul_left (j / 2 * 2 + 1) half-is-pos), omega (arith, mid-is, pair-low, sized))

  pub next-most : (j ≤ x) × (next j half ≤ x + half)
  next-most = (
    omega (arith, low, mul-le-mul_left j (side-pos k)),
    omega (arith, low, ap (λ z. j * z) sized, mul-le-mul_right {m = j + 1 - j % 2 * 2} {n = j + 1} half (omega arith)),
  )

  odd_is : j % 2 ≡ 1 → (mid j half ≡ j * side k) × (next j half ≡ 2 * (j / 2) * side k)
  odd_is o =
      let e : 2 * (j / 2) + 1 ≡ j = omega arith in
      let f : j + 1 - j % 2 * 2 ≡ 2 * (j / 2) = omega arith in
      (mid-is ∙ ap (λ z. z * side k) e, ap (λ z. z * half) f ∙ ap (λ z. 2 * (j / 2) * z) sized)

  even_is : j % 2 ≢ 1 → (mid j half ≡ j * side k + side k) × (next j half ≡ j * side k + side k)
  even_is o =
      let e : 2 * (j / 2) + 1 ≡ j + 1 = omega arith in
      let f : j + 1 - j % 2 * 2 ≡ j + 1 = omega arith in
      (omega (arith, mid-is, ap (λ z. z * side k) e), omega (arith, ap (λ z. z * half) f, ap (λ z. (j + 1) * z) sized))

  -- only a block that is the first of two has no node below n (next j half) to it
  pub even-past : {n : ℕ} → x < n → n ≤ mid j half → j % 2 ≢ 1
  even-past h g o = omega (arith, (odd_is o).0, low, h, g)

  pub next-used : {n : ℕ} → mid j half < n → next j half < n
  next-used {n} h = go (ℕ_discrete (j % 2) 1)
    where
      go : Dec (j % 2 ≡ 1) → next j half < n
      go (yes o) = omega (arith, (odd_is o).1, (odd_is o).0, mul-le-mul_right {m = 2 * (j / 2)} {n = j} (side k) (omega arith))
      go (no o) = omega (arith, (even_is o).0, (even_is o).1)

-- ---- a level

module _ (l : List ℕ) {n x half j w : ℕ} (c : Climbs (NotAfter l) (winner_at l) n x half j w) where
  abbrev k : ℕ
  k = c.level

  pub winner-used : w < n
  winner-used = c.climb.wins.used

  pub half_pos : 0 < half
  half_pos = rw c.sized (side-pos k)

  pub climbs-under : Under n half l
  climbs-under = record { level = k; sized = c.sized; right = λ k i u h. c.climb.joins k i u (inl h) }

  pub climbs-mid : (j / 2 * 2 + 1 ≤ mid j half) × (mid j half ≤ x + half)
  climbs-mid = mid-most j half k x c.sized c.climb.low

  pub climbs-next : (j ≤ x) × (next j half ≤ x + half)
  climbs-next = next-most j half k x c.sized c.climb.low

  pub climbs-block : Block (next j half) half
  climbs-block = record { level = k; number = j + 1 - j % 2 * 2; sized = c.sized; place = ap (λ z. (j + 1 - j % 2 * 2) * z) c.sized }

  pub climbs-used : mid j half < n → next j half < n
  climbs-used h = next-used j half k x c.sized c.climb.low h

  double : half * 2 ≡ side (suc k)
  unfolding side
  double = omega (arith, c.sized)

  pub level-past : x < n → n ≤ mid j half → Within 8 4 l l × Climbs (NotAfter l) (winner_at l) n x (half * 2) (j / 2) w
  level-past below h =
      let o = even-past j half k x c.sized c.climb.low below h in (
        within_same 8 4 l,
        record {
          level = suc k;
          sized = double;
          climb = climb-past (NotAfter l) (not-after-same l) (not-after-trans l) (winner_at l) n x k j w (j / 2) c.climb (omega arith)
              (omega (arith, (even_is j half k x c.sized c.climb.low o).0, h));
        },
      )

  -- u, chosen of w and the first v of the block (next j half) to it, is stored
  pub level-up : Roomy n l → mid j half < n → (v u : ℕ) → Chosen l w v u → u < n → (m : List ℕ)
      → First (NotAfter l) n (next j half) (next j half + half) v → m ≡ put_word 8 l (mid j half) u
      → Within 8 4 l m × Climbs (NotAfter l) (winner_at m) n x (half * 2) (j / 2) u
  level-up r h v u ch used m f g = (rw g (within_word 8 l at u refl), record { level = suc k; sized = double; climb = go (ℕ_discrete (j % 2) 1) })
    where
      at : ℕ
      at = mid j half

      from : ℕ
      from = next j half

      keep : (y : ℕ) → y ≢ at → winner_at m y ≡ winner_at l y
      keep y ne = rw g (word-put-node 8 l at u refl y ne)

      here : winner_at m at ≡ u
      here = rw g (word-put 8 l at u refl (room_at r at h) (omega (arith, used, r.few)))

      go : Dec (j % 2 ≡ 1) → Climb (NotAfter l) (winner_at m) n x (suc k) (j / 2) u
      go (yes o) =
          let e = odd_is j half k x c.sized c.climb.low o in
          let i : j ≡ 2 * (j / 2) + 1 = omega arith in
          let hi : from + half ≡ j * side k = omega (arith, e.1, ap (λ z. z * side k) i, c.sized) in
          climb-right (NotAfter l) (not-after-same l) (not-after-trans l) (winner_at l) (winner_at m) n x k j w u c.climb (j / 2) v i
          (subst (λ z. First (NotAfter l) n z (j * side k) v) e.1 (subst (λ z. First (NotAfter l) n from z v) hi f)) ch
          (λ y ne. keep y (λ z. ne (z ∙ e.0))) (subst (λ z. winner_at m z ≡ u) e.0 here)
      go (no o) =
          let e = even_is j half k x c.sized c.climb.low o in
          let hi : from + half ≡ j * side k + side k + side k = omega (arith, e.1, c.sized) in
          climb-left (NotAfter l) (not-after-same l) (not-after-trans l) (winner_at l) (winner_at m) n x k j w u c.climb (j / 2) v (omega arith)
          (subst (λ z. First (NotAfter l) n z (j * side k + side k + side k) v) e.1 (subst (λ z. First (NotAfter l) n from z v) hi f)) ch
          (λ y ne. keep y (λ z. ne (z ∙ e.0))) (subst (λ z. winner_at m z ≡ u) e.0 here)

-- ---- the ends of the way

pub update-start : (l : List ℕ) (n x : ℕ) → x < n → TreeBut (NotAfter l) (winner_at l) n x → Climbs (NotAfter l) (winner_at l) n x 1 x x
unfolding side
update-start l n x h t =
    record { level = 0; sized = refl; climb = climb-start (NotAfter l) (not-after-same l) (not-after-trans l) (winner_at l) n x h t }

-- the order carried along, where only winners changed
pub climbs-kept : {l m : List ℕ} → Within 8 4 l m → {winner : ℕ → ℕ} {n x half j w : ℕ} → Climbs (NotAfter l) winner n x half j w
    → Climbs (NotAfter m) winner n x half j w
climbs-kept {l} {m} f c = record { level = c.level; sized = c.sized; climb = climb-near (NotAfter l) (NotAfter m) (not-after-kept f) c.climb }

pub update-done : (l : List ℕ) {n x half j w : ℕ} → x < n → n ≤ half → Climbs (NotAfter l) (winner_at l) n x half j w
    → Tree (NotAfter l) (winner_at l) n × First (NotAfter l) n 0 n w
update-done l h g c = climb-done (NotAfter l) (not-after-same l) (not-after-trans l) (winner_at l) _ _ c.level _ _ c.climb h (rw (← c.sized) g)
