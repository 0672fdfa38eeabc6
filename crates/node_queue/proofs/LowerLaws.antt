-- Node x's key fell. By the keys before that each winner on the way up from x is a first. Where its key is not less than that of x, x is a first now, and takes its
-- place; where it is less, that winner stands in every pair above that x stands in, so none of these has lost its place to x (`lowers-stops`).
use mathlib.Core.Path.{◌≡◌, refl, sym, subst, ap, ◌∙◌}
use mathlib.Core.Logic.{◌≢◌, inl, ⊎_elim}
use mathlib.Core.List.{List}
use Prim.Native.Nat.{ℕ, zero, suc, ◌+◌, ◌-◌, ◌*◌, ◌/◌, ◌≤◌, ◌<◌}
use native.Mathlib.Nat.{mul-le-mul_right}
use native.Mathlib.Decide.{ℕ_discrete}
use native.Mathlib.Omega.{arith}
use Rattle.lists.proofs.Cases.{order}
use Rattle.working_room.specs.Field.{put_word, Within}
use Rattle.working_room.proofs.RoomLaws.{word-put, word-put-node, within_word}
use Rattle.search_tree.specs.Tree.{side, First, Joins, Tree, Climb, Block}
use Rattle.search_tree.proofs.TreeLaws.{side-pos, middle-one, climb-near, climb-start, climb-up, climb-past, climb-done, but-changed}
use Rattle.node_queue.specs.Queue.{key_at, winner_at, NotAfter, Roomy}
use Rattle.node_queue.specs.Choice.{By, Fell}
use Rattle.node_queue.proofs.ClimbLaws.{mid, mid-is, pair-low, mid-most, even-past}
use Rattle.node_queue.proofs.WinnerLaws.{not-after-same, not-after-trans, not-after-kept, key-kept, room_at}

-- ---- blocks within blocks

side-add : (j k : ℕ) → side (j + k) ≡ side j * side k
unfolding side
side-add zero k =
    let e : 0 + k ≡ k = omega arith in
    rw e (omega arith)
side-add (suc j) k =
    let e : suc j + k ≡ suc (j + k) = omega arith in
    rw e (omega (arith, side-add j k))

-- two blocks that have x: the smaller lies within the larger
nested : (k l a b x : ℕ) → k ≤ l → a * side k ≤ x → x < a * side k + side k → b * side l ≤ x → x < b * side l + side l
    → (b * side l ≤ a * side k) × (a * side k + side k ≤ b * side l + side l)
nested k l a b x h p q r s =
    let d : ℕ = side (l - k) in
    let e : side l ≡ d * side k = ap side (omega arith) ∙ side-add (l - k) k in
    let f : b * side l ≡ b * d * side k = omega (arith, ap (λ z. b * z) e) in
    let g : b * side l + side l ≡ (b * d + d) * side k = omega (arith, f, e) in (
      ⊎_elim (λ z. omega (arith, f, mul-le-mul_right {m = b * d} {n = a} (side k) z))
          (λ z. absurd (omega (arith, f, r, q, mul-le-mul_right {m = a + 1} {n = b * d} (side k) (omega arith)))) (order (b * d) a),
      ⊎_elim (λ z. omega (arith, g, mul-le-mul_right {m = a + 1} {n = b * d + d} (side k) z))
          (λ z. absurd (omega (arith, g, s, p, mul-le-mul_right {m = b * d + d} {n = a} (side k) (omega arith)))) (order (a + 1) (b * d + d)),
    )

-- ---- the way up

-- The way up from x has come to block m of `size` nodes, of which x is a first; from there on the winners are right by the keys before.
pub record Lowers (n x size m : ℕ) (l : List ℕ) : Type 0 where
  pub old : ℕ → ℕ
  pub others : (v : ℕ) → v ≢ x → old v ≡ key_at l v
  pub less : key_at l x ≤ old x
  pub level : ℕ
  pub sized : size ≡ side level
  pub climb : Climb (NotAfter l) (winner_at l) n x level m x
  pub above : (k i : ℕ) → level ≤ k → (2 * i + 1) * side k < n → Joins (By old) (winner_at l) n k i

pub lowers-start : (l : List ℕ) (n x : ℕ) → x < n → Fell n x l → Lowers n x 1 x l
unfolding side
lowers-start l n x h f =
    record {
      old = f.old;
      others = f.others;
      less = f.less;
      level = 0;
      sized = refl;
      climb = climb-start (NotAfter l) (not-after-same l) (not-after-trans l) (winner_at l) n x h
          (but-changed (By f.old) (NotAfter l) (winner_at l) (winner_at l) n x (λ a b na nb g. omega (arith, f.others a na, f.others b nb, g)) (λ j. refl) f.tree);
      above = λ k i g u. f.tree.joins k i u;
    }

module _ (l : List ℕ) {n x half j : ℕ} (c : Lowers n x half j l) where
  abbrev k : ℕ
  k = c.level

  abbrev a : ℕ
  a = j / 2

  mid_at : mid j half ≡ (2 * a + 1) * side k
  mid_at = mid-is j half k x c.sized c.climb.low

  low : 2 * a * side k ≤ x
  low = pair-low j half k x c.sized c.climb.low

  high : x < (2 * a + 2) * side k
  high = omega (arith, c.climb.high, mul-le-mul_right {m = j + 1} {n = 2 * a + 2} (side k) (omega arith))

  pub lowers-pos : 0 < half
  lowers-pos = rw c.sized (side-pos k)

  pub lowers-mid : (j / 2 * 2 + 1 ≤ mid j half) × (mid j half ≤ x + half)
  lowers-mid = mid-most j half k x c.sized c.climb.low

  pub lowers-block : Block 0 half
  lowers-block = record { level = k; number = 0; sized = c.sized; place = omega arith }

  double : half * 2 ≡ side (suc k)
  unfolding side
  double = omega (arith, c.sized)

  pub lowers-past : n ≤ mid j half → Lowers n x (half * 2) a l
  lowers-past h =
      record {
        old = c.old;
        others = c.others;
        less = c.less;
        level = suc k;
        sized = double;
        climb = climb-past (NotAfter l) (not-after-same l) (not-after-trans l) (winner_at l) n x k j x a c.climb even
            (omega (arith, mid_at, ap (λ z. z * side k) even, h));
        above = λ l i g u. c.above l i (omega arith) u;
      }
    where
      even : j ≡ 2 * a
      even = let o = even-past j half k x c.sized c.climb.low c.climb.wins.used h in omega arith

  -- the winner that stands there
  module _ (h : mid j half < n) where
    abbrev w : ℕ
    w = winner_at l (mid j half)

    was : First (By c.old) n (2 * a * side k) ((2 * a + 2) * side k) w
    was = subst (λ z. First (By c.old) n (2 * a * side k) ((2 * a + 2) * side k) (winner_at l z)) (sym mid_at) (c.above k a (omega arith) (omega (arith, mid_at, h)))

    pub was-used : w < n
    was-used = was.used

    -- no key rose
    key-most : (v : ℕ) → key_at l v ≤ c.old v
    key-most v = go (ℕ_discrete v x)
      where
        go : Dec (v ≡ x) → key_at l v ≤ c.old v
        go (yes e) = subst (λ y. key_at l y ≤ c.old y) (sym e) c.less
        go (no ne) = omega (arith, c.others v ne)

    module _ (r : Roomy n l) (wins : key_at l x ≤ key_at l w) (m : List ℕ) (put : m ≡ put_word 8 l (mid j half) x) where
      first : First (NotAfter l) n (2 * a * side k) ((2 * a + 2) * side k) x
      first =
          record { low = low; high = high; used = c.climb.wins.used; least = λ y p q u. go y (was.least y p q u) (ℕ_discrete y x) }
        where
          go : (y : ℕ) → c.old w ≤ c.old y → Dec (y ≡ x) → key_at l x ≤ key_at l y
          go y g (yes e) = subst (λ z. key_at l x ≤ key_at l z) (sym e) (omega arith)
          go y g (no ne) = omega (arith, c.others y ne, key-most w, wins, g)

      lowers-within : Within 8 4 l m
      lowers-within = rw put (within_word 8 l (mid j half) x refl)

      keep : (y : ℕ) → y ≢ (2 * a + 1) * side k → winner_at m y ≡ winner_at l y
      keep y ne = rw put (word-put-node 8 l (mid j half) x refl y (λ z. ne (z ∙ mid_at)))

      here : winner_at m ((2 * a + 1) * side k) ≡ x
      here = rw (put, ← mid_at) (word-put 8 l (mid j half) x refl (room_at r (mid j half) h) (omega (arith, c.climb.wins.used, r.few)))

      pub lowers-wins : Within 8 4 l m × Lowers n x (half * 2) a m
      lowers-wins = (
        lowers-within,
        record {
          old = c.old;
          others = λ v ne. c.others v ne ∙ sym (key-kept lowers-within v);
          less = rw (key-kept lowers-within x) c.less;
          level = suc k;
          sized = double;
          climb = climb-near (NotAfter l) (NotAfter m) (not-after-kept lowers-within)
              (climb-up (NotAfter l) (not-after-same l) (not-after-trans l) (winner_at l) n x (winner_at m) k a x low high keep (λ u. here) c.climb.joins first);
          above = λ b i g u. subst (First (By c.old) n (2 * i * side b) ((2 * i + 2) * side b))
              (sym (keep ((2 * i + 1) * side b) (λ e. omega (arith, (middle-one b k i a e).0)))) (c.above b i (omega arith) u);
        },
      )

    -- it stands in every pair above that x stands in
    within : (b i : ℕ) → k ≤ b → 2 * i * side b ≤ x → x < (2 * i + 2) * side b → (2 * i * side b ≤ w) × (w < (2 * i + 2) * side b)
    unfolding side
    within b i z p q =
        let d = nested (suc k) (suc b) a i x (omega arith) (omega (arith, low)) (omega (arith, high)) (omega arith) (omega arith) in
        (omega (arith, d.0, was.low), omega (arith, d.1, was.high))

    pub lowers-stops : key_at l w < key_at l x → Tree (NotAfter l) (winner_at l) n
    lowers-stops g = record { joins = λ b i u. ⊎_elim (λ z. upper b i u z (c.above b i z u)) (λ z. c.climb.joins b i u (inl z)) (order k b) }
      where
        w-other : w ≢ x
        w-other e = omega (arith, ap (key_at l) e, g)

        upper : (b i : ℕ) → (2 * i + 1) * side b < n → k ≤ b → Joins (By c.old) (winner_at l) n b i → Joins (NotAfter l) (winner_at l) n b i
        upper b i u z f =
            record { low = f.low; high = f.high; used = f.used; least = λ y p q o. go y p q o (ℕ_discrete y x) }
          where
            go : (y : ℕ) → 2 * i * side b ≤ y → y < (2 * i + 2) * side b → y < n → Dec (y ≡ x)
                → key_at l (winner_at l ((2 * i + 1) * side b)) ≤ key_at l y
            go y p q o (yes e) =
                let d = within b i z (omega arith) (omega arith) in
                omega (arith, key-most (winner_at l ((2 * i + 1) * side b)), f.least w d.0 d.1 was.used, c.others w w-other, g, ap (key_at l) e)
            go y p q o (no ne) =
                omega (arith, key-most (winner_at l ((2 * i + 1) * side b)), f.least y p q o, c.others y ne)

  pub lowers-done : n ≤ half → Tree (NotAfter l) (winner_at l) n × First (NotAfter l) n 0 n x
  lowers-done h =
      climb-done (NotAfter l) (not-after-same l) (not-after-trans l) (winner_at l) n x k j x c.climb c.climb.wins.used (rw (← c.sized) h)

-- ---- the first of all

pub block-pos : {half : ℕ} → Block 0 half → 0 < half
block-pos b = rw b.sized (side-pos b.level)

pub block-double : {half : ℕ} → Block 0 half → Block 0 (half * 2)
unfolding side
block-double b = record { level = suc b.level; number = 0; sized = omega (arith, b.sized); place = omega arith }

pub root-first : (l : List ℕ) (n half : ℕ) → Tree (NotAfter l) (winner_at l) n → Block 0 half → half < n → n ≤ half * 2 → First (NotAfter l) n 0 n (winner_at l half)
root-first l n half t b h g =
    let e : (2 * 0 + 1) * side b.level ≡ half = omega (arith, b.sized) in
    let f = t.joins b.level 0 (omega (arith, e, h)) in
    subst (λ z. First (NotAfter l) n 0 n (winner_at l z)) e
    (record { low = omega arith; high = f.used; used = f.used; least = λ y p q o. f.least y (omega arith) (omega (arith, e, g)) o })
