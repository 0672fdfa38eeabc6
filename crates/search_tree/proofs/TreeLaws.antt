-- The winner tree, for any order that is reflexive and transitive: ties need no order. On the way up from x the winner of two blocks is the first of the one that x
-- stands in or of the other, and it is written where the second begins, which is the middle of these two blocks only (`middle-one`): all that was right stays right.
-- Where the block has all numbers, the tree is right.
use mathlib.Core.Path.{◌≡◌, refl, sym, ap, subst}
use mathlib.Core.Logic.{◌≢◌, ◌⊎◌, inl, inr, ⊎_elim}
use Prim.Native.Nat.{ℕ, zero, suc, ◌+◌, ◌*◌, ◌≤◌, ◌<◌}
use native.Mathlib.Nat.{mul-le-mul_right}
use native.Mathlib.Omega.{arith}
use Rattle.lists.proofs.Cases.{order, three_ways}
use Rattle.search_tree.specs.Tree.{side, First, Joins, Tree, Apart, TreeBut, Climb}

pub side-pos : (k : ℕ) → 0 < side k
unfolding side
side-pos zero = omega arith
side-pos (suc k) = omega (arith, side-pos k)

pub side-mono : (k l : ℕ) → k ≤ l → side k ≤ side l
unfolding side
side-mono zero l h = omega (arith, side-pos l)
side-mono (suc k) zero h = absurd (omega arith)
side-mono (suc k) (suc l) h = omega (arith, side-mono k l (omega arith))

-- each number is the middle of one pair of blocks only, by parity
pub middle-one : (k l i j : ℕ) → (2 * i + 1) * side k ≡ (2 * j + 1) * side l → (k ≡ l) × (i ≡ j)
unfolding side
middle-one zero zero i j e = (refl, omega arith)
middle-one zero (suc l) i j e = absurd (omega arith)
middle-one (suc k) zero i j e = absurd (omega arith)
middle-one (suc k) (suc l) i j e =
    let w = middle-one k l i j (omega arith) in
    (ap suc w.0, w.1)

module _ (le : ℕ → ℕ → Type 0) (same : (a : ℕ) → le a a) (trans : (a b c : ℕ) → le a b → le b c → le a c) where
  -- ---- the first of two ranges

  pub first_one : (n x : ℕ) → x < n → First le n x (x + 1) x
  first_one n x h =
      record { low = omega arith; high = omega arith; used = h; least = λ j a b c. let e : x ≡ j = omega arith in subst (le x) e (same x) }

  pub first-left : (n a b c w v : ℕ) → First le n a b w → First le n b c v → le w v → First le n a c w
  first-left n a b c w v f g h =
      record {
        low = f.low;
        high = omega (arith, f.high, g.low, g.high);
        used = f.used;
        least = λ j p q r. ⊎_elim (λ s. trans w v j h (g.least j s q r)) (λ s. f.least j p s r) (order b j);
      }

  pub first-right : (n a b c w v : ℕ) → First le n a b w → First le n b c v → le v w → First le n a c v
  first-right n a b c w v f g h =
      record {
        low = omega (arith, f.low, f.high, g.low);
        high = g.high;
        used = g.used;
        least = λ j p q r. ⊎_elim (λ s. g.least j s q r) (λ s. trans v w j h (f.least j p s r)) (order b j);
      }

  -- no number from b to c is below n
  pub first_past : (n a b c w : ℕ) → First le n a b w → n ≤ b → b ≤ c → First le n a c w
  first_past n a b c w f h k =
      record { low = f.low; high = omega (arith, f.high); used = f.used; least = λ j p q r. f.least j p (omega arith) r }

  -- u is the first of the two, each the first of its range
  abbrev Either : ℕ → ℕ → ℕ → Type 0
  Either u w v = ((u ≡ w) × le w v) ⊎ ((u ≡ v) × le v w)

  first-both : (n a b c w v u : ℕ) → First le n a b w → First le n b c v → Either u w v → First le n a c u
  first-both n a b c w v u f g (inl d) = subst (First le n a c) (sym d.0) (first-left n a b c w v f g d.1)
  first-both n a b c w v u f g (inr d) = subst (First le n a c) (sym d.0) (first-right n a b c w v f g d.1)

  -- ---- the way up from x

  module _ (winner : ℕ → ℕ) (n x : ℕ) where
    pub climb-start : x < n → TreeBut le winner n x → Climb le winner n x 0 x x
    unfolding side
    climb-start h t =
        record {
          low = omega arith;
          high = omega arith;
          wins = subst (λ z. First le n z (z + 1) x) (omega arith) (first_one n x h);
          joins = λ l i u a. ⊎_elim (λ z. absurd (omega arith)) (λ z. t.joins l i u z) a;
        }

    -- at a level that holds all, the tree is right
    pub climb-done : (k m w : ℕ) → Climb le winner n x k m w → x < n → n ≤ side k → Tree le winner n × First le n 0 n w
    climb-done k m w c h g =
        let z : m * side k ≡ 0 = whole m c.low in (
          record { joins = λ l i u. c.joins l i u (inl (below l i u)) },
          record {
            low = omega arith;
            high = c.wins.used;
            used = c.wins.used;
            least = λ j a b d. c.wins.least j (omega arith) (omega (arith, z)) d;
          },
        )
      where
        whole : (m : ℕ) → m * side k ≤ x → m * side k ≡ 0
        whole zero p = omega arith
        whole (suc m) p = absurd (omega (arith, p, h, g))

        below : (l i : ℕ) → (2 * i + 1) * side l < n → l < k
        below l i u = ⊎_elim (λ z. absurd (omega (arith, side-mono k l z, u, g))) (λ z. z) (order k l)

    -- one level more: `next` are the winners with the middle of blocks 2 a and 2 a + 1 of level k, one of which x stands in, written anew
    module _ (next : ℕ → ℕ) (k a w : ℕ) (low : 2 * a * side k ≤ x) (high : x < (2 * a + 2) * side k) where
      others : ((m : ℕ) → m ≢ (2 * a + 1) * side k → next m ≡ winner m)
          → ((l i : ℕ) → (2 * i + 1) * side l < n → (l < k) ⊎ Apart x l i → Joins le winner n l i)
          → ((2 * a + 1) * side k < n → Joins le next n k a)
          → (l i : ℕ) → (2 * i + 1) * side l < n → (l < suc k) ⊎ Apart x l i → Joins le next n l i
      others keep old new l i u d = go (three_ways l k) (three_ways i a)
        where
          up : (i : ℕ) → l ≡ k → i < a → (2 * i + 2) * side l ≤ x
          up i z o = rw z (omega (arith, mul-le-mul_right {m = 2 * i + 2} {n = 2 * a} (side k) (omega arith)))

          down : (i : ℕ) → l ≡ k → a < i → x < 2 * i * side l
          down i z o = rw z (omega (arith, mul-le-mul_right {m = 2 * a + 2} {n = 2 * i} (side k) (omega arith)))

          carry : (l < k) ⊎ Apart x l i → ((2 * i + 1) * side l ≡ (2 * a + 1) * side k → ⊥) → Joins le next n l i
          carry z ne = subst (First le n (2 * i * side l) ((2 * i + 2) * side l)) (sym (keep ((2 * i + 1) * side l) ne)) (old l i u z)

          here : l ≡ k → i ≡ a → Joins le next n l i
          here z o =
              subst (λ y. Joins le next n y i) (sym z)
              (subst (λ y. Joins le next n k y) (sym o) (new (subst (λ y. (2 * y + 1) * side k < n) o (subst (λ y. (2 * i + 1) * side y < n) z u))))

          go : (l < k) ⊎ (l ≡ k) ⊎ (k < l) → (i < a) ⊎ (i ≡ a) ⊎ (a < i) → Joins le next n l i
          go (inl z) o = carry (inl z) (λ e. absurd (omega (arith, (middle-one l k i a e).0)))
          go (inr (inr z)) o = carry (⊎_elim (λ y. absurd (omega arith)) inr d) (λ e. absurd (omega (arith, (middle-one l k i a e).0)))
          go (inr (inl z)) (inl o) = carry (inr (inr (up i z o))) (λ e. absurd (omega (arith, (middle-one l k i a e).1)))
          go (inr (inl z)) (inr (inr o)) = carry (inr (inl (down i z o))) (λ e. absurd (omega (arith, (middle-one l k i a e).1)))
          go (inr (inl z)) (inr (inl o)) = here z o

      -- w is a first of the two, and stands in their middle
      pub climb-up : ((m : ℕ) → m ≢ (2 * a + 1) * side k → next m ≡ winner m) → ((2 * a + 1) * side k < n → next ((2 * a + 1) * side k) ≡ w)
          → ((l i : ℕ) → (2 * i + 1) * side l < n → (l < k) ⊎ Apart x l i → Joins le winner n l i)
          → First le n (2 * a * side k) ((2 * a + 2) * side k) w → Climb le next n x (suc k) a w
      unfolding side
      climb-up keep here old f =
          let lo : 2 * a * side k ≡ a * (2 * side k) = omega arith in
          let hi : (2 * a + 2) * side k ≡ a * (2 * side k) + 2 * side k = omega arith in
          record {
            low = omega arith;
            high = omega arith;
            wins = subst (λ z. First le n (a * (2 * side k)) z w) hi (subst (λ z. First le n z ((2 * a + 2) * side k) w) lo f);
            joins = others keep old (λ u. subst (First le n (2 * a * side k) ((2 * a + 2) * side k)) (sym (here u)) f);
          }

  module _ (winner next : ℕ → ℕ) (n x k m w u : ℕ) (c : Climb le winner n x k m w) where
    -- x stands in the second block: v is a first of the block before it, u of the two
    pub climb-right : (a v : ℕ) → m ≡ 2 * a + 1 → First le n (2 * a * side k) (m * side k) v → Either u w v
        → ((j : ℕ) → j ≢ m * side k → next j ≡ winner j) → next (m * side k) ≡ u → Climb le next n x (suc k) a u
    climb-right a v e f d keep here =
        let i : m * side k ≡ (2 * a + 1) * side k = ap (λ z. z * side k) e in
        let g : First le n (m * side k) ((2 * a + 2) * side k) w = subst (λ z. First le n (m * side k) z w) (omega (arith, i)) c.wins in
        climb-up winner n x next k a u (omega (arith, i, c.low)) (omega (arith, i, c.high)) (λ j ne. keep j (λ z. ne (omega (arith, i, z))))
        (λ h. subst (λ z. next z ≡ u) i here) c.joins
        (first-both n (2 * a * side k) (m * side k) ((2 * a + 2) * side k) v w u f g (⊎_elim inr inl d))

    -- x stands in the first block: v is a first of the block after it
    pub climb-left : (a v : ℕ) → m ≡ 2 * a → First le n (m * side k + side k) (m * side k + side k + side k) v → Either u w v
        → ((j : ℕ) → j ≢ m * side k + side k → next j ≡ winner j) → next (m * side k + side k) ≡ u → Climb le next n x (suc k) a u
    climb-left a v e f d keep here =
        let i : m * side k ≡ 2 * a * side k = ap (λ z. z * side k) e in
        let mid : m * side k + side k ≡ (2 * a + 1) * side k = omega (arith, i) in
        let top : m * side k + side k + side k ≡ (2 * a + 2) * side k = omega (arith, i) in
        climb-up winner n x next k a u (omega (arith, i, c.low)) (omega (arith, i, c.high)) (λ j ne. keep j (λ z. ne (omega (arith, mid, z))))
        (λ h. subst (λ z. next z ≡ u) mid here) c.joins
        (subst (λ z. First le n z ((2 * a + 2) * side k) u) i
        (subst (λ z. First le n (m * side k) z u) top
        (first-both n (m * side k) (m * side k + side k) (m * side k + side k + side k) w v u c.wins f d)))

  -- no number of the block after it is below n
  pub climb-past : (winner : ℕ → ℕ) (n x k m w a : ℕ) → Climb le winner n x k m w → m ≡ 2 * a → n ≤ m * side k + side k → Climb le winner n x (suc k) a w
  climb-past winner n x k m w a c e h =
      let i : m * side k ≡ 2 * a * side k = ap (λ z. z * side k) e in
      climb-up winner n x winner k a w (omega (arith, i, c.low)) (omega (arith, i, c.high)) (λ j ne. refl) (λ u. absurd (omega (arith, i, u, h))) c.joins
      (subst (λ z. First le n z ((2 * a + 2) * side k) w) i
      (first_past n (m * side k) (m * side k + side k) ((2 * a + 2) * side k) w c.wins h (omega (arith, i))))

-- ---- where what did not come after still does not

module _ (le near : ℕ → ℕ → Type 0) (h : (a b : ℕ) → le a b → near a b) where
  pub first-near : {n lo hi w : ℕ} → First le n lo hi w → First near n lo hi w
  first-near {w = w} f = record { low = f.low; high = f.high; used = f.used; least = λ j p q r. h w j (f.least j p q r) }

  pub climb-near : {winner : ℕ → ℕ} {n x k m w : ℕ} → Climb le winner n x k m w → Climb near winner n x k m w
  climb-near c = record { low = c.low; high = c.high; wins = first-near c.wins; joins = λ l i u d. first-near (c.joins l i u d) }

-- ---- what leaves the tree right but for a path

apart_out : (x k i j : ℕ) → Apart x k i → 2 * i * side k ≤ j → j < (2 * i + 2) * side k → j ≢ x
apart_out x k i j d p q e = ⊎_elim (λ z. omega arith) (λ z. omega arith) d

-- x's place in the order has changed, and no winner has
module _ (le near : ℕ → ℕ → Type 0) (winner next : ℕ → ℕ) (n x : ℕ) (h : (a b : ℕ) → a ≢ x → b ≢ x → le a b → near a b) (e : (j : ℕ) → next j ≡ winner j) where
  pub but-carried : TreeBut le winner n x → TreeBut near next n x
  but-carried t =
      record {
        joins = λ k i u d.
            let f = t.joins k i u d in
            subst (First near n (2 * i * side k) ((2 * i + 2) * side k)) (sym (e ((2 * i + 1) * side k)))
            (record {
              low = f.low;
              high = f.high;
              used = f.used;
              least = λ j p q r. h _ j (apart_out x k i _ d f.low f.high) (apart_out x k i j d p q) (f.least j p q r);
            });
      }

  pub but-changed : Tree le winner n → TreeBut near next n x
  but-changed t = but-carried (record { joins = λ k i u d. t.joins k i u })

-- what is before n is as it was: the tree of those below n is right, and where n has come in it is right but for n
module _ (le near : ℕ → ℕ → Type 0) (n : ℕ) (h : (a b : ℕ) → a < n → b < n → le a b → near a b) where
  pub first_below : {lo hi w : ℕ} → First le n lo hi w → First near n lo hi w
  first_below {w = w} f = record { low = f.low; high = f.high; used = f.used; least = λ j p q r. h w j f.used r (f.least j p q r) }

  pub tree-below : (winner next : ℕ → ℕ) → ((j : ℕ) → j < n → next j ≡ winner j) → Tree le winner n → Tree near next n
  tree-below winner next e t =
      record {
        joins = λ k i u. subst (First near n (2 * i * side k) ((2 * i + 2) * side k)) (sym (e ((2 * i + 1) * side k) u)) (first_below (t.joins k i u));
      }

pub but_last : (le : ℕ → ℕ → Type 0) (winner : ℕ → ℕ) (n : ℕ) → Tree le winner n → TreeBut le winner (n + 1) n
but_last le winner n t =
    record {
      joins = λ k i u d.
          let g = within k i u d in
          let f = t.joins k i (omega (arith, side-pos k)) in
          record { low = f.low; high = f.high; used = omega (arith, f.used); least = λ j p q r. f.least j p q (omega arith) };
    }
  where
    within : (k i : ℕ) → (2 * i + 1) * side k < n + 1 → Apart n k i → (2 * i + 2) * side k ≤ n
    within k i u d = ⊎_elim (λ z. absurd (omega (arith, u, z, side-pos k))) (λ z. z) d

pub but-entered : (le near : ℕ → ℕ → Type 0) (winner next : ℕ → ℕ) (n : ℕ) → ((a b : ℕ) → a < n → b < n → le a b → near a b) → ((j : ℕ) → j < n → next j ≡ winner j)
    → Tree le winner n → TreeBut near next (n + 1) n
but-entered le near winner next n h e t = but_last near next n (tree-below le near n h winner next e t)
