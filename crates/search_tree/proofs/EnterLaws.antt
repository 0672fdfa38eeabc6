-- The way up from n, which came in after the numbers below it. At one level its block is the second of two and has n alone: the winner of these two is new. Above it
-- each pair that n stands in has a winner among the numbers below n. While n comes before these winners it takes their places; at the first that does not come after
-- n all winners above are right as they are (`enter-stop`), since each of them does not come after that one.
use mathlib.Core.Path.{◌≡◌, refl, sym, ap, subst, ◌∙◌}
use mathlib.Core.Logic.{◌≢◌, ◌⊎◌, inl, inr, ⊎_elim}
use Prim.Native.Nat.{ℕ, zero, suc, ◌+◌, ◌*◌, ◌/◌, ◌≤◌, ◌<◌}
use native.Mathlib.Omega.{arith}
use Rattle.lists.proofs.Cases.{order}
use Rattle.search_tree.specs.Tree.{side, First, Joins, Tree, Climb, Enter}
use Rattle.search_tree.proofs.TreeLaws.{first_past, first-near, climb-near, middle-one, climb-up, climb-right, climb-past, climb-done}

side-above : (k : ℕ) → k < side k
unfolding side
side-above zero = omega arith
side-above (suc k) = omega (arith, side-above k)

pub enter-near : (le near : ℕ → ℕ → Type 0) → ((a b : ℕ) → le a b → near a b) → {winner : ℕ → ℕ} {n k m u : ℕ} → Enter le winner n k m u → Enter near winner n k m u
enter-near le near h c = record { climb = climb-near le near h c.climb; above = λ l i y z. first-near le near h (c.above l i y z) }

module _ (le : ℕ → ℕ → Type 0) (same : (a : ℕ) → le a a) (trans : (a b c : ℕ) → le a b → le b c → le a c) (n : ℕ) where
  -- n too does not come before w
  first_more : (lo hi w : ℕ) → First le n lo hi w → le w n → First le (n + 1) lo hi w
  first_more lo hi w f h =
      record {
        low = f.low;
        high = f.high;
        used = omega (arith, f.used);
        least = λ j p q r. ⊎_elim (λ z. let e : n ≡ j = omega arith in subst (le w) e h) (λ z. f.least j p q z) (order n j);
      }

  -- the winners above, where one below that level was written anew
  above-carried : (winner next : ℕ → ℕ) (k a : ℕ) → ((m : ℕ) → m ≢ (2 * a + 1) * side k → next m ≡ winner m)
      → ((l i : ℕ) → suc k ≤ l → (2 * i + 1) * side l < n + 1 → Joins le winner n l i)
      → (l i : ℕ) → suc k ≤ l → (2 * i + 1) * side l < n + 1 → Joins le next n l i
  above-carried winner next k a keep old l i h u =
      subst (First le n (2 * i * side l) ((2 * i + 2) * side l)) (sym (keep ((2 * i + 1) * side l) (λ e. omega (arith, (middle-one l k i a e).0)))) (old l i h u)

  -- the level where n's block is the second of two: v is a first of the block before it, u of the two
  pub enter-own : (winner next : ℕ → ℕ) (k m a v u : ℕ) → Tree le winner n → Climb le winner (n + 1) n k m n → m ≡ 2 * a + 1 → n ≡ m * side k
      → First le (n + 1) (2 * a * side k) (m * side k) v → ((u ≡ n) × le n v) ⊎ ((u ≡ v) × le v n)
      → ((j : ℕ) → j ≢ m * side k → next j ≡ winner j) → next (m * side k) ≡ u → Enter le next n (suc k) a u
  enter-own winner next k m a v u t c e p f d keep here =
      let i : m * side k ≡ (2 * a + 1) * side k = ap (λ z. z * side k) e in
      record {
        climb = climb-right le same trans winner next (n + 1) n k m n u c a v e f d keep here;
        above = above-carried winner next k a (λ j ne. keep j (λ z. ne (z ∙ i))) (λ l b h y. t.joins l b (less l b h y i));
      }
    where
      less : (l b : ℕ) → suc k ≤ l → (2 * b + 1) * side l < n + 1 → m * side k ≡ (2 * a + 1) * side k → (2 * b + 1) * side l < n
      less l b h y i =
          ⊎_elim (λ z. let q : (2 * b + 1) * side l ≡ (2 * a + 1) * side k = omega arith in absurd (omega (arith, (middle-one l k b a q).0))) (λ z. z)
          (order n ((2 * b + 1) * side l))

  module _ (winner : ℕ → ℕ) (k m u a : ℕ) (c : Enter le winner n k m u) where
    -- n's block is the first of two
    pub enter-past : m ≡ 2 * a → Enter le winner n (suc k) a u
    enter-past e =
        record {
          climb = climb-past le same trans winner (n + 1) n k m u a c.climb e (omega (arith, c.climb.high));
          above = λ l i h y. c.above l i (omega arith) y;
        }

    module _ (e : m ≡ 2 * a + 1) where
      mid : m * side k ≡ (2 * a + 1) * side k
      mid = ap (λ z. z * side k) e

      pub pair : First le n (2 * a * side k) ((2 * a + 2) * side k) (winner (m * side k))
      pair = subst (λ z. First le n (2 * a * side k) ((2 * a + 2) * side k) (winner z)) (sym mid) (c.above k a (omega arith) (omega (arith, mid, c.climb.low)))

      -- n takes the place of the winner
      pub enter-wins : (next : ℕ → ℕ) → le n (winner (m * side k)) → ((j : ℕ) → j ≢ m * side k → next j ≡ winner j) → next (m * side k) ≡ n → Enter le next n (suc k) a n
      enter-wins next h keep here =
          let f = pair in
          let g : First le (n + 1) (2 * a * side k) ((2 * a + 2) * side k) n =
          record {
            low = omega (arith, mid, c.climb.low);
            high = omega (arith, mid, c.climb.high);
            used = omega arith;
            least = λ j p q r. ⊎_elim
                (λ z. let o : n ≡ j = omega arith in subst (le n) o (same n))
                (λ z. trans n (winner (m * side k)) j h (f.least j p q z))
                (order n j);
          } in
          record {
            climb = climb-up le same trans winner (n + 1) n next k a n g.low g.high (λ j ne. keep j (λ z. ne (z ∙ mid))) (λ y. subst (λ z. next z ≡ n) mid here)
                c.climb.joins g;
            above = above-carried winner next k a (λ j ne. keep j (λ z. ne (z ∙ mid))) (λ l i y z. c.above l i (omega arith) z);
          }

      -- the winner stays
      pub enter-stays : le (winner (m * side k)) n → Enter le winner n (suc k) a (winner (m * side k))
      enter-stays h =
          record {
            climb = climb-up le same trans winner (n + 1) n winner k a (winner (m * side k)) (omega (arith, mid, c.climb.low)) (omega (arith, mid, c.climb.high))
                (λ j ne. refl) (λ y. ap winner (sym mid)) c.climb.joins (first_more (2 * a * side k) ((2 * a + 2) * side k) (winner (m * side k)) pair h);
            above = λ l i y z. c.above l i (omega arith) z;
          }

  -- so do all above it, and the root
  module _ (winner : ℕ → ℕ) where
    rest : (f k m u : ℕ) → n < k + f → u < n → Enter le winner n k m u → Tree le winner (n + 1)
    rest zero k m u h b c = (climb-done le same trans winner (n + 1) n k m u c.climb (omega arith) (omega (arith, side-above k))).0
    rest (suc f) k m u h b c =
        ⊎_elim
        (λ (e : m ≡ 2 * (m / 2)). rest f (suc k) (m / 2) u (omega arith) b (enter-past winner k m u (m / 2) c e))
        (λ (e : m ≡ 2 * (m / 2) + 1).
        let i : m * side k ≡ (2 * (m / 2) + 1) * side k = ap (λ z. z * side k) e in
        let g = pair winner k m u (m / 2) c e in
        let v = winner (m * side k) in
        let to-u : le v u = g.least u (omega (arith, i, c.climb.wins.low)) (omega (arith, i, c.climb.wins.high)) b in
        let to-n : le v n = trans v u n to-u (c.climb.wins.least n c.climb.low c.climb.high (omega arith)) in
        rest f (suc k) (m / 2) v (omega arith) g.used (enter-stays winner k m u (m / 2) c e to-n))
        (halves m)
      where
        halves : (m : ℕ) → (m ≡ 2 * (m / 2)) ⊎ (m ≡ 2 * (m / 2) + 1)
        halves m = ⊎_elim (λ z. inl (omega arith)) (λ z. inr (omega arith)) (order m (2 * (m / 2)))

    pub enter-stop : (k m u root : ℕ) → Enter le winner n k m u → u < n → First le n 0 n root → Tree le winner (n + 1) × First le (n + 1) 0 (n + 1) root
    enter-stop k m u root c b f =
        let h : le u n = c.climb.wins.least n c.climb.low c.climb.high (omega arith) in
        let g : First le n 0 (n + 1) root = first_past le same trans n 0 n (n + 1) root f (omega arith) (omega arith) in
        (rest (n + 1) k m u (omega arith) b c, first_more 0 (n + 1) root g (trans root u n (f.least u (omega arith) b b) h))
