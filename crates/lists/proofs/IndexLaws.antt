-- `first_at`: the laws of a loop that looks for an index (done, step, stop), and what it says. `tab`: its length, its entries,
-- one entry more, one entry changed.
use mathlib.Core.Path.{◌≡◌, refl, ap}
use mathlib.Core.Bool.{Bool, true, false}
use mathlib.Core.List.{List, [], ◌∷◌, ◌++◌}
use mathlib.Core.Logic.{◌⊎◌, ⊎_elim, ◌≢◌}
use Prim.Native.Nat.{ℕ, zero, suc, ◌+◌, ◌-◌, ◌≤◌, ◌<◌}
use native.Mathlib.Omega.{arith}
use native.Mathlib.Numerals.{add-one}
use lib.ListN.{length, get_or, set, take, replicate}
use Rattle.lists.specs.Index.{tab, first_at}
use Rattle.lists.proofs.Cases.{cases, order}

module _ (p : ℕ → Bool) where
  -- ---- a loop from i up to n: the invariant is `first_at p (n - i) i ≡ first_at p n 0`
  pub first_done : (n i : ℕ) → i ≡ n → first_at p (n - i) i ≡ n
  unfolding first_at
  first_done n i h =
      let e : n - i ≡ 0 = omega arith in
      rw e h

  pub first_step : (n i : ℕ) → i < n → p i ≡ false → first_at p (n - i) i ≡ first_at p (n - (i + 1)) (i + 1)
  unfolding first_at
  first_step n i h z =
      let e : n - i ≡ suc (n - (i + 1)) = omega arith in
      rw (e, z)

  pub first-stop : (n i : ℕ) → i < n → p i ≡ true → first_at p (n - i) i ≡ i
  unfolding first_at
  first-stop n i h z =
      let e : n - i ≡ suc (n - (i + 1)) = omega arith in
      rw (e, z)

  -- ---- what it says

  pub first-ge : (n i : ℕ) → i ≤ first_at p n i
  unfolding first_at
  first-ge zero i = omega arith
  first-ge (suc n) i = ⊎_elim (λ e. rw e (omega arith)) (λ e. rw e (omega (arith, first-ge n (i + 1)))) (cases (p i))

  pub first-le : (n i : ℕ) → first_at p n i ≤ i + n
  unfolding first_at
  first-le zero i = omega arith
  first-le (suc n) i = ⊎_elim (λ e. rw e (omega arith)) (λ e. rw e (omega (arith, first-le n (i + 1)))) (cases (p i))

  -- nothing else has the two facts below
  pub first-is : (n i r : ℕ) → i ≤ r → r ≤ i + n → ((j : ℕ) → i ≤ j → j < r → p j ≡ false) → (r < i + n → p r ≡ true) → first_at p n i ≡ r
  unfolding first_at
  first-is zero i r h g below at = omega arith
  first-is (suc n) i r h g below at =
      ⊎_elim
      (λ w.
      let e : i ≡ r = omega arith in
      rw (rw (← e) at (at (omega arith))) e)
      (λ w. rw (below i (omega arith) w) (first-is n (i + 1) r (omega arith) (omega arith) (λ j a b. below j (omega arith) b) (λ b. at (omega arith))))
      (order r i)

  -- below it the test is false, and at it it is true
  pub first_below : (n i j : ℕ) → i ≤ j → j < first_at p n i → p j ≡ false
  unfolding first_at
  first_below zero i j h g = absurd (omega arith)
  first_below (suc n) i j h g =
      ⊎_elim
      (λ e. absurd (omega (arith, rw e at g)))
      (λ e.
      ⊎_elim
      (λ w.
      let k : j ≡ i = omega arith in
      rw k e)
      (λ w. first_below n (i + 1) j (omega arith) (rw e at g))
      (order j i))
      (cases (p i))

  pub first-at : (n i : ℕ) → first_at p n i < i + n → p (first_at p n i) ≡ true
  unfolding first_at
  first-at zero i h = absurd (omega arith)
  first-at (suc n) i h = ⊎_elim (λ e. rw e e) (λ e. rw e (first-at n (i + 1) (omega (arith, rw e at h)))) (cases (p i))

-- a test that fires where another does fires no later
pub first-mono : (p q : ℕ → Bool) (n i : ℕ) → ((j : ℕ) → q j ≡ true → p j ≡ true) → first_at p n i ≤ first_at q n i
unfolding first_at
first-mono p q zero i h = omega arith
first-mono p q (suc n) i h =
    ⊎_elim
    (λ e. rw (h i e) (first-ge q (suc n) i))
    (λ e. rw e (⊎_elim (λ f. rw f (omega (arith, first-ge q n (i + 1)))) (λ f. rw f (first-mono p q n (i + 1) h)) (cases (p i))))
    (cases (q i))

module _ {A : Type 0} where
  pub length-tab : (n : ℕ) (f : ℕ → A) → length (tab n f) ≡ n
  length-tab zero f = refl
  length-tab (suc n) f = ap suc (length-tab n (λ i. f (suc i)))

  pub get_or-tab : (n : ℕ) (f : ℕ → A) (i : ℕ) (d : A) → i < n → get_or (tab n f) i d ≡ f i
  get_or-tab zero f i d h = absurd (omega arith)
  get_or-tab (suc n) f zero d h = refl
  get_or-tab (suc n) f (suc i) d h = get_or-tab n (λ j. f (suc j)) i d (omega arith)

  pub tab-cong : (n : ℕ) (f g : ℕ → A) → ((i : ℕ) → i < n → f i ≡ g i) → tab n f ≡ tab n g
  tab-cong zero f g h = refl
  tab-cong (suc n) f g h = cc (h 0 (omega arith), tab-cong n (λ i. f (suc i)) (λ i. g (suc i)) (λ i w. h (suc i) (omega arith)))

  -- one entry more
  tab-suc : (n : ℕ) (f : ℕ → A) → tab (suc n) f ≡ tab n f ++ (f n ∷ [])
  tab-suc zero f = refl
  tab-suc (suc n) f = ap {B = List A} (λ t. f 0 ∷ t) (tab-suc n (λ i. f (suc i)))

  pub tab-more : (n : ℕ) (f : ℕ → A) → tab (n + 1) f ≡ tab n f ++ (f n ∷ [])
  tab-more n f = rw (add-one n) (tab-suc n f)

  -- one entry changed
  pub tab-set : (n : ℕ) (f g : ℕ → A) (i : ℕ) → i < n → ((j : ℕ) → i ≢ j → f j ≡ g j) → tab n f ≡ set (tab n g) i (f i)
  tab-set zero f g i h e = absurd (omega arith)
  tab-set (suc n) f g zero h e = cc (tab-cong n (λ j. f (suc j)) (λ j. g (suc j)) (λ j w. e (suc j) (λ q. omega arith)))
  tab-set (suc n) f g (suc i) h e =
      cc (e 0 (λ q. omega arith), tab-set n (λ j. f (suc j)) (λ j. g (suc j)) i (omega arith) (λ j ne. e (suc j) (λ q. ne (omega arith))))

  -- of one entry again and again, the first m
  pub take-replicate : (m n : ℕ) (x : A) → m ≤ n → take m (replicate n x) ≡ replicate m x
  take-replicate zero n x h = refl
  take-replicate (suc m) zero x h = absurd (omega arith)
  take-replicate (suc m) (suc n) x h = ap {B = List A} (λ l. x ∷ l) (take-replicate m n x (omega arith))
