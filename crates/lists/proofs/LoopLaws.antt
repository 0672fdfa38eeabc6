-- Loops over the indices from i up to n: over what `f` gives at each, and such as test each. At the end nothing is left, a turn takes the first of what is
-- left, and an invariant says that what is left gives the whole. Where a test of each index agrees with a test of a list's entries, so do the two over all.
use mathlib.Core.Path.{◌≡◌, refl, ap, ap₂, ◌∙◌}
use mathlib.Core.Bool.{Bool, true, false, ◌&&◌, ◌||◌}
use mathlib.Core.List.{List, [], ◌∷◌, ◌++◌, map, map-append}
use Prim.Native.Nat.{ℕ, zero, suc, ◌+◌, ◌-◌, ◌≤◌, ◌<◌}
use native.Mathlib.Omega.{arith}
use native.Mathlib.Nat.{sub-zero}
use native.Mathlib.Numerals.{add-one}
use lib.ListN.{length, get_or, length-map}
use Rattle.lists.specs.Tests.{up_from, every, any}
use Rattle.lists.proofs.MemberLaws.{length-up_from}

up_from-snoc : (i n : ℕ) → up_from i (suc n) ≡ up_from i n ++ ((i + n) ∷ [])
unfolding up_from
up_from-snoc i zero = ap (λ x. x ∷ []) (omega arith)
up_from-snoc i (suc n) =
    let e : suc i + n ≡ i + suc n = omega arith in
    ap (λ l. i ∷ l) (up_from-snoc (suc i) n ∙ ap (λ x. up_from (suc i) n ++ (x ∷ [])) e)

module _ {A : Type 0} (f : ℕ → A) where
  -- what f gives from i up to n
  abbrev pub gives : ℕ → ℕ → List A
  gives i n = map f (up_from i (n - i))

  pub gives-done : (i n : ℕ) → n ≤ i → gives i n ≡ []
  unfolding up_from
  gives-done i n h =
      let e : n - i ≡ 0 = omega arith in
      rw e

  pub gives-step : (i n : ℕ) → i < n → gives i n ≡ f i ∷ gives (i + 1) n
  unfolding up_from
  gives-step i n h =
      let e : n - i ≡ suc (n - (i + 1)) = omega arith in
      rw (e, add-one)

  pub map-up_from-more : (n : ℕ) → map f (up_from 0 (n + 1)) ≡ map f (up_from 0 n) ++ (f n ∷ [])
  map-up_from-more n =
      let e : 0 + n ≡ n = omega arith in
      ap (map f) (ap (up_from 0) (add-one n) ∙ up_from-snoc 0 n ∙ ap (λ x. up_from 0 n ++ (x ∷ [])) e) ∙ map-append f (up_from 0 n) (n ∷ [])

  pub length-map-up_from : (i n : ℕ) → length (map f (up_from i n)) ≡ n
  length-map-up_from i n = length-map (up_from i n) f ∙ length-up_from i n

  pub get_or-map-up_from : (i n j : ℕ) (d : A) → j < n → get_or (map f (up_from i n)) j d ≡ f (i + j)
  unfolding up_from
  get_or-map-up_from i zero j d h = absurd (omega arith)
  get_or-map-up_from i (suc n) zero d h = ap f (omega arith)
  get_or-map-up_from i (suc n) (suc j) d h = get_or-map-up_from (suc i) n j d (omega arith) ∙ ap f (omega arith)

  pub map-up_from-cong : (g : ℕ → A) (i n : ℕ) → ((j : ℕ) → i ≤ j → j < i + n → f j ≡ g j) → map f (up_from i n) ≡ map g (up_from i n)
  unfolding up_from
  map-up_from-cong g i zero h = refl
  map-up_from-cong g i (suc n) h = cc (h i (omega arith) (omega arith), map-up_from-cong g (suc i) n (λ j a b. h j (omega arith) (omega arith)))

-- ---- a test at each index from i up to n

-- the indices that are left
abbrev pub rest : ℕ → ℕ → List ℕ
rest n j = up_from j (n - j)

module _ (p : ℕ → Bool) (i n : ℕ) where
  rest-step : i < n → rest n i ≡ i ∷ rest n (i + 1)
  unfolding up_from
  rest-step h =
      let e : n - i ≡ suc (n - (i + 1)) = omega arith in
      rw (e, add-one)

  rest-done : n ≤ i → rest n i ≡ []
  unfolding up_from
  rest-done h =
      let e : n - i ≡ 0 = omega arith in
      rw e

  pub each-done : n ≤ i → every p (rest n i) ≡ true
  unfolding every
  each-done h = ap (every p) (rest-done h)

  pub each_step : i < n → p i ≡ true → every p (rest n i) ≡ every p (rest n (i + 1))
  unfolding every
  each_step h e = rw (rest-step h, e)

  pub each-stop : i < n → p i ≡ false → every p (rest n i) ≡ false
  unfolding every
  each-stop h e = rw (rest-step h, e)

  pub one-done : n ≤ i → any p (rest n i) ≡ false
  unfolding any
  one-done h = ap (any p) (rest-done h)

  pub one-step : i < n → p i ≡ false → any p (rest n i) ≡ any p (rest n (i + 1))
  unfolding any
  one-step h e = rw (rest-step h, e)

  pub one-stop : i < n → p i ≡ true → any p (rest n i) ≡ true
  unfolding any
  one-stop h e = rw (rest-step h, e)

pub from_first : (f : List ℕ → Bool) (n : ℕ) → f (up_from 0 (n - 0)) ≡ f (up_from 0 n)
from_first f n = rw sub-zero

-- ---- indices in a list's place

module _ {A : Type 0} (f : A → Bool) (p : ℕ → Bool) (d : A) where
  pub every-at : (l : List A) (i : ℕ) → ((j : ℕ) → j < length l → p (i + j) ≡ f (get_or l j d)) → every p (up_from i (length l)) ≡ every f l
  unfolding every up_from
  every-at [] i h = refl
  every-at (x ∷ l) i h =
      let here : p i ≡ f x = ap p (omega arith) ∙ h 0 (omega arith) in
      ap₂ ◌&&◌ here (every-at l (suc i) (λ j b. ap p (omega arith) ∙ h (suc j) (omega arith)))

  pub any_at : (l : List A) (i : ℕ) → ((j : ℕ) → j < length l → p (i + j) ≡ f (get_or l j d)) → any p (up_from i (length l)) ≡ any f l
  unfolding any up_from
  any_at [] i h = refl
  any_at (x ∷ l) i h =
      let here : p i ≡ f x = ap p (omega arith) ∙ h 0 (omega arith) in
      ap₂ ◌||◌ here (any_at l (suc i) (λ j b. ap p (omega arith) ∙ h (suc j) (omega arith)))
