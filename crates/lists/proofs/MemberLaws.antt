-- Members of lists: of `up_from`, `flat_map`, of a list without repeats; the parts of a list before and after a member; and
-- that a list without repeats is no longer than one that has all its members.
use mathlib.Core.Path.{◌≡◌, refl, sym, ap, subst, ◌∙◌}
use mathlib.Core.Logic.{◌⊎◌, inl, inr, ⊎_elim}
use mathlib.Core.List.Memᴰ
use mathlib.Core.List.{List, [], ◌∷◌, ◌++◌, flat_map, Memᴰ}
use mathlib.Core.Bool.{not}
use Prim.Native.Nat.{ℕ, zero, suc, ◌<◌, ◌≤◌, ◌+◌}
use native.Mathlib.Omega.{arith}
use native.Mathlib.Decide.{ℕ_discrete}
use lib.Dec.{T, T_not, not_T}
use lib.ListN.{length}
use Rattle.lists.specs.Tests.{has, distinct, up_from}
use Rattle.lists.proofs.TestLaws.{and_i, and_l, and_r, has→mem, mem→has}

-- ---- the numbers of a range

pub up_from-e : (i n x : ℕ) → Memᴰ x (up_from i n) → x < i + n
unfolding up_from
up_from-e i zero x m = absurd (Memᴰ.not-nil m)
up_from-e i (suc n) x m = go (λ k. up_from-e (suc i) n x k) (Memᴰ.cases_cons m)
  where
    go : (Memᴰ x (up_from (suc i) n) → x < suc i + n) → (x ≡ i) ⊎ Memᴰ x (up_from (suc i) n) → x < i + suc n
    go below (inl e) = omega arith
    go below (inr k) = omega (arith, below k)

pub up_from-i : (i n x : ℕ) → i ≤ x → x < i + n → Memᴰ x (up_from i n)
unfolding up_from
up_from-i i zero x h k = absurd (omega arith)
up_from-i i (suc n) x h k = go (λ l m. up_from-i (suc i) n x l m) (ℕ_discrete x i)
  where
    go : (suc i ≤ x → x < suc i + n → Memᴰ x (up_from (suc i) n)) → Dec (x ≡ i) → Memᴰ x (i ∷ up_from (suc i) n)
    go below (yes e) = Memᴰ.head e
    go below (no d) = Memᴰ.tail (below (omega arith) (omega arith))

pub length-up_from : (i n : ℕ) → length (up_from i n) ≡ n
unfolding up_from
length-up_from i zero = refl
length-up_from i (suc n) = ap suc (length-up_from (suc i) n)

-- ---- `flat_map`

module _ {A B : Type 0} (f : A → List B) where
  pub flat_map-e : (y : B) (xs : List A) → Memᴰ y (flat_map f xs) → (x : A) × Memᴰ x xs × Memᴰ y (f x)
  unfolding flat_map
  flat_map-e y [] m = absurd (Memᴰ.not-nil m)
  flat_map-e y (x ∷ xs) m = go (λ k. flat_map-e y xs k) (Memᴰ.append_cases (f x) m)
    where
      go : (Memᴰ y (flat_map f xs) → (z : A) × Memᴰ z xs × Memᴰ y (f z)) → Memᴰ y (f x) ⊎ Memᴰ y (flat_map f xs)
          → (z : A) × Memᴰ z (x ∷ xs) × Memᴰ y (f z)
      go below (inl k) = (x, Memᴰ.head refl, k)
      go below (inr k) = let w = below k in (w.0, Memᴰ.tail w.1, w.2)

  pub flat_map-i : {y : B} {x : A} {xs : List A} → Memᴰ x xs → Memᴰ y (f x) → Memᴰ y (flat_map f xs)
  unfolding flat_map
  flat_map-i {y} (Memᴰ.head {x = z} {xs = zs} e) m = Memᴰ.append_left (flat_map f zs) (subst (λ w. Memᴰ y (f w)) e m)
  flat_map-i (Memᴰ.tail {x = z} {xs = zs} k) m = Memᴰ.append_right (f z) (flat_map-i k m)

-- ---- the parts of a list

-- what stands in a list stands between two parts of it
pub parts_at : {A : Type 0} {w : A} {l : List A} → Memᴰ w l → (xs : List A) × (ys : List A) × (l ≡ xs ++ (w ∷ ys))
parts_at (Memᴰ.head {x = z} {xs = zs} e) = ([], zs, ap (λ y. y ∷ zs) (sym e))
parts_at (Memᴰ.tail {x = z} {xs = zs} m) = let k = parts_at m in (z ∷ k.0, k.1, ap (λ l. z ∷ l) k.2)

-- a list is empty, or has a last element
pub last_of : (p : List ℕ) → (p ≡ []) ⊎ ((x : List ℕ) × (a : ℕ) × (p ≡ x ++ (a ∷ [])))
last_of [] = inl refl
last_of (b ∷ p) = inr (go (last_of p))
  where
    go : (p ≡ []) ⊎ ((x : List ℕ) × (a : ℕ) × (p ≡ x ++ (a ∷ []))) → (x : List ℕ) × (a : ℕ) × (b ∷ p ≡ x ++ (a ∷ []))
    go (inl e) = ([], b, ap (λ l. b ∷ l) e)
    go (inr w) = (b ∷ w.0, w.1, ap (λ l. b ∷ l) w.2)

-- ---- distinct lists

pub distinct-front : (xs ys : List ℕ) → T (distinct (xs ++ ys)) → T (distinct xs)
unfolding distinct
distinct-front [] ys h = tt
distinct-front (x ∷ xs) ys h =
    and_i (not (has x xs)) (distinct xs)
    (not_T (has x xs) (λ k. T_not (has x (xs ++ ys)) (and_l (not (has x (xs ++ ys))) (distinct (xs ++ ys)) h) (mem→has (Memᴰ.append_left ys (has→mem x xs k)))))
    (distinct-front xs ys (and_r (not (has x (xs ++ ys))) (distinct (xs ++ ys)) h))

-- what comes later is new
pub distinct-new : (xs : List ℕ) (y : ℕ) (ys : List ℕ) → T (distinct (xs ++ (y ∷ ys))) → Memᴰ y xs → ⊥
unfolding distinct
distinct-new [] y ys h m = Memᴰ.not-nil m
distinct-new (x ∷ xs) y ys h m = go (λ k. distinct-new xs y ys (and_r (not (has x (xs ++ (y ∷ ys)))) (distinct (xs ++ (y ∷ ys))) h) k) (Memᴰ.cases_cons m)
  where
    go : (Memᴰ y xs → ⊥) → (y ≡ x) ⊎ Memᴰ y xs → ⊥
    go below (inl e) =
        T_not (has x (xs ++ (y ∷ ys))) (and_l (not (has x (xs ++ (y ∷ ys)))) (distinct (xs ++ (y ∷ ys))) h) (mem→has (Memᴰ.append_right xs (Memᴰ.head (sym e))))
    go below (inr k) = below k

pub distinct_more : (xs : List ℕ) (y : ℕ) → T (distinct xs) → (Memᴰ y xs → ⊥) → T (distinct (xs ++ (y ∷ [])))
unfolding distinct has
distinct_more [] y h n = tt
distinct_more (x ∷ xs) y h n =
    and_i (not (has x (xs ++ (y ∷ [])))) (distinct (xs ++ (y ∷ [])))
    (not_T (has x (xs ++ (y ∷ []))) (λ k. go (Memᴰ.append_cases xs (has→mem x (xs ++ (y ∷ [])) k))))
    (distinct_more xs y (and_r (not (has x xs)) (distinct xs) h) (λ m. n (Memᴰ.tail m)))
  where
    go : Memᴰ x xs ⊎ Memᴰ x (y ∷ []) → ⊥
    go (inl m) = T_not (has x xs) (and_l (not (has x xs)) (distinct xs) h) (mem→has m)
    go (inr m) = n (Memᴰ.head (sym (Memᴰ.eq_of_singleton m)))

-- ---- the pigeonhole

-- a list with no number twice, whose numbers all stand in another, is no longer than it
drop-one : (x : ℕ) (ys : List ℕ) → Memᴰ x ys → (zs : List ℕ) × (suc (length zs) ≡ length ys) × ((y : ℕ) → Memᴰ y ys → (y ≡ x) ⊎ Memᴰ y zs)
drop-one x [] m = absurd (Memᴰ.not-nil m)
drop-one x (y ∷ ys) m = go (λ k. drop-one x ys k) (Memᴰ.cases_cons m)
  where
    Found : List ℕ → Type 0
    Found l = (zs : List ℕ) × (suc (length zs) ≡ length l) × ((z : ℕ) → Memᴰ z l → (z ≡ x) ⊎ Memᴰ z zs)

    here : x ≡ y → (z : ℕ) → (z ≡ y) ⊎ Memᴰ z ys → (z ≡ x) ⊎ Memᴰ z ys
    here e z (inl k) = inl (k ∙ sym e)
    here e z (inr k) = inr k

    there : (zs : List ℕ) → ((z : ℕ) → Memᴰ z ys → (z ≡ x) ⊎ Memᴰ z zs) → (z : ℕ) → (z ≡ y) ⊎ Memᴰ z ys → (z ≡ x) ⊎ Memᴰ z (y ∷ zs)
    there zs f z (inl k) = inr (Memᴰ.head k)
    there zs f z (inr k) = ⊎_elim inl (λ l. inr (Memᴰ.tail l)) (f z k)

    go : (Memᴰ x ys → Found ys) → (x ≡ y) ⊎ Memᴰ x ys → Found (y ∷ ys)
    go below (inl e) = (ys, refl, λ z k. here e z (Memᴰ.cases_cons k))
    go below (inr k) = let w = below k in (y ∷ w.0, ap suc w.1, λ z l. there w.0 w.2 z (Memᴰ.cases_cons l))

pub distinct-length : (xs ys : List ℕ) → T (distinct xs) → ((x : ℕ) → Memᴰ x xs → Memᴰ x ys) → length xs ≤ length ys
unfolding distinct
distinct-length [] ys d f = omega arith
distinct-length (x ∷ xs) ys d f =
    let w = drop-one x ys (f x (Memᴰ.head refl)) in
    let h = distinct-length xs w.0 (and_r (not (has x xs)) (distinct xs) d) (λ z m. go z m (w.2 z (f z (Memᴰ.tail m)))) in
    omega (arith, w.1)
  where
    go : {zs : List ℕ} (z : ℕ) → Memᴰ z xs → (z ≡ x) ⊎ Memᴰ z zs → Memᴰ z zs
    go z m (inl e) = absurd (T_not (has x xs) (and_l (not (has x xs)) (distinct xs) d) (mem→has (Memᴰ.cast (sym e) m)))
    go z m (inr k) = k
