-- Sums over lists, and how often a number stands in a list: an account of lists by what stands in them, in which order does not count.
use mathlib.Core.Path.{◌≡◌, refl, sym, ap, subst}
use mathlib.Core.Logic.{◌⊎◌, inl, inr}
use mathlib.Core.List.{List, [], ◌∷◌, ◌++◌, Memᴰ}
use mathlib.Core.Bool.{Bool, true, false, not, cond}
use Prim.Native.Nat.{ℕ, ◌+◌, ◌<◌, ◌≤◌}
use native.Mathlib.Omega.{arith}
use native.Mathlib.Decide.{ℕ_discrete}
use lib.Dec.{T, eqb, eqb→eq, T_not}
use Rattle.lists.specs.Tests.{has, distinct}
use Rattle.lists.proofs.TestLaws.{and_l, and_r, eq→eqb, has→mem, mem→has}
use Rattle.lists.proofs.MemberLaws.{parts_at}
use Rattle.lists.proofs.Cases.{order}
use Rattle.pair.specs.Walked.{total, same, count}

pub total-append : (w : ℕ → ℕ) (xs ys : List ℕ) → total w (xs ++ ys) ≡ total w xs + total w ys
unfolding total
total-append w [] ys = omega arith
total-append w (x ∷ xs) ys = omega (arith, total-append w xs ys)

pub same-is : (x : ℕ) → same x x ≡ 1
unfolding same
same-is x = go (eqb x x) (eq→eqb x x refl)
  where
    go : (b : Bool) → T b → ◌≡◌ {A = ℕ} (cond b 1 0) 1
    go true h = refl
    go false h = absurd h

pub same_not : (x y : ℕ) → (x ≡ y → ⊥) → same x y ≡ 0
unfolding same
same_not x y n = go (eqb x y) (λ h. n (eqb→eq x y h))
  where
    go : (b : Bool) → (T b → ⊥) → ◌≡◌ {A = ℕ} (cond b 1 0) 0
    go true h = absurd (h tt)
    go false h = refl

pub count-nil : (x : ℕ) → count x [] ≡ 0
unfolding count
count-nil x = refl

pub count-cons : (x y : ℕ) (ys : List ℕ) → count x (y ∷ ys) ≡ same x y + count x ys
unfolding count
count-cons x y ys = refl

pub count-append : (x : ℕ) (ys zs : List ℕ) → count x (ys ++ zs) ≡ count x ys + count x zs
unfolding count
count-append x ys zs = total-append (same x) ys zs

-- with y between two parts
pub count_at : (x : ℕ) (ys : List ℕ) (y : ℕ) (zs : List ℕ) → count x (ys ++ (y ∷ zs)) ≡ count x ys + same x y + count x zs
count_at x ys y zs = omega (arith, count-append x ys (y ∷ zs), count-cons x y zs)

pub mem→count : {x : ℕ} {ys : List ℕ} → Memᴰ x ys → 1 ≤ count x ys
mem→count {x} (Memᴰ.head {x = y} {xs = ys} e) = omega (arith, count-cons x y ys, subst (λ z. same x z ≡ 1) e (same-is x))
mem→count {x} (Memᴰ.tail {x = y} {xs = ys} m) = omega (arith, count-cons x y ys, mem→count m)

pub count→mem : (x : ℕ) (ys : List ℕ) → 1 ≤ count x ys → Memᴰ x ys
count→mem x [] h = absurd (omega (arith, count-nil x))
count→mem x (y ∷ ys) h = go (λ k. count→mem x ys k) (ℕ_discrete x y)
  where
    go : (1 ≤ count x ys → Memᴰ x ys) → Dec (x ≡ y) → Memᴰ x (y ∷ ys)
    go below (yes e) = Memᴰ.head e
    go below (no n) = Memᴰ.tail (below (omega (arith, count-cons x y ys, same_not x y n)))

pub not-mem→count : (x : ℕ) (ys : List ℕ) → (Memᴰ x ys → ⊥) → count x ys ≡ 0
not-mem→count x ys n = go (order (count x ys) 0)
  where
    go : (count x ys ≤ 0) ⊎ (0 < count x ys) → count x ys ≡ 0
    go (inl h) = omega arith
    go (inr h) = absurd (n (count→mem x ys (omega arith)))

-- x stands in the list or not
pub on? : (P : List ℕ) (x : ℕ) → Memᴰ x P ⊎ (Memᴰ x P → ⊥)
on? P x = go (has x P) refl
  where
    go : (b : Bool) → has x P ≡ b → Memᴰ x P ⊎ (Memᴰ x P → ⊥)
    go true e = inl (has→mem x P (subst T (sym e) tt))
    go false e = inr (λ m. subst T e (mem→has m))

-- no number stands twice
pub distinct→count : (x : ℕ) (ys : List ℕ) → T (distinct ys) → count x ys ≤ 1
unfolding distinct
distinct→count x [] d = omega (arith, count-nil x)
distinct→count x (y ∷ ys) d = go (distinct→count x ys (and_r (not (has y ys)) (distinct ys) d)) (ℕ_discrete x y)
  where
    go : count x ys ≤ 1 → Dec (x ≡ y) → count x (y ∷ ys) ≤ 1
    go h (yes e) =
        let n : count x ys ≡ 0 = not-mem→count x ys (λ m. T_not (has y ys) (and_l (not (has y ys)) (distinct ys) d) (mem→has (subst (λ z. Memᴰ z ys) e m))) in
        omega (arith, count-cons x y ys, subst (λ z. same x z ≡ 1) e (same-is x))
    go h (no n) = omega (arith, count-cons x y ys, same_not x y n)

-- A sum over a list is at most that over another which has each number of weight at least as often.
pub total-part : (w : ℕ → ℕ) (xs ys : List ℕ) → ((x : ℕ) → 0 < w x → count x xs ≤ count x ys) → total w xs ≤ total w ys
unfolding total
total-part w [] ys h = omega arith
total-part w (x ∷ xs) ys h = go (λ zs k. total-part w xs zs k) (order (w x) 0)
  where
    cut : ((zs : List ℕ) → ((y : ℕ) → 0 < w y → count y xs ≤ count y zs) → total w xs ≤ total w zs)
        → (us : List ℕ) × (vs : List ℕ) × (ys ≡ us ++ (x ∷ vs)) → 0 < w x → w x + total w xs ≤ total w ys
    cut below k l =
        let us = k.0 in
        let vs = k.1 in
        let m : total w xs ≤ total w (us ++ vs) =
        below (us ++ vs) (λ y p. omega (arith, h y p, count-cons y x xs, ap (count y) k.2, count_at y us x vs, count-append y us vs)) in
        omega (arith, ap (total w) k.2, total-append w us (x ∷ vs), total-append w us vs)

    go : ((zs : List ℕ) → ((y : ℕ) → 0 < w y → count y xs ≤ count y zs) → total w xs ≤ total w zs)
        → (w x ≤ 0) ⊎ (0 < w x) → w x + total w xs ≤ total w ys
    go below (inl z) = omega (arith, below ys (λ y p. omega (arith, h y p, count-cons y x xs)))
    go below (inr l) =
        cut below (parts_at (count→mem x ys (omega (arith, h x l, count-cons x x xs, same-is x)))) l
