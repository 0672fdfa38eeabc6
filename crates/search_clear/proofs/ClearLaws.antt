-- What was cleared is zero, and the rest stays; so of two lists that differ in working bytes only the same is left.
use mathlib.Core.Path.{◌≡◌, refl, sym, subst, ap, ◌∙◌}
use mathlib.Core.Logic.{◌⊎◌, inl, inr, ⊎_elim}
use mathlib.Core.Bool.{Bool, true, false, ◌||◌}
use mathlib.Core.List.{List}
use Prim.Native.Nat.{ℕ, zero, suc, ◌+◌, ◌-◌, ◌*◌, ◌/◌, ◌%◌, ◌^◌, ◌≤◌, ◌<◌}
use native.Mathlib.Nat.{add-zero, zero-div, mul-le-mul_right}
use native.Mathlib.Numerals.{add-one}
use native.Mathlib.Omega.{arith}
use native.Mathlib.Decide.{ℕ_discrete}
use lib.Dec.{T, leb}
use lib.ListN.{length, get_or, set, drop, length-set, get_or-eq_default}
use lib.Seq.{get_or-set_same, get_or-set_other, get_or-drop, drop-drop, ext_get_or}
use borrow.Author.Tests.{le-leb}
use Rattle.lists.proofs.Cases.{order}
use Rattle.words.specs.Number.{num, put}
use Rattle.words.proofs.NumberLaws.{length-put, get_or-put-other}
use Rattle.words.proofs.RecordLaws.{apart}
use Rattle.labels.specs.Field.{label_bytes}
use Rattle.search_queue.specs.Only.{Only}
use Rattle.search_queue.proofs.OnlyLaws.{only_same, only-trans, only-wide, only-put}
use Rattle.search_clear.specs.Clear.{clear_work}

-- ---- zeros put

put-zero : (k : ℕ) (l : List ℕ) (at i : ℕ) → at ≤ i → i < at + k → get_or (put k l at 0) i 0 ≡ 0
unfolding put
put-zero zero l at i a b = absurd (omega arith)
put-zero (suc k) l at i a b = go (ℕ_discrete i (at + k)) (λ h. put-zero k l at i a h)
  where
    z : 0 / 2 ^ (8 * k) % 256 ≡ 0
    z = rw (zero-div (2 ^ (8 * k)))

    go : Dec (i ≡ at + k) → (i < at + k → get_or (put k l at 0) i 0 ≡ 0) → get_or (set (put k l at 0) (at + k) (0 / 2 ^ (8 * k) % 256)) i 0 ≡ 0
    go (no ne) h = get_or-set_other (put k l at 0) (at + k) i (0 / 2 ^ (8 * k) % 256) 0 ne ∙ h (⊎_elim (λ w. absurd (ne (omega arith))) (λ w. w) (order (at + k) i))
    go (yes e) h = ⊎_elim outside inside (order (length (put k l at 0)) (at + k))
      where
        outside : length (put k l at 0) ≤ at + k → get_or (set (put k l at 0) (at + k) (0 / 2 ^ (8 * k) % 256)) i 0 ≡ 0
        outside w = get_or-eq_default (set (put k l at 0) (at + k) (0 / 2 ^ (8 * k) % 256)) 0 {n = i} (omega (arith, length-set (put k l at 0) (at + k) (0 / 2 ^ (8 * k) % 256), e))

        inside : at + k < length (put k l at 0) → get_or (set (put k l at 0) (at + k) (0 / 2 ^ (8 * k) % 256)) i 0 ≡ 0
        inside w = rw e (get_or-set_same (put k l at 0) (at + k) (0 / 2 ^ (8 * k) % 256) 0 w ∙ z)

-- ---- label by label

pub clear-more : (n : ℕ) (l m o p r : List ℕ) → m ≡ clear_work n l → o ≡ put 4 m (n * label_bytes + 20) 0 → p ≡ put 8 o (n * label_bytes + 20 + 4) 0 → r ≡ put 8 p (n * label_bytes + 20 + 12) 0
    → r ≡ clear_work (n + 1) l
unfolding clear_work
clear-more n l m o p r e f g h =
    let y : n * label_bytes + 20 + 4 ≡ n * label_bytes + 24 = omega arith in
    let z : n * label_bytes + 20 + 12 ≡ n * label_bytes + 32 = omega arith in
    rw (add-one n)
    (h ∙ ap (λ at. put 8 p at 0) z ∙ ap (λ b. put 8 b (n * label_bytes + 32) 0)
    (g ∙ ap (λ at. put 8 o at 0) y ∙ ap (λ b. put 8 b (n * label_bytes + 24) 0) (f ∙ ap (λ b. put 4 b (n * label_bytes + 20) 0) e)))

pub clear_none : (l : List ℕ) → l ≡ clear_work 0 l
unfolding clear_work
clear_none l = refl

pub length-clear : (n : ℕ) (l : List ℕ) → length (clear_work n l) ≡ length l
unfolding clear_work
length-clear zero l = refl
length-clear (suc n) l =
    length-put 8 (put 8 (put 4 (clear_work n l) (n * label_bytes + 20) 0) (n * label_bytes + 24) 0) (n * label_bytes + 32) 0 ∙ length-put 8 (put 4 (clear_work n l) (n * label_bytes + 20) 0) (n * label_bytes + 24) 0
    ∙ length-put 4 (clear_work n l) (n * label_bytes + 20) 0 ∙ length-clear n l

only-more : {o k n : ℕ} {l m : List ℕ} (r : ℕ) → Only o k n l m → n ≤ r → Only o k r l m
only-more {o} {k} {n} {l} {m} r f h =
    let e : n * label_bytes + (r * label_bytes - n * label_bytes) ≡ r * label_bytes = omega (arith, mul-le-mul_right {m = n} {n = r} label_bytes h) in
    record {
      long = f.long;
      field = f.field;
      past = subst (λ z. drop z m ≡ drop z l) e
          (sym (drop-drop (r * label_bytes - n * label_bytes) (n * label_bytes) m) ∙ ap (drop (r * label_bytes - n * label_bytes)) f.past ∙ drop-drop (r * label_bytes - n * label_bytes) (n * label_bytes) l);
    }

-- only working bytes change
pub clear-only : (n : ℕ) (l : List ℕ) → Only 20 20 n l (clear_work n l)
unfolding clear_work
clear-only zero l = only_same 20 20 0 l
clear-only (suc n) l =
    only-trans (only-more (suc n) (clear-only n l) (omega arith))
    (only-trans (only-wide 20 4 (only-put 20 4 (suc n) (clear_work n l) n 0 refl (omega arith)) refl refl)
    (only-trans (only-wide 24 8 (only-put 24 8 (suc n) (put 4 (clear_work n l) (n * label_bytes + 20) 0) n 0 refl (omega arith)) refl refl)
    (only-wide 32 8 (only-put 32 8 (suc n) (put 8 (put 4 (clear_work n l) (n * label_bytes + 20) 0) (n * label_bytes + 24) 0) n 0 refl (omega arith)) refl refl)))

clear_zero : (n : ℕ) (l : List ℕ) (i p : ℕ) → i < n → 20 ≤ p → p < 40 → get_or (clear_work n l) (i * label_bytes + p) 0 ≡ 0
unfolding clear_work
clear_zero zero l i p h a b = absurd (omega arith)
clear_zero (suc n) l i p h a b = go (ℕ_discrete i n) (order 32 p) (order 24 p) (λ k. clear_zero n l i p k a b)
  where
    first : List ℕ
    first = put 4 (clear_work n l) (n * label_bytes + 20) 0

    second : List ℕ
    second = put 8 first (n * label_bytes + 24) 0

    go : Dec (i ≡ n) → (32 ≤ p) ⊎ (p < 32) → (24 ≤ p) ⊎ (p < 24) → (i < n → get_or (clear_work n l) (i * label_bytes + p) 0 ≡ 0)
        → get_or (put 8 (put 8 (put 4 (clear_work n l) (n * label_bytes + 20) 0) (n * label_bytes + 24) 0) (n * label_bytes + 32) 0) (i * label_bytes + p) 0 ≡ 0
    go (yes e) (inl w) v k = put-zero 8 second (n * label_bytes + 32) (i * label_bytes + p) (omega arith) (omega arith)
    go (yes e) (inr w) (inl v) k =
        get_or-put-other 8 second (n * label_bytes + 32) 0 (i * label_bytes + p) (inl (omega arith))
        ∙ put-zero 8 first (n * label_bytes + 24) (i * label_bytes + p) (omega arith) (omega arith)
    go (yes e) (inr w) (inr v) k =
        get_or-put-other 8 second (n * label_bytes + 32) 0 (i * label_bytes + p) (inl (omega arith))
        ∙ get_or-put-other 8 first (n * label_bytes + 24) 0 (i * label_bytes + p) (inl (omega arith))
        ∙ put-zero 4 (clear_work n l) (n * label_bytes + 20) (i * label_bytes + p) (omega arith) (omega arith)
    go (no ne) w v k =
        let low : i < n = ⊎_elim (λ z. absurd (ne (omega arith))) (λ z. z) (order n i) in
        get_or-put-other 8 second (n * label_bytes + 32) 0 (i * label_bytes + p) (inl (omega arith))
        ∙ get_or-put-other 8 first (n * label_bytes + 24) 0 (i * label_bytes + p) (inl (omega arith))
        ∙ get_or-put-other 4 (clear_work n l) (n * label_bytes + 20) 0 (i * label_bytes + p) (inl (omega arith)) ∙ k low

byte_of : (l : List ℕ) (at : ℕ) → num 1 l at ≡ get_or l at 0
unfolding num
byte_of l at = rw (add-zero at) (omega arith)

-- a byte that is none of the working ones
outside : (p : ℕ) → (p < 20) ⊎ (40 ≤ p) → apart 20 20 p 1 ≡ true
outside p (inl h) = or_left (leb (p + 1) 20) (leb 40 p) (le-leb (p + 1) 20 (omega arith))
  where
    or_left : (a b : Bool) → a ≡ true → (a || b) ≡ true
    or_left true b e = refl
    or_left false b e = absurd (subst T (sym e) tt)
outside p (inr h) = or_right (leb (p + 1) 20) (leb 40 p) (le-leb 40 p h)
  where
    or_right : (a b : Bool) → b ≡ true → (a || b) ≡ true
    or_right true b e = refl
    or_right false b e = e

-- every byte is settled
pub clear-same : (n : ℕ) (l m : List ℕ) → Only 20 20 n l m → clear_work n m ≡ clear_work n l
clear-same n l m o =
    ext_get_or 0 (clear_work n m) (clear_work n l) (length-clear n m ∙ o.long ∙ sym (length-clear n l)) (λ j h. at j (order n (j / label_bytes)) (order 20 (j % label_bytes)) (order 40 (j % label_bytes)))
  where
    f : Only 20 20 n l (clear_work n l)
    f = clear-only n l

    g : Only 20 20 n m (clear_work n m)
    g = clear-only n m

    split : (j : ℕ) → j / label_bytes * label_bytes + j % label_bytes ≡ j
    split j = omega arith

    row : (x y : List ℕ) → Only 20 20 n x y → (j : ℕ) → (j % label_bytes < 20) ⊎ (40 ≤ j % label_bytes) → get_or y j 0 ≡ get_or x j 0
    row x y k j h =
        subst (λ z. get_or y z 0 ≡ get_or x z 0) (split j)
        (sym (byte_of y (j / label_bytes * label_bytes + j % label_bytes))
        ∙ k.field 1 (j / label_bytes) (j % label_bytes) (outside (j % label_bytes) h) (le-leb (j % label_bytes + 1) label_bytes (omega arith))
        ∙ byte_of x (j / label_bytes * label_bytes + j % label_bytes))

    past : (x y : List ℕ) → Only 20 20 n x y → (j : ℕ) → n ≤ j / label_bytes → get_or y j 0 ≡ get_or x j 0
    past x y k j h =
        let e : n * label_bytes + (j - n * label_bytes) ≡ j = omega (arith, mul-le-mul_right {m = n} {n = j / label_bytes} label_bytes h) in
        subst (λ z. get_or y z 0 ≡ get_or x z 0) e (sym (get_or-drop (n * label_bytes) y (j - n * label_bytes) 0) ∙ ap (λ z. get_or z (j - n * label_bytes) 0) k.past ∙ get_or-drop (n * label_bytes) x (j - n * label_bytes) 0)

    -- a byte of a row, kept through all three
    kept : (j : ℕ) → (j % label_bytes < 20) ⊎ (40 ≤ j % label_bytes) → get_or (clear_work n m) j 0 ≡ get_or (clear_work n l) j 0
    kept j w = row m (clear_work n m) g j w ∙ row l m o j w ∙ sym (row l (clear_work n l) f j w)

    at : (j : ℕ) → (n ≤ j / label_bytes) ⊎ (j / label_bytes < n) → (20 ≤ j % label_bytes) ⊎ (j % label_bytes < 20) → (40 ≤ j % label_bytes) ⊎ (j % label_bytes < 40)
        → get_or (clear_work n m) j 0 ≡ get_or (clear_work n l) j 0
    at j (inl h) w v = past m (clear_work n m) g j h ∙ past l m o j h ∙ sym (past l (clear_work n l) f j h)
    at j (inr h) (inr w) v = kept j (inl w)
    at j (inr h) (inl w) (inl v) = kept j (inr v)
    at j (inr h) (inl w) (inr v) =
        subst (λ z. get_or (clear_work n m) z 0 ≡ get_or (clear_work n l) z 0) (split j) (clear_zero n m (j / label_bytes) (j % label_bytes) h w v ∙ sym (clear_zero n l (j / label_bytes) (j % label_bytes) h w v))
