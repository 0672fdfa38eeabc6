-- Records of a fixed size in bytes, one after the other: a field is an offset and a width in its record. Two fields do not
-- meet where their offsets lie apart, or their records are two. Side conditions on offsets and sizes are tests, which compute
-- on numerals, so that `simp` closes them. Then: numbers in a part of a list, and what a store leaves of its front and rest.
use mathlib.Core.Path.{◌≡◌, refl, ◌∙◌}
use mathlib.Core.Bool.{Bool, true, false, ◌||◌}
use mathlib.Core.List.{List, [], ◌∷◌, ◌++◌}
use mathlib.Core.Logic.{◌≢◌, ◌⊎◌, inl, inr, ⊎_elim}
use Prim.Native.Nat.{ℕ, zero, suc, ◌+◌, ◌*◌, ◌/◌, ◌%◌, ◌^◌, ◌≤◌, ◌<◌}
use native.Mathlib.Nat.{add_assoc, mul-le-mul_right}
use native.Mathlib.Omega.{arith}
use lib.Dec.{leb}
use lib.ListN.{length, get_or, set, take, drop, get_or-append}
use lib.Seq.{get_or-take, get_or-drop, take-set-le, drop-set-lt}
use borrow.Author.Tests.{leb-true}
use Rattle.lists.proofs.Cases.{order}
use Rattle.words.specs.Number.{num, put}
use Rattle.words.proofs.NumberLaws.{num-cong, length-put, num-put-other, num-put-same}

-- k bytes at offset o and m at offset p do not meet
abbrev pub apart : ℕ → ℕ → ℕ → ℕ → Bool
apart o k p m = leb (p + m) o || leb (o + k) p

or_cases : (a b : Bool) → (a || b) ≡ true → (a ≡ true) ⊎ (b ≡ true)
or_cases true b h = inl refl
or_cases false b h = inr h

-- another field of the record
pub num-put-near : (k m : ℕ) (l : List ℕ) (b o p v : ℕ) → apart o k p m ≡ true → num m (put k l (b + o) v) (b + p) ≡ num m l (b + p)
num-put-near k m l b o p v h =
    num-put-other k m l (b + o) (b + p) v
    (⊎_elim (λ w. inl (omega (arith, leb-true (p + m) o w))) (λ w. inr (omega (arith, leb-true (o + k) p w)))
    (or_cases (leb (p + m) o) (leb (o + k) p) h))

-- a field of another record of s bytes
pub num-put-far : (s k m : ℕ) (l : List ℕ) (i j o p v : ℕ) → i ≢ j → leb (o + k) s ≡ true → leb (p + m) s ≡ true
    → num m (put k l (i * s + o) v) (j * s + p) ≡ num m l (j * s + p)
num-put-far s k m l i j o p v ne ho hp =
    num-put-other k m l (i * s + o) (j * s + p) v
    (⊎_elim
    (λ w. inr (omega (arith, leb-true (o + k) s ho, leb-true (p + m) s hp, mul-le-mul_right {m = suc i} {n = j} s (omega arith))))
    (λ w. inl (omega (arith, leb-true (o + k) s ho, leb-true (p + m) s hp, mul-le-mul_right {m = suc j} {n = i} s (omega arith))))
    (order i j))

-- the field itself, in a record of s bytes; `in-put` carries the room over the other stores
pub num-put-here : (s k : ℕ) (l : List ℕ) (b o v : ℕ) → leb (o + k) s ≡ true → b + s ≤ length l → v < 2 ^ (8 * k) → num k (put k l (b + o) v) (b + o) ≡ v
num-put-here s k l b o v ho h lt = num-put-same k l (b + o) v (omega (arith, leb-true (o + k) s ho)) lt

pub in-put : (n k : ℕ) (l : List ℕ) (at v : ℕ) → n ≤ length l → n ≤ length (put k l at v)
in-put n k l at v h = rw length-put h

-- the same for any number of stores: the room is an equation, so `simp` rewrites it by `length-put` as deep as they go
pub num-put-in : (s k : ℕ) (l : List ℕ) (b o v : ℕ) → leb (o + k) s ≡ true → leb (b + s) (length l) ≡ true → v < 2 ^ (8 * k) → num k (put k l (b + o) v) (b + o) ≡ v
num-put-in s k l b o v ho h lt = num-put-here s k l b o v ho (leb-true (b + s) (length l) h) lt

-- ---- a number in a part of a list

pub num-take : (k n : ℕ) (l : List ℕ) (at : ℕ) → at + k ≤ n → num k (take n l) at ≡ num k l at
num-take k n l at h = num-cong k (take n l) l at at (λ j i. get_or-take n l (at + j) 0 (omega arith))

pub num-drop : (k n : ℕ) (l : List ℕ) (at : ℕ) → num k (drop n l) at ≡ num k l (n + at)
num-drop k n l at = num-cong k (drop n l) l at (n + at) (λ j i. rw (add_assoc n at j) (get_or-drop n l (at + j) 0))

pub num-append-left : (k : ℕ) (l m : List ℕ) (at : ℕ) → at + k ≤ length l → num k (l ++ m) at ≡ num k l at
num-append-left k l m at h = num-cong k (l ++ m) l at at (λ j i. get_or-append l m 0 (at + j) (omega arith))

-- ---- what a store leaves

-- the list before its place
pub take_put : (n k : ℕ) (l : List ℕ) (at v : ℕ) → n ≤ at → take n (put k l at v) ≡ take n l
unfolding put
take_put n zero l at v h = refl
take_put n (suc k) l at v h =
    take-set-le n (put k l at v) (at + k) (v / 2 ^ (8 * k) % 256) (omega arith) ∙ take_put n k l at v h

-- the list after its place
pub drop-put : (n k : ℕ) (l : List ℕ) (at v : ℕ) → at + k ≤ n → drop n (put k l at v) ≡ drop n l
unfolding put
drop-put n zero l at v h = refl
drop-put n (suc k) l at v h =
    drop-set-lt n (put k l at v) (at + k) (v / 2 ^ (8 * k) % 256) (omega arith) ∙ drop-put n k l at v (omega arith)

-- bytes
bytes-set : (l : List ℕ) (i a : ℕ) → a < 256 → ((j : ℕ) → get_or l j 0 < 256) → (j : ℕ) → get_or (set l i a) j 0 < 256
bytes-set [] i a s h j = h j
bytes-set (x ∷ l) zero a s h zero = s
bytes-set (x ∷ l) zero a s h (suc j) = h (suc j)
bytes-set (x ∷ l) (suc i) a s h zero = h zero
bytes-set (x ∷ l) (suc i) a s h (suc j) = bytes-set l i a s (λ n. h (suc n)) j

pub bytes-put : (k : ℕ) (l : List ℕ) (at v : ℕ) → ((j : ℕ) → get_or l j 0 < 256) → (j : ℕ) → get_or (put k l at v) j 0 < 256
unfolding put
bytes-put zero l at v h = h
bytes-put (suc k) l at v h = bytes-set (put k l at v) (at + k) (v / 2 ^ (8 * k) % 256) (omega arith) (bytes-put k l at v h)
