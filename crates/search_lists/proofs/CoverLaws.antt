-- Covering, by the overlaps that labels hold: every label covers itself, what covers a label covers what that one covers, a candidate too, and it depends on the
-- overlaps of the two labels only.
use mathlib.Core.Path.{◌≡◌, refl, ap₂}
use mathlib.Core.Bool.{Bool}
use mathlib.Core.List.{List, [], ◌∷◌, Memᴰ}
use Prim.Native.Nat.{ℕ, ◌<◌}
use native.Mathlib.Omega.{arith}
use lib.Dec.{T, leb, leb→le, le→leb}
use lib.ListN.{length, get_or}
use Rattle.lists.specs.Tests.{every, up_from}
use Rattle.lists.proofs.TestLaws.{every-e, every-i}
use Rattle.lists.proofs.MemberLaws.{up_from-e}
use Rattle.labels.specs.Field.{overlap_at}
use Rattle.search_lists.specs.Link.{covers_at}
use Rattle.search_lists.specs.Listed.{none_greater}

every-cong : (f g : ℕ → Bool) (xs : List ℕ) → ((x : ℕ) → Memᴰ x xs → f x ≡ g x) → every f xs ≡ every g xs
unfolding every
every-cong f g [] h = refl
every-cong f g (x ∷ xs) h = cc (h x (Memᴰ.head refl), every-cong f g xs (λ y m. h y (Memᴰ.tail m)))

pub covers-cong : (l m : List ℕ) (r k i : ℕ) → ((j : ℕ) → j < r → overlap_at m k j ≡ overlap_at l k j) → ((j : ℕ) → j < r → overlap_at m i j ≡ overlap_at l i j)
    → covers_at m r k i ≡ covers_at l r k i
unfolding covers_at
covers-cong l m r k i ek ei =
    every-cong (λ j. leb (overlap_at m k j) (overlap_at m i j)) (λ j. leb (overlap_at l k j) (overlap_at l i j)) (up_from 0 r)
    (λ j w. let h : j < r = omega (arith, up_from-e 0 r j w) in ap₂ leb (ek j h) (ei j h))

module _ (l : List ℕ) (r : ℕ) where
  abbrev test : ℕ → ℕ → ℕ → Bool
  test k i j = leb (overlap_at l k j) (overlap_at l i j)

  pub covers-refl : (i : ℕ) → T (covers_at l r i i)
  unfolding covers_at
  covers-refl i = every-i (test i i) (up_from 0 r) (λ j m. le→leb (overlap_at l i j) (overlap_at l i j) (omega arith))

  pub covers-trans : (k i h : ℕ) → T (covers_at l r k i) → T (covers_at l r i h) → T (covers_at l r k h)
  unfolding covers_at
  covers-trans k i h a b =
      every-i (test k h) (up_from 0 r)
      (λ j m. le→leb (overlap_at l k j) (overlap_at l h j)
      (omega (arith, leb→le (overlap_at l k j) (overlap_at l i j) (every-e (test k i) a m), leb→le (overlap_at l i j) (overlap_at l h j) (every-e (test i h) b m))))

-- a candidate that a covered label covers
pub none-greater-trans : (l own : List ℕ) (k i : ℕ) → T (covers_at l (length own) k i) → T (none_greater l i own) → T (none_greater l k own)
unfolding covers_at none_greater
none-greater-trans l own k i a b =
    every-i (λ j. leb (overlap_at l k j) (get_or own j 0)) (up_from 0 (length own))
    (λ j m. le→leb (overlap_at l k j) (get_or own j 0)
    (omega (arith, leb→le (overlap_at l k j) (overlap_at l i j) (every-e (test l (length own) k i) a m), leb→le (overlap_at l i j) (get_or own j 0) (every-e (λ x. leb (overlap_at l i x) (get_or own x 0)) b m))))

-- a label that overlaps nothing
pub none-greater-zero : (l own : List ℕ) (k : ℕ) → ((j : ℕ) → j < length own → overlap_at l k j ≡ 0) → T (none_greater l k own)
unfolding none_greater
none-greater-zero l own k z =
    every-i (λ j. leb (overlap_at l k j) (get_or own j 0)) (up_from 0 (length own))
    (λ j m. le→leb (overlap_at l k j) (get_or own j 0) (omega (arith, z j (omega (arith, up_from-e 0 (length own) j m)))))
