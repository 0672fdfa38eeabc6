-- Digits written from the last to the first: what is yet to be written, and then what stands, is the whole. A turn moves the last digit of the
-- first part to the front of the second; at the end one digit is left, and it goes to the first place.
use mathlib.Core.Path.{◌≡◌, refl, sym, ap, ◌∙◌}
use mathlib.Core.List.{List, [], ◌∷◌, ◌++◌, append-nil}
use mathlib.Core.Logic.{⊎_elim}
use Prim.Native.Nat.{ℕ, suc, ◌+◌, ◌-◌, ◌/◌, ◌%◌, ◌^◌, ◌≤◌, ◌<◌}
use native.Mathlib.Omega.{arith}
use lib.ListN.{length, set, drop, length-append, length-set}
use lib.Seq.{drop-cons, drop-length, get_or-set_same, drop-set-lt, append_snoc}
use Rattle.numerals.specs.Decimal.{decimal}
use Rattle.lists.proofs.Cases.{order}
use Rattle.numerals.proofs.DecimalLaws.{decimal-one, decimal-more, decimal-length}

pub back_start : (l s : List ℕ) → l ++ drop (length s) s ≡ l
back_start l s = rw (drop-length s) (append-nil l)

-- a digit b before what stands
put_back : (p s : List ℕ) (b k : ℕ) → k ≡ suc (length p) → k ≤ length s → p ++ drop (k - 1) (set s (k - 1) b) ≡ p ++ (b ∷ []) ++ drop k s
put_back p s b k m h =
    let j : k - 1 ≡ length p = omega arith in
    let i : length p < length (set s (length p) b) = simp length-set (omega arith) in
    rw (j, m, drop-cons (set s (length p) b) (length p) 0 i, get_or-set_same s (length p) b 0 (omega arith), drop-set-lt (suc (length p)) s (length p) b (omega arith))
    (sym (append_snoc p b (drop (suc (length p)) s)))

module _ (s : List ℕ) (w k : ℕ) (n : k ≡ length (decimal w)) where
  pub write-less : 10 ≤ w → w < 2 ^ 64 → k ≡ 1 + length (decimal (w / 10))
  write-less h g = n ∙ rw (decimal-more w h g) (simp length-append (omega arith))

  pub write_step : 10 ≤ w → w < 2 ^ 64 → k ≤ length s → decimal (w / 10) ++ drop (k - 1) (set s (k - 1) (48 + w % 10)) ≡ decimal w ++ drop k s
  write_step h g r = rw (decimal-more w h g) (put_back (decimal (w / 10)) s (48 + w % 10) k (omega (arith, write-less h g)) r)

  pub write-last : w < 10 → 1 ≤ length s → set s 0 (48 + w) ≡ decimal w ++ drop k s
  write-last h r =
      let e = decimal-one w h in
      let m : k ≡ 1 = n ∙ ap length e in
      rw (e, m) (front s r)
    where
      front : (l : List ℕ) → 1 ≤ length l → set l 0 (48 + w) ≡ (48 + w) ∷ drop 1 l
      front [] q = absurd (omega arith)
      front (x ∷ l) q = refl

-- ---- the turns of a loop over the places but the first, from the last on: k places are left, and the digits of w are for them

pub record Left (s : List ℕ) (v w k : ℕ) : Type 0 where
  pub less : w ≤ v
  pub as_many : k ≡ length (decimal w)
  pub whole : decimal w ++ drop k s ≡ decimal v

pub left_start : (s : List ℕ) (v : ℕ) → length s ≡ length (decimal v) → Left s v v (length s)
left_start s v e = record { less = omega arith; as_many = e; whole = back_start (decimal v) s }

pub left-less : (s : List ℕ) (v w k : ℕ) → Left s v w k → 1 < k → k ≤ length s → v < 2 ^ 64 → Left (set s (k - 1) (48 + w % 10)) v (w / 10) (k - 1)
left-less s v w k a p r h =
    ⊎_elim
    (λ z. absurd (omega (arith, a.as_many, ap length (decimal-one w (omega arith)))))
    (λ z. record {
      less = omega (arith, a.less);
      as_many = omega (arith, write-less s w k a.as_many z (omega (arith, a.less)));
      whole = write_step s w k a.as_many z (omega (arith, a.less)) r ∙ a.whole;
    })
    (order w 9)

-- one place is left for one digit
pub left-one : (s : List ℕ) (v w k : ℕ) → Left s v w k → k ≤ 1 → v < 2 ^ 64 → w < 10
left-one s v w k a o h =
    ⊎_elim
    (λ z. omega arith)
    (λ z. absurd (omega (arith, write-less s w k a.as_many z (omega (arith, a.less)), decimal-length (w / 10))))
    (order w 9)

pub left-last : (s : List ℕ) (v w k : ℕ) → Left s v w k → k ≤ 1 → v < 2 ^ 64 → 1 ≤ length s → set s 0 (48 + w) ≡ decimal v
left-last s v w k a o h r = write-last s w k a.as_many (left-one s v w k a o h) r ∙ a.whole
