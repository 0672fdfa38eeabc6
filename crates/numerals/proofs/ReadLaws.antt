-- The steps of a read: a digit at place i is the first of the digits from there on, and the value and the count of what is left give those of
-- the whole. A value only grows with further digits, so once it is too large there is no number.
use mathlib.Core.Path.{◌≡◌, sym, ◌∙◌}
use mathlib.Core.Bool.{true, false, not, and-false}
use mathlib.Core.List.{List, [], ◌∷◌}
use mathlib.Core.Logic.{⊎_elim}
use mathlib.Core.Option.{none, some}
use Prim.Native.Nat.{ℕ, ◌+◌, ◌-◌, ◌*◌, ◌≤◌, ◌<◌}
use native.Mathlib.Numerals.{add-one}
use native.Mathlib.Omega.{arith}
use lib.ListN.{length, get_or, drop, drop_of_length-le, get_or-eq_default}
use lib.Seq.{drop-cons}
use borrow.Author.Tests.{lt-leb}
use Rattle.lists.proofs.Cases.{cases, order}
use Rattle.numerals.specs.Decimal.{most_number, is_digit, digits, value_after, value, well_formed, number_of, number}
use Rattle.numerals.proofs.DecimalLaws.{digit-e, well-formed-lead, number-of, value_grows}

module _ (l : List ℕ) (i : ℕ) where
  -- past the end stands no digit
  pub digit-past : length l ≤ i → is_digit (get_or l i 0) ≡ false
  digit-past h = rw (get_or-eq_default l 0 h)

  pub digit-in : is_digit (get_or l i 0) ≡ true → i < length l
  digit-in d =
      ⊎_elim
      (λ w.
      let e = digit-past w in
      absurd (let z : ◌≡◌ {A = ℕ} 0 1 = cc in omega arith))
      (λ w. w)
      (order (length l) i)

  pub digits-none : is_digit (get_or l i 0) ≡ false → digits (drop i l) ≡ []
  unfolding digits
  digits-none d = ⊎_elim (λ w. rw (drop_of_length-le l w)) (λ w. rw (drop-cons l i 0 w, d)) (order (length l) i)

  pub digits_more : is_digit (get_or l i 0) ≡ true → digits (drop i l) ≡ get_or l i 0 ∷ digits (drop (i + 1) l)
  unfolding digits
  digits_more d = rw (drop-cons l i 0 (digit-in d), d, add-one i)

  pub value-more : (n : ℕ) → is_digit (get_or l i 0) ≡ true → value_after n (digits (drop i l)) ≡ value_after (n * 10 + (get_or l i 0 - 48)) (digits (drop (i + 1) l))
  unfolding value_after
  value-more n d = rw (digits_more d)

  pub length_more : is_digit (get_or l i 0) ≡ true → length (digits (drop i l)) ≡ 1 + length (digits (drop (i + 1) l))
  length_more d = rw (digits_more d) (omega arith)

  -- ---- no zero leads

  pub formed-none : is_digit (get_or l i 0) ≡ false → well_formed (digits (drop i l)) ≡ false
  unfolding well_formed
  formed-none d = rw (digits-none d)

  pub formed-lead : is_digit (get_or l i 0) ≡ true → (get_or l i 0 ≡ 48 → ⊥) → well_formed (digits (drop i l)) ≡ true
  formed-lead d ne =
      let r = digit-e (get_or l i 0) d in
      let g : 49 ≤ get_or l i 0 = ⊎_elim (λ o. absurd (ne (omega arith))) (λ o. o) (order (get_or l i 0) 48) in
      rw (digits_more d) (well-formed-lead (get_or l i 0 ∷ digits (drop (i + 1) l)) g)

pub formed-zero : (l : List ℕ) (i : ℕ) → is_digit (get_or l i 0) ≡ true → get_or l i 0 ≡ 48 → well_formed (digits (drop i l)) ≡ not (is_digit (get_or l (i + 1) 0))
unfolding well_formed
formed-zero l i d z =
    ⊎_elim
    (λ e. rw (digits_more l i d, digits_more l (i + 1) e, z, e))
    (λ e. rw (digits_more l i d, digits-none l (i + 1) e, e))
    (cases (is_digit (get_or l (i + 1) 0)))

-- ---- no number

pub number-none : (l : List ℕ) → well_formed (digits l) ≡ false → number l ≡ none
unfolding number number_of
number-none l w = rw w

pub number-large : (l : List ℕ) → most_number < value (digits l) → number l ≡ none
unfolding number number_of
number-large l h = rw (lt-leb (value (digits l)) most_number h, and-false (well_formed (digits l)))

-- ---- the loop over the digits from place `at` on, at place i with the number n so far

module _ (l : List ℕ) (at n i : ℕ) (v : value_after n (digits (drop i l)) ≡ value (digits (drop at l))) where
  pub read-large : is_digit (get_or l i 0) ≡ true → most_number < n * 10 + (get_or l i 0 - 48) → none ≡ number (drop at l)
  read-large d h =
      sym (number-large (drop at l) (omega (arith, v, value-more l i n d, value_grows (n * 10 + (get_or l i 0 - 48)) (digits (drop (i + 1) l)))))

  pub read_done : well_formed (digits (drop at l)) ≡ true → is_digit (get_or l i 0) ≡ false → n ≤ most_number → i + length (digits (drop i l)) ≡ at + length (digits (drop at l)) → some (record { is = n; takes = i - at }) ≡ number (drop at l)
  unfolding value_after
  read_done w d h k =
      let e = digits-none l i d in
      let x : n ≡ value (digits (drop at l)) = rw e at v in
      let y : i - at ≡ length (digits (drop at l)) = omega (arith, rw e at k) in
      sym (number-of (drop at l) w (omega arith) ∙ rw (x, y))
