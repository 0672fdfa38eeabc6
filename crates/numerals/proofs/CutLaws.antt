-- What stands past place c of a text changes nothing of the number at its front, where c is 11 or more. The digits at the front of the text cut at c are the first c of
-- its digits. Where these are not all, there are at least eleven digits both times, and so many are no number: either a zero leads, or their value is at least 10 ^ 10,
-- since each digit after the first makes it ten times as large. By the same a number takes at most ten bytes.
use mathlib.Core.Path.{◌≡◌, refl, sym, ap, ◌∙◌}
use mathlib.Core.Bool.{and-false}
use mathlib.Core.List.{List, [], ◌∷◌}
use mathlib.Core.Logic.{⊎_elim}
use mathlib.Core.Option.{none, some}
use Prim.Native.Nat.{ℕ, zero, suc, ◌+◌, ◌-◌, ◌*◌, ◌^◌, ◌≤◌, ◌<◌}
use native.Mathlib.Nat.{pow-suc, zero-add}
use native.Mathlib.Omega.{arith}
use lib.Dec.{eqb}
use lib.ListN.{length, get_or, take}
use lib.Seq.{length-take-le, take_all}
use borrow.Author.Tests.{eqb-false, lt-leb}
use Rattle.lists.proofs.Cases.{cases, order}
use Rattle.numerals.specs.Decimal.{most_number, is_digit, digits, value_after, value, well_formed, Number, number_of, number}
use Rattle.numerals.proofs.DecimalLaws.{digit-e, value_grows, number-e}

-- ---- eleven digits are no number

-- k more digits make a number of 10 ^ m or more one of 10 ^ (k + m) or more
tens : (k m n : ℕ) (ds : List ℕ) → k ≤ length ds → 10 ^ m ≤ n → 10 ^ (k + m) ≤ value_after n ds
unfolding value_after
tens zero m n ds h g = rw zero-add (omega (arith, value_grows n ds))
tens (suc k) m n [] h g = absurd (omega arith)
tens (suc k) m n (b ∷ ds) h g =
    let e : suc k + m ≡ k + suc m = omega arith in
    rw e (tens k (suc m) (n * 10 + (b - 48)) ds (omega arith) (omega (arith, pow-suc 10 m)))

long-none : (ds : List ℕ) → 11 ≤ length ds → 48 ≤ get_or ds 0 0 → number_of ds ≡ none
unfolding number_of well_formed value value_after
long-none [] h g = absurd (omega arith)
long-none (b ∷ []) h g = absurd (omega arith)
long-none (b ∷ d ∷ ds) h g =
    ⊎_elim
    (λ e. rw e)
    (λ e.
    let lead : 49 ≤ b = ⊎_elim (λ o. absurd (eqb-false b 48 e (omega arith))) (λ o. o) (order b 48) in
    let large : most_number < value (b ∷ d ∷ ds) = omega (arith, tens 10 0 (0 * 10 + (b - 48)) (d ∷ ds) (omega arith) (omega arith)) in
    rw (lt-leb (value (b ∷ d ∷ ds)) most_number large, and-false (well_formed (b ∷ d ∷ ds))))
    (cases (eqb b 48))

digits-lead : (l : List ℕ) → 0 < length (digits l) → 48 ≤ get_or (digits l) 0 0
unfolding digits
digits-lead [] h = absurd (omega arith)
digits-lead (b ∷ l) h = ⊎_elim (λ e. rw e (digit-e b e).0) (λ e. absurd (omega (arith, rw e at h))) (cases (is_digit b))

number-long : (l : List ℕ) → 11 ≤ length (digits l) → number l ≡ none
unfolding number
number-long l h = long-none (digits l) h (digits-lead l (omega arith))

pub number-takes : (l : List ℕ) (n : Number) → number l ≡ some n → n.takes ≤ 10
number-takes l n h =
    ⊎_elim
    (λ w. omega (arith, (number-e l n h).3))
    (λ w.
    let z : ◌≡◌ {A = ℕ} 0 1 = cc (number-long l w) in
    absurd (omega arith))
    (order (length (digits l)) 10)

-- ---- the number of a text that is cut

digits-cut : (c : ℕ) (l : List ℕ) → digits (take c l) ≡ take c (digits l)
unfolding digits
digits-cut zero l = refl
digits-cut (suc c) [] = refl
digits-cut (suc c) (b ∷ l) = ⊎_elim (λ e. rw e (ap (λ x. b ∷ x) (digits-cut c l))) (λ e. rw e) (cases (is_digit b))

pub number_cut : (c : ℕ) (l : List ℕ) → 11 ≤ c → number (take c l) ≡ number l
unfolding number
number_cut c l h =
    ⊎_elim
    (λ w. ap number_of (digits-cut c l ∙ take_all c (digits l) w))
    (λ w.
    let n : length (digits (take c l)) ≡ c = ap length (digits-cut c l) ∙ length-take-le c (digits l) (omega arith) in
    number-long (take c l) (omega arith) ∙ sym (number-long l (omega arith)))
    (order (length (digits l)) c)
