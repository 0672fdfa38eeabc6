-- Numbers of 64 bits put one after the other: each is read back, and what lies outside is as it was. By induction on the numbers: the first store is an
-- ordinary one, and the others lie behind it.
use mathlib.Core.Path.{◌≡◌, refl, ap, ◌∙◌}
use mathlib.Core.List.{List, [], ◌∷◌, ◌++◌}
use mathlib.Core.Logic.{◌⊎◌, inl, inr, ⊎_elim}
use Prim.Native.Nat.{ℕ, zero, suc, ◌+◌, ◌*◌, ◌^◌, ◌≤◌, ◌<◌}
use native.Mathlib.Omega.{arith}
use native.Mathlib.Numerals.{add-one}
use lib.ListN.{length, get_or, take, drop}
use lib.Seq.{length-take-le, take-suc}
use Rattle.words.specs.Number.{num, put}
use Rattle.words.proofs.NumberLaws.{length-put, num-put-other, num-put-same}
use Rattle.words.proofs.RecordLaws.{drop-put}
use Rattle.labels.specs.Field.{puts}

pub length-puts : (l : List ℕ) (at : ℕ) (xs : List ℕ) → length (puts l at xs) ≡ length l
unfolding puts
length-puts l at [] = refl
length-puts l at (x ∷ xs) = length-puts (put 8 l at x) (at + 8) xs ∙ length-put 8 l at x

-- a number at a place apart is as it was
pub num-puts-other : (m : ℕ) (l : List ℕ) (at : ℕ) (xs : List ℕ) (bt : ℕ) → (bt + m ≤ at) ⊎ (at + 8 * length xs ≤ bt) → num m (puts l at xs) bt ≡ num m l bt
unfolding puts
num-puts-other m l at [] bt h = refl
num-puts-other m l at (x ∷ xs) bt h =
    num-puts-other m (put 8 l at x) (at + 8) xs bt (⊎_elim (λ w. inl (omega arith)) (λ w. inr (omega arith)) h)
    ∙ num-put-other 8 m l at bt x (⊎_elim (λ w. inl w) (λ w. inr (omega arith)) h)

pub drop-puts : (n : ℕ) (l : List ℕ) (at : ℕ) (xs : List ℕ) → at + 8 * length xs ≤ n → drop n (puts l at xs) ≡ drop n l
unfolding puts
drop-puts n l at [] h = refl
drop-puts n l at (x ∷ xs) h = drop-puts n (put 8 l at x) (at + 8) xs (omega arith) ∙ drop-put n 8 l at x (omega arith)

-- each is read back, where it fits
pub num-puts : (l : List ℕ) (at : ℕ) (xs : List ℕ) (r : ℕ) → r < length xs → at + 8 * length xs ≤ length l → ((j : ℕ) → j < length xs → get_or xs j 0 < 2 ^ 64)
    → num 8 (puts l at xs) (at + 8 * r) ≡ get_or xs r 0
unfolding puts
num-puts l at [] r h k b = absurd (omega arith)
num-puts l at (x ∷ xs) zero h k b =
    let e : at + 8 * 0 ≡ at = omega arith in
    ap (num 8 (puts (put 8 l at x) (at + 8) xs)) e ∙ num-puts-other 8 (put 8 l at x) (at + 8) xs at (inl (omega arith))
    ∙ num-put-same 8 l at x (omega arith) (b 0 (omega arith))
num-puts l at (x ∷ xs) (suc r) h k b =
    let e : at + 8 * suc r ≡ at + 8 + 8 * r = omega arith in
    ap (num 8 (puts (put 8 l at x) (at + 8) xs)) e
    ∙ num-puts (put 8 l at x) (at + 8) xs r (omega arith) (omega (arith, length-put 8 l at x)) (λ j w. b (suc j) (omega arith))

-- one more
puts-more : (l : List ℕ) (at : ℕ) (xs : List ℕ) (x : ℕ) → puts l at (xs ++ (x ∷ [])) ≡ put 8 (puts l at xs) (at + 8 * length xs) x
unfolding puts
puts-more l at [] x = ap (λ z. put 8 l z x) (omega arith)
puts-more l at (y ∷ xs) x = puts-more (put 8 l at y) (at + 8) xs x ∙ ap (λ z. put 8 (puts (put 8 l at y) (at + 8) xs) z x) (omega arith)

-- a turn of the loop that puts them
pub puts-turn : (l m : List ℕ) (at bt : ℕ) (xs : List ℕ) (r : ℕ) → r < length xs → m ≡ puts l at (take r xs) → bt ≡ at + 8 * r
    → put 8 m bt (get_or xs r 0) ≡ puts l at (take (r + 1) xs)
puts-turn l m at bt xs r h e b =
    let n : bt ≡ at + 8 * length (take r xs) = omega (arith, length-take-le r xs (omega arith)) in
    rw (add-one r, take-suc xs r 0 h, puts-more l at (take r xs) (get_or xs r 0), n, e)

pub puts_none : (l : List ℕ) (at : ℕ) → l ≡ puts l at []
unfolding puts
puts_none l at = refl
