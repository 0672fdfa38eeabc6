-- The library's words for a test at each of a list, and for the indices from i on, beside those here: each pair is one recursion. So what a chain of an
-- iterator's methods gives is what a definition says by `every`, `any`, `keep` and `up_from`.
use mathlib.Core.Path.{◌≡◌, refl, ap, subst, ◌∙◌}
use mathlib.Core.Bool.{Bool, true, false, ◌&&◌, ◌||◌, cond}
use mathlib.Core.List.{List, [], ◌∷◌}
use Prim.Native.Nat.{ℕ, zero, suc, ◌<◌}
use native.Mathlib.Omega.{arith}
use lib.ListN.{length}
use native.Mathlib.Numerals.{add-one}
use Rattle.std.specs.List.{AllWithin, list_all, list_any, filter, range_with_len}
use Rattle.std.proofs.lemmas.List.FromFn.{length-range_with_len, get_or-range_with_len}
use Rattle.lists.specs.Tests.{up_from, every, any, cons_if, keep}

module _ {A : Type 0} (p : A → Bool) where
  pub all-every : (l : List A) → list_all p l ≡ every p l
  unfolding every
  all-every [] = refl
  all-every (x ∷ l) = ap (λ b. p x && b) (all-every l)

  pub any-any : (l : List A) → list_any p l ≡ any p l
  unfolding any
  any-any [] = refl
  any-any (x ∷ l) = ap (λ b. p x || b) (any-any l)

  kept : (b : Bool) (x : A) (l : List A) → cond b (x ∷ l) l ≡ cons_if b x l
  unfolding cons_if
  kept true x l = refl
  kept false x l = refl

  pub filter-keep : (l : List A) → filter p l ≡ keep p l
  unfolding keep
  filter-keep [] = refl
  filter-keep (x ∷ l) = ap (λ m. cond (p x) (x ∷ m) m) (filter-keep l) ∙ kept (p x) x (keep p l)

pub range-up_from : (i n : ℕ) → range_with_len i n ≡ up_from i n
unfolding up_from
range-up_from i zero = refl
range-up_from i (suc n) = ap (λ l. i ∷ l) (ap (λ j. range_with_len j n) (add-one i) ∙ range-up_from (suc i) n)

module _ (p : ℕ → Bool) (n : ℕ) where
  pub all-each : list_all p (range_with_len 0 n) ≡ every p (up_from 0 n)
  all-each = ap (list_all p) (range-up_from 0 n) ∙ all-every p (up_from 0 n)

  pub any-each : list_any p (range_with_len 0 n) ≡ any p (up_from 0 n)
  any-each = ap (list_any p) (range-up_from 0 n) ∙ any-any p (up_from 0 n)

  pub filter-each : filter p (range_with_len 0 n) ≡ keep p (up_from 0 n)
  filter-each = ap (filter p) (range-up_from 0 n) ∙ filter-keep p (up_from 0 n)

-- what holds of each of the indices below n
pub each-below : (P : ℕ → Type 0) (n : ℕ) → AllWithin P (range_with_len 0 n) 0 (length (range_with_len 0 n)) → (k : ℕ) → k < n → P k
each-below P n h k b =
    subst P (get_or-range_with_len 0 n k 0 b ∙ omega arith) (h k 0 (omega arith) (omega (arith, length-range_with_len 0 n)))
