-- What a test keeps of a range of numbers: of a run, nothing is lost up to the next that passes, and that one comes first.
use mathlib.Core.Path.{◌≡◌, refl, sym, ap, subst, ◌∙◌}
use mathlib.Core.Logic.{◌↔◌}
use mathlib.Core.Bool.{Bool, true, false}
use mathlib.Core.List.{[], ◌∷◌, ◌++◌, append-nil}
use Prim.Native.Nat.{ℕ, zero, suc, ◌+◌, ◌-◌, ◌≤◌, ◌<◌}
use native.Mathlib.Omega.{arith}
use native.Mathlib.Numerals.{add-one}
use lib.Dec.{T}
use Rattle.lists.specs.Tests.{up_from, keep, cons_if}
use Rattle.lists.proofs.TestLaws.{keep_append}

up_from-append : (i m n : ℕ) → up_from i (m + n) ≡ up_from i m ++ up_from (i + m) n
unfolding up_from
up_from-append i zero n =
    let e : 0 + n ≡ n = omega arith in
    let f : i + 0 ≡ i = omega arith in
    rw (e, f)
up_from-append i (suc m) n =
    let e : suc m + n ≡ suc (m + n) = omega arith in
    let f : i + suc m ≡ suc i + m = omega arith in
    rw (e, f) (ap (λ l. i ∷ l) (up_from-append (suc i) m n))

-- a test that passes at each of a range keeps it, one that passes at none keeps nothing
keep-each : (p : ℕ → Bool) (i n : ℕ) → ((a : ℕ) → i ≤ a → a < i + n → T (p a)) → keep p (up_from i n) ≡ up_from i n
unfolding keep up_from
keep-each p i zero h = refl
keep-each p i (suc n) h = go (p i) (h i (omega arith) (omega arith)) (keep-each p (suc i) n (λ a k m. h a (omega arith) (omega arith)))
  where
    go : (b : Bool) → T b → keep p (up_from (suc i) n) ≡ up_from (suc i) n → cons_if b i (keep p (up_from (suc i) n)) ≡ i ∷ up_from (suc i) n
    go true k e = ap (λ l. i ∷ l) e
    go false k e = absurd k

keep-no : (p : ℕ → Bool) (i n : ℕ) → ((a : ℕ) → i ≤ a → a < i + n → T (p a) → ⊥) → keep p (up_from i n) ≡ []
unfolding keep up_from
keep-no p i zero h = refl
keep-no p i (suc n) h = go (p i) (h i (omega arith) (omega arith)) (keep-no p (suc i) n (λ a k m. h a (omega arith) (omega arith)))
  where
    go : (b : Bool) → (T b → ⊥) → keep p (up_from (suc i) n) ≡ [] → cons_if b i (keep p (up_from (suc i) n)) ≡ []
    go true k e = absurd (k tt)
    go false k e = e

-- of a range, those that lie in a part of it
pub keep-range : (p : ℕ → Bool) (lo hi n : ℕ) → ((a : ℕ) → T (p a) ↔ ((lo ≤ a) × (a < hi))) → lo ≤ hi → hi ≤ n → keep p (up_from 0 n) ≡ up_from lo (hi - lo)
keep-range p lo hi n w h k =
    let e : n ≡ lo + ((hi - lo) + (n - hi)) = omega arith in
    let f : 0 + lo ≡ lo = omega arith in
    let g : lo + (hi - lo) ≡ hi = omega arith in
    ap (λ x. keep p (up_from 0 x)) e
    ∙ ap (keep p) (up_from-append 0 lo ((hi - lo) + (n - hi)))
    ∙ keep_append p (up_from 0 lo) (up_from (0 + lo) ((hi - lo) + (n - hi)))
    ∙ ap (λ l. l ++ keep p (up_from (0 + lo) ((hi - lo) + (n - hi)))) (keep-no p 0 lo (λ a i j t. let q = (w a).0 t in omega arith))
    ∙ ap (λ x. keep p (up_from x ((hi - lo) + (n - hi)))) f
    ∙ ap (keep p) (up_from-append lo (hi - lo) (n - hi))
    ∙ keep_append p (up_from lo (hi - lo)) (up_from (lo + (hi - lo)) (n - hi))
    ∙ ap (λ l. l ++ keep p (up_from (lo + (hi - lo)) (n - hi))) (keep-each p lo (hi - lo) (λ a i j. (w a).1 (i, omega arith)))
    ∙ ap (λ l. up_from lo (hi - lo) ++ l) (keep-no p (lo + (hi - lo)) (n - hi) (λ a i j t. let q = (w a).0 t in omega arith))
    ∙ append-nil (up_from lo (hi - lo))

-- what a run keeps from place a on: nothing is lost up to the next usable arc, and that one comes first
pub keep-skip : (usable : ℕ → Bool) (a b e : ℕ) → a ≤ b → b ≤ e → ((j : ℕ) → a ≤ j → j < b → usable j ≡ false) → keep usable (up_from a (e - a)) ≡ keep usable (up_from b (e - b))
keep-skip usable a b e h k skips =
    let f : e - a ≡ (b - a) + (e - b) = omega arith in
    let g : a + (b - a) ≡ b = omega arith in
    ap (λ x. keep usable (up_from a x)) f
    ∙ ap (keep usable) (up_from-append a (b - a) (e - b))
    ∙ keep_append usable (up_from a (b - a)) (up_from (a + (b - a)) (e - b))
    ∙ ap (λ l. l ++ keep usable (up_from (a + (b - a)) (e - b))) (keep-no usable a (b - a) (λ j i m t. subst T (skips j i (omega arith)) t))
    ∙ ap (λ x. keep usable (up_from x (e - b))) g

pub keep-first : (usable : ℕ → Bool) (a e : ℕ) → a < e → usable a ≡ true → keep usable (up_from a (e - a)) ≡ a ∷ keep usable (up_from (a + 1) (e - (a + 1)))
unfolding keep up_from
keep-first usable a e h t =
    let f : e - a ≡ suc (e - (a + 1)) = omega arith in
    rw (f, t, add-one)

pub keep-end : (usable : ℕ → Bool) (a e : ℕ) → e ≤ a → keep usable (up_from a (e - a)) ≡ []
unfolding keep up_from
keep-end usable a e h =
    let f : e - a ≡ 0 = omega arith in
    rw f

-- a test that passes everywhere keeps everything
pub keep-every : (i n : ℕ) (usable : ℕ → Bool) → ((a : ℕ) → usable a ≡ true) → keep usable (up_from i n) ≡ up_from i n
keep-every i n usable h = keep-each usable i n (λ a j k. subst T (sym (h a)) tt)
