-- What is listed at a node tells whether a candidate that ends there is covered: each label there is covered by a listed one, and covering is transitive.
-- A new label takes out what it covers.
use mathlib.Core.Path.{◌≡◌, refl, sym, ap, subst, ◌∙◌}
use mathlib.Core.Bool.{Bool, true, false, not, ◌&&◌}
use mathlib.Core.List.Memᴰ
use mathlib.Core.List.{List, [], ◌∷◌}
use mathlib.Core.Logic.{⊎_elim, ◌≢◌}
use Prim.Native.Nat.{ℕ, zero-le, ◌+◌, ◌<◌}
use native.Mathlib.Omega.{arith}
use lib.Dec.{T, eqb, eqb→eq}
use Rattle.lists.specs.Tests.{any, keep, up_from}
use Rattle.lists.proofs.Cases.{either, order}
use Rattle.lists.proofs.TestLaws.{and_i, and_l, and_r, eq→eqb, any-e, any-i, keep-e, keep-i}
use Rattle.lists.proofs.MemberLaws.{up_from-e, up_from-i}
use Rattle.search_lists.specs.Listed.{Shown}

-- two tests that pass together are one
pub tests_same : (x y : Bool) → (T x → T y) → (T y → T x) → x ≡ y
tests_same true true f g = refl
tests_same true false f g = absurd (f tt)
tests_same false true f g = absurd (g tt)
tests_same false false f g = refl

module _ {end : ℕ → ℕ} {covers : ℕ → ℕ → Bool} where
  -- no label is at this node
  pub shown-none : (n v : ℕ) → ((i : ℕ) → i < n → end i ≢ v) → Shown end covers n v []
  shown-none n v ne = record { sound = λ k m. absurd (Memᴰ.not-nil m); full = λ i h e. absurd (ne i h e) }

  -- a label at another node
  pub shown-other : {n v : ℕ} {ks : List ℕ} → end n ≢ v → Shown end covers n v ks → Shown end covers (n + 1) v ks
  shown-other {n} {v} {ks} ne w =
      record {
        sound = λ k m. let z = w.sound k m in (omega (arith, z.0), z.1);
        full = λ i h e. ⊎_elim
            (λ a.
            let z : i ≡ n = omega arith in
            absurd (ne (ap end (sym z) ∙ e)))
            (λ a. w.full i a e)
            (order n i);
      }

  -- a label at this node
  module _ (reflexive : (i : ℕ) → T (covers i i)) (transitive : (i j k : ℕ) → T (covers i j) → T (covers j k) → T (covers i k)) where
    pub shown-more : {n v : ℕ} {ks : List ℕ} → end n ≡ v → Shown end covers n v ks → Shown end covers (n + 1) v (n ∷ keep (λ k. not (covers n k)) ks)
    shown-more {n} {v} {ks} here w =
        let f : ℕ → Bool = λ k. not (covers n k) in
        record {
          sound = λ k m. ⊎_elim
              (λ z. (omega arith, ap end z ∙ here))
              (λ z. let y = w.sound k (keep-e f k ks z).0 in (omega (arith, y.0), y.1))
              (Memᴰ.cases_cons m);
          full = λ i h e. ⊎_elim
              (λ a.
              let z : n ≡ i = omega arith in
              (n, Memᴰ.head refl, subst (λ x. T (covers n x)) z (reflexive n)))
              (λ a.
              let y = w.full i a e in
              ⊎_elim
              (λ c. (n, Memᴰ.head refl, transitive n y.0 i c y.2))
              (λ c. (y.0, Memᴰ.tail (keep-i f y.1 c), y.2))
              (either (covers n y.0)))
              (order n i);
        }

  -- a test that a label passes, if one that it covers does
  pub shown-any : {n v : ℕ} {ks : List ℕ} (f : ℕ → Bool) → ((k i : ℕ) → T (covers k i) → T (f i) → T (f k)) → Shown end covers n v ks
      → any f ks ≡ any (λ i. eqb (end i) v && f i) (up_from 0 n)
  shown-any {n} {v} {ks} f carry w =
      let g : ℕ → Bool = λ i. eqb (end i) v && f i in
      tests_same (any f ks) (any g (up_from 0 n))
      (λ t.
      let x = any-e f ks t in
      let y = w.sound x.0 x.1 in
      any-i g (up_from-i 0 n x.0 zero-le (omega (arith, y.0))) (and_i (eqb (end x.0) v) (f x.0) (eq→eqb (end x.0) v y.1) x.2))
      (λ t.
      let x = any-e g (up_from 0 n) t in
      let y = w.full x.0 (omega (arith, up_from-e 0 n x.0 x.1)) (eqb→eq (end x.0) v (and_l (eqb (end x.0) v) (f x.0) x.2)) in
      any-i f y.1 (carry y.0 x.0 y.2 (and_r (eqb (end x.0) v) (f x.0) x.2)))

-- the labels read elsewhere, where they say the same
pub shown-cong : {end end' : ℕ → ℕ} {covers covers' : ℕ → ℕ → Bool} {n v : ℕ} {ks : List ℕ} → ((i : ℕ) → i < n → end' i ≡ end i)
    → ((k i : ℕ) → k < n → i < n → covers' k i ≡ covers k i) → Shown end covers n v ks → Shown end' covers' n v ks
shown-cong {end} {end'} {covers} {covers'} {n} {v} {ks} e c w =
    record {
      sound = λ k m. let z = w.sound k m in (z.0, e k z.0 ∙ z.1);
      full = λ i h g.
          let z = w.full i h (sym (e i h) ∙ g) in
          (z.0, z.1, subst T (sym (c z.0 i (w.sound z.0 z.1).0 h)) z.2);
    }
