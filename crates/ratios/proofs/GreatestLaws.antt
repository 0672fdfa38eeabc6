-- `Not-above x y` says that x is at most y as a fraction. It is transitive where the number under the middle one is above 0 (`not-above-trans`). Neither of two is above
-- the greater of them, so the pick only rises (`pick-rises`). A share is not above the pick made with it, so it is not above the last one (`greatest-above`).
use mathlib.Core.Path.{◌≡◌, refl, sym, subst, ◌∙◌}
use mathlib.Core.Bool.{Bool, true, false, cond, not}
use mathlib.Core.List.Memᴰ
use mathlib.Core.List.{List, [], ◌∷◌, ◌++◌, Memᴰ}
use mathlib.Core.Logic.{◌⊎◌, inl, inr, ⊎_elim}
use Prim.Native.Nat.{ℕ, ◌*◌, ◌≤◌, ◌<◌}
use native.Mathlib.Nat.{le_refl, le_of_lt, le_trans, le_of_eq, mul_right_comm, mul-le-mul_right, le_of_mul-le-mul_right}
use lib.Dec.{T, ltb→lt, nltb→le}
use Rattle.net.specs.Net.{Net}
use Rattle.net.specs.Route.{length_of}
use Rattle.ratios.specs.Ratios.{share_with, exceeds, greater_of, greatest_from}
use Rattle.products.specs.declared.Fraction.{Fraction}

-- x is at most y, as fractions.
abbrev pub Not-above : Fraction → Fraction → Type 0
Not-above x y = x.over * y.under ≤ y.over * x.under

pub not-above-trans : (x y z : Fraction) → 0 < y.under → Not-above x y → Not-above y z → Not-above x z
not-above-trans x y z h a b =
    le_of_mul-le-mul_right
    (le_trans (le_of_eq (mul_right_comm x.over z.under y.under))
    (le_trans (mul-le-mul_right z.under a)
    (le_trans (le_of_eq (mul_right_comm y.over x.under z.under))
    (le_trans (mul-le-mul_right x.under b)
    (le_of_eq (mul_right_comm z.over y.under x.under))))))
    h

-- ---- the greater of two

module _ (f x : Fraction) where
  pub greater-cases : (P : Fraction → Type 0) → (f.over * x.under < x.over * f.under → P x) → (x.over * f.under ≤ f.over * x.under → P f) → P (greater_of f x)
  greater-cases P more less = go (exceeds x f) (ltb→lt (f.over * x.under) (x.over * f.under)) (nltb→le (f.over * x.under) (x.over * f.under))
    where
      go : (b : Bool) → (T b → f.over * x.under < x.over * f.under) → (T (not b) → x.over * f.under ≤ f.over * x.under) → P (cond b x f)
      go true h k = more (h tt)
      go false h k = less (k tt)

  greater-above-old : Not-above f (greater_of f x)
  greater-above-old = greater-cases (λ y. Not-above f y) (λ h. le_of_lt h) (λ h. le_refl (f.over * f.under))

  greater-above-new : Not-above x (greater_of f x)
  greater-above-new = greater-cases (λ y. Not-above x y) (λ h. le_refl (x.over * x.under)) (λ h. h)

  greater-under : 0 < f.under → 0 < x.under → 0 < (greater_of f x).under
  greater-under a b = greater-cases (λ y. 0 < y.under) (λ h. b) (λ h. a)

  greater-is : (greater_of f x ≡ f) ⊎ (greater_of f x ≡ x)
  greater-is = greater-cases (λ y. (y ≡ f) ⊎ (y ≡ x)) (λ h. inr refl) (λ h. inl refl)

-- ---- the greatest share

module _ (net : Net) (q : List ℕ) where
  -- every route of the list is longer than 0
  abbrev Long : List (List ℕ) → Type 0
  Long ps = (p : List ℕ) → Memᴰ p ps → 0 < length_of net.arcs p

  greater-long : (f : Fraction) (p : List ℕ) (ps : List (List ℕ)) → 0 < f.under → Long (p ∷ ps) → 0 < (greater_of f (share_with net q p)).under
  greater-long f p ps h long = greater-under f (share_with net q p) h (long p (Memᴰ.head refl))

  pick-rises : (f : Fraction) (ps : List (List ℕ)) → 0 < f.under → Long ps → Not-above f (greatest_from net q f ps)
  unfolding greatest_from
  pick-rises f [] h long = le_refl (f.over * f.under)
  pick-rises f (p ∷ ps) h long =
      let g = greater_of f (share_with net q p) in
      let k = greater-long f p ps h long in
      not-above-trans f g (greatest_from net q g ps) k (greater-above-old f (share_with net q p)) (pick-rises g ps k (λ r m. long r (Memᴰ.tail m)))

  -- No share is above the picked one.
  pub greatest-above : (f : Fraction) (ps : List (List ℕ)) → 0 < f.under → ((p : List ℕ) → Memᴰ p ps → 0 < length_of net.arcs p)
      → (p : List ℕ) → Memᴰ p ps → (share_with net q p).over * (greatest_from net q f ps).under ≤ (greatest_from net q f ps).over * (share_with net q p).under
  unfolding greatest_from
  greatest-above f [] h long p m = absurd (Memᴰ.not-nil m)
  greatest-above f (r ∷ ps) h long p m =
      let g = greater_of f (share_with net q r) in
      let k = greater-long f r ps h long in
      let rest : Long ps = λ t n. long t (Memᴰ.tail n) in
      ⊎_elim
      (λ (e : p ≡ r). subst (λ t. Not-above (share_with net q t) (greatest_from net q g ps)) (sym e)
      (not-above-trans (share_with net q r) g (greatest_from net q g ps) k (greater-above-new f (share_with net q r)) (pick-rises g ps k rest)))
      (λ n. greatest-above g ps k rest p n)
      (Memᴰ.cases_cons m)

  -- The picked one is f, or the share with one of them.
  pub greatest-is : (f : Fraction) (ps : List (List ℕ))
      → (greatest_from net q f ps ≡ f) ⊎ ((p : List ℕ) × Memᴰ p ps × (greatest_from net q f ps ≡ share_with net q p))
  unfolding greatest_from
  greatest-is f [] = inl refl
  greatest-is f (p ∷ ps) = go (greater_of f (share_with net q p)) (greater-is f (share_with net q p)) (greatest-is (greater_of f (share_with net q p)) ps)
    where
      go : (g : Fraction) → (g ≡ f) ⊎ (g ≡ share_with net q p)
          → (greatest_from net q g ps ≡ g) ⊎ ((r : List ℕ) × Memᴰ r ps × (greatest_from net q g ps ≡ share_with net q r))
          → (greatest_from net q g ps ≡ f) ⊎ ((r : List ℕ) × Memᴰ r (p ∷ ps) × (greatest_from net q g ps ≡ share_with net q r))
      go g (inl a) (inl e) = inl (e ∙ a)
      go g (inr a) (inl e) = inr (p, Memᴰ.head refl, e ∙ a)
      go g a (inr w) = inr (w.0, Memᴰ.tail w.1, w.2)

  -- One route more: the turn of a loop.
  pub greatest-more : (f : Fraction) (ps : List (List ℕ)) (p : List ℕ) → greatest_from net q f (ps ++ (p ∷ [])) ≡ greater_of (greatest_from net q f ps) (share_with net q p)
  unfolding greatest_from
  greatest-more f [] p = refl
  greatest-more f (r ∷ ps) p = greatest-more (greater_of f (share_with net q r)) ps p
