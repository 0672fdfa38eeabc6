-- One rank more: the least so far and the least of the new pairs make the new least. The two are equal as fractions, not as numbers, and comparisons do not
-- tell equal fractions apart; so code that carries the least so far decides as the definition does.
use mathlib.Core.Path.{◌≡◌, sym, ap, subst}
use mathlib.Core.Logic.{◌⊎◌, inl, inr, ⊎_elim}
use mathlib.Core.List.Memᴰ
use mathlib.Core.List.{List, [], ◌∷◌, ◌++◌, map, map-append, Memᴰ}
use Prim.Native.Nat.{ℕ, ◌*◌, ◌<◌}
use native.Mathlib.Omega.{arith}
use native.Mathlib.Nat.{mul-lt-mul_of_pos_left, lt_of_mul-lt-mul_left, eq_of_mul-eq-mul_left}
use lib.Dec.{T}
use lib.ListN.{get_or}
use Rattle.lists.proofs.Cases.{three_ways}
use Rattle.net.specs.Net.{Arc}
use Rattle.net.specs.Route.{length_of}
use Rattle.products.specs.declared.Fraction.{Fraction}
use Rattle.variety.specs.Variety.{less, apart, pairwise, lower, least, variety, no_route}
use Rattle.variety.proofs.Fractions.{Proper, AllProper, less-e, less-i, lower-e, lower-i, lower-proper, least-proper, least-e, least-i, proper, pairs-front, union-positive, named}
use Rattle.variety.proofs.Choice.{map-map}

-- equal as fractions
abbrev pub Same : Fraction → Fraction → Type 0
Same x y = x.over * y.under ≡ y.over * x.under

pub same-sym : (x y : Fraction) → Same x y → Same y x
same-sym x y e = sym e

pub same-trans : (x y z : Fraction) → Proper y → Same x y → Same y z → Same x z
same-trans x y z py e f = eq_of_mul-eq-mul_left y.under py (x.over * z.under) (z.over * x.under) (omega (arith, ap (λ u. u * z.under) e, ap (λ u. u * x.under) f))

-- below both or below neither: the same
pub same_by : (x y : Fraction) → Proper x → Proper y → ((b : Fraction) → Proper b → T (less b x) → T (less b y)) → ((b : Fraction) → Proper b → T (less b y) → T (less b x)) → Same x y
same_by x y px py f g = go (three_ways (x.over * y.under) (y.over * x.under))
  where
    go : (x.over * y.under < y.over * x.under) ⊎ (x.over * y.under ≡ y.over * x.under) ⊎ (y.over * x.under < x.over * y.under) → Same x y
    go (inl h) = let k = less-e x x (g x px (less-i x y h)) in absurd (omega arith)
    go (inr (inl e)) = e
    go (inr (inr h)) = let k = less-e y y (f y py (less-i y x h)) in absurd (omega arith)

-- a comparison does not tell equal fractions apart
pub less-same : (x x' y y' : Fraction) → Proper x → Proper x' → Proper y → Proper y' → Same x x' → Same y y' → T (less x y) → T (less x' y')
less-same x x' y y' px px' py py' e f h =
    less-i x' y'
    (lt_of_mul-lt-mul_left (x.under * y.under)
    (omega (arith, mul-lt-mul_of_pos_left {k = x'.under * y'.under} (less-e x y h) (pos x'.under y'.under px' py'), ap (λ z. z * (y.under * y'.under)) e, ap (λ z. z * (x.under * x'.under)) f)))
  where
    pos : (a b : ℕ) → 0 < a → 0 < b → 0 < a * b
    pos a b h k = let l = mul-lt-mul_of_pos_left {m = 0} {n = b} {k = a} k h in omega arith

-- ---- the least of two lists

one-proper : Proper (record { over = 1; under = 1 })
one-proper = omega arith

all_append : (xs ys : List Fraction) → AllProper xs → AllProper ys → AllProper (xs ++ ys)
unfolding AllProper
all_append xs ys h k x m = ⊎_elim (h x) (k x) (Memᴰ.append_cases xs m)

pub least-append : (xs ys : List Fraction) → AllProper xs → AllProper ys → Same (least (xs ++ ys)) (lower (least xs) (least ys))
least-append xs ys h k =
    let px = least-proper xs h in
    let py = least-proper ys k in
    let pa = all_append xs ys h k in
    same_by (least (xs ++ ys)) (lower (least xs) (least ys)) (least-proper (xs ++ ys) pa) (lower-proper (least xs) (least ys) px py)
    (λ b pb l. let e = least-e b (xs ++ ys) pb pa l in
    lower-i b (least xs) (least ys) (least-i b xs e.0 (λ x m. e.1 x (Memᴰ.append_left ys m))) (least-i b ys e.0 (λ x m. e.1 x (Memᴰ.append_right xs m))))
    (λ b pb l. let w = lower-e b (least xs) (least ys) pb px py l in
    let e = least-e b xs pb h w.0 in
    let f = least-e b ys pb k w.1 in
    least-i b (xs ++ ys) e.0 (λ x m. ⊎_elim (e.1 x) (f.1 x) (Memᴰ.append_cases xs m)))

pub least-members : (xs ys : List Fraction) → AllProper xs → AllProper ys → ((x : Fraction) → Memᴰ x xs → Memᴰ x ys) → ((x : Fraction) → Memᴰ x ys → Memᴰ x xs) → Same (least xs) (least ys)
least-members xs ys h k f g =
    same_by (least xs) (least ys) (least-proper xs h) (least-proper ys k)
    (λ b pb l. let e = least-e b xs pb h l in least-i b ys e.0 (λ x m. e.1 x (g x m)))
    (λ b pb l. let e = least-e b ys pb k l in least-i b xs e.0 (λ x m. e.1 x (f x m)))

-- ---- one more

module _ (arcs : List Arc) where
  -- the pairs with q last
  abbrev pub with_last : List (List ℕ) → List ℕ → List Fraction
  with_last ps q = map (λ p. apart arcs p q) ps

  pairs-more : (ps : List (List ℕ)) (q : List ℕ) (x : Fraction) → Memᴰ x (pairwise arcs (ps ++ (q ∷ []))) → Memᴰ x (pairwise arcs ps ++ with_last ps q)
  unfolding pairwise
  pairs-more [] q x m = m
  pairs-more (p ∷ ps) q x m = ⊎_elim (λ i. front (subst (Memᴰ x) (map-append (apart arcs p) ps (q ∷ [])) i)) (λ i. back (pairs-more ps q x i)) (Memᴰ.append_cases (map (apart arcs p) (ps ++ (q ∷ []))) m)
    where
      front : Memᴰ x (map (apart arcs p) ps ++ (apart arcs p q ∷ [])) → Memᴰ x ((map (apart arcs p) ps ++ pairwise arcs ps) ++ (apart arcs p q ∷ with_last ps q))
      front i =
          ⊎_elim (λ j. Memᴰ.append_left (apart arcs p q ∷ with_last ps q) (Memᴰ.append_left (pairwise arcs ps) j))
          (λ j. Memᴰ.append_right (map (apart arcs p) ps ++ pairwise arcs ps) (⊎_elim Memᴰ.head (λ z. absurd (Memᴰ.not-nil z)) (Memᴰ.cases_cons j)))
          (Memᴰ.append_cases (map (apart arcs p) ps) i)

      back : Memᴰ x (pairwise arcs ps ++ with_last ps q) → Memᴰ x ((map (apart arcs p) ps ++ pairwise arcs ps) ++ (apart arcs p q ∷ with_last ps q))
      back i =
          ⊎_elim (λ j. Memᴰ.append_left (apart arcs p q ∷ with_last ps q) (Memᴰ.append_right (map (apart arcs p) ps) j))
          (λ j. Memᴰ.append_right (map (apart arcs p) ps ++ pairwise arcs ps) (Memᴰ.tail j)) (Memᴰ.append_cases (pairwise arcs ps) i)

  with-last : (ps : List (List ℕ)) (q : List ℕ) (x : Fraction) → Memᴰ x (with_last ps q) → Memᴰ x (pairwise arcs (ps ++ (q ∷ [])))
  unfolding pairwise
  with-last [] q x m = absurd (Memᴰ.not-nil m)
  with-last (p ∷ ps) q x m =
      ⊎_elim
      (λ e. Memᴰ.append_left (pairwise arcs (ps ++ (q ∷ []))) (subst (Memᴰ x) (sym (map-append (apart arcs p) ps (q ∷ []))) (Memᴰ.append_right (map (apart arcs p) ps) (Memᴰ.head e))))
      (λ i. Memᴰ.append_right (map (apart arcs p) (ps ++ (q ∷ []))) (with-last ps q x i))
      (Memᴰ.cases_cons m)

  more-pairs : (ps : List (List ℕ)) (q : List ℕ) (x : Fraction) → Memᴰ x (pairwise arcs ps ++ with_last ps q) → Memᴰ x (pairwise arcs (ps ++ (q ∷ [])))
  more-pairs ps q x m = ⊎_elim (pairs-front arcs ps (q ∷ []) x) (with-last ps q x) (Memᴰ.append_cases (pairwise arcs ps) m)

  module _ (list : List (List ℕ)) (long : (i : ℕ) → 0 < length_of arcs (get_or list i no_route)) where
    last-proper : (ranks : List ℕ) (q : List ℕ) → AllProper (with_last (named arcs list long ranks) q)
    unfolding AllProper named apart
    last-proper [] q x m = absurd (Memᴰ.not-nil m)
    last-proper (i ∷ ranks) q x m = ⊎_elim (λ e. subst Proper (sym e) (union-positive arcs (get_or list i no_route) q (long i))) (last-proper ranks q x) (Memᴰ.cases_cons m)

    -- the least with rank r more
    pub variety-more : (ranks : List ℕ) (r : ℕ)
        → Same (variety arcs list (ranks ++ (r ∷ []))) (lower (variety arcs list ranks) (least (map (λ i. apart arcs (get_or list i no_route) (get_or list r no_route)) ranks)))
    unfolding variety named
    variety-more ranks r =
        let q = get_or list r no_route in
        let ps = named arcs list long ranks in
        let e = map-append (λ i. get_or list i no_route) ranks (r ∷ []) in
        let f : map (λ i. apart arcs (get_or list i no_route) q) ranks ≡ with_last ps q = sym (map-map (λ i. get_or list i no_route) (λ p. apart arcs p q) ranks) in
        let a : AllProper (pairwise arcs (ps ++ (q ∷ []))) = subst (λ l. AllProper (pairwise arcs l)) e (proper arcs list long (ranks ++ (r ∷ []))) in
        let b = least-members (pairwise arcs (ps ++ (q ∷ []))) (pairwise arcs ps ++ with_last ps q) a (all_append (pairwise arcs ps) (with_last ps q) (proper arcs list long ranks) (last-proper ranks q)) (pairs-more ps q) (more-pairs ps q) in
        let c = least-append (pairwise arcs ps) (with_last ps q) (proper arcs list long ranks) (last-proper ranks q) in
        let d = same-trans (least (pairwise arcs (ps ++ (q ∷ [])))) (least (pairwise arcs ps ++ with_last ps q)) (lower (least (pairwise arcs ps)) (least (with_last ps q)))
        (least-proper (pairwise arcs ps ++ with_last ps q) (all_append (pairwise arcs ps) (with_last ps q) (proper arcs list long ranks) (last-proper ranks q))) b c in
        subst (λ l. Same (least (pairwise arcs l)) (lower (least (pairwise arcs ps)) (least (map (λ i. apart arcs (get_or list i no_route) q) ranks)))) (sym e)
        (subst (λ l. Same (least (pairwise arcs (ps ++ (q ∷ [])))) (lower (least (pairwise arcs ps)) (least l))) (sym f) d)
