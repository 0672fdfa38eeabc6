-- Fractions compared by cross-multiplication: b is less than the least of some exactly if it is less than each. So a beginning of a choice is no less varied
-- than the whole, and the search with hope is right.
use mathlib.Core.Path.{◌≡◌, refl, sym, ap, subst}
use mathlib.Core.Logic.{⊎_elim}
use mathlib.Core.Option.{none, some}
use mathlib.Core.List.Memᴰ
use mathlib.Core.List.{List, [], ◌∷◌, ◌++◌, map, map-append, Memᴰ}
use mathlib.Core.Bool.{Bool, true, false, not, cond}
use Prim.Native.Nat.{ℕ, ◌+◌, ◌-◌, ◌*◌, ◌≤◌, ◌<◌}
use native.Mathlib.Omega.{arith}
use native.Mathlib.Nat.{mul-le-mul_left, mul-lt-mul_of_pos_left, lt_of_mul-lt-mul_left}
use lib.Dec.{T, ltb→lt, lt→ltb}
use lib.ListN.{length, get_or}
use borrow.Author.Tests.{ltb-false}
use Rattle.lists.specs.Tests.{has, keep, cons_if, up_from}
use Rattle.net.specs.Net.{Arc, arc}
use Rattle.net.specs.Route.{length_of}
use Rattle.net.proofs.Order.{length_of-append}
use Rattle.variety.specs.Choice.{choices_of, best_of, search_from}
use Rattle.products.specs.declared.Fraction.{Fraction}
use Rattle.variety.specs.Variety.{less, shared, union, apart, pairwise, lower, least, variety, varied, chosen, no_route}
use Rattle.variety.proofs.Choice.{search-all}

-- ---- less

abbrev pub Proper : Fraction → Type 0
Proper x = 0 < x.under

pub less-e : (x y : Fraction) → T (less x y) → x.over * y.under < y.over * x.under
unfolding less
less-e x y h = ltb→lt _ _ h

pub less-i : (x y : Fraction) → x.over * y.under < y.over * x.under → T (less x y)
unfolding less
less-i x y h = lt→ltb _ _ h

pub not-less : (x y : Fraction) → less x y ≡ false → y.over * x.under ≤ x.over * y.under
unfolding less
not-less x y f = ltb-false (x.over * y.under) (y.over * x.under) f

-- b < y and y ≤ x give b < x
less_then : (b x y : Fraction) → Proper x → Proper b → T (less b y) → y.over * x.under ≤ x.over * y.under → T (less b x)
less_then b x y px pb h k =
    less-i b x (lt_of_mul-lt-mul_left y.under (omega (arith, mul-lt-mul_of_pos_left {k = x.under} (less-e b y h) px, mul-le-mul_left b.under k)))

-- the lower of two is above b exactly if both are
pub lower-e : (b x y : Fraction) → Proper b → Proper x → Proper y → T (less b (lower x y)) → T (less b x) × T (less b y)
unfolding lower
lower-e b x y pb px py h = go (less y x) refl h
  where
    go : (c : Bool) → less y x ≡ c → T (less b (cond c y x)) → T (less b x) × T (less b y)
    go true e k = (less_then b x y px pb k (omega (arith, less-e y x (subst T (sym e) tt))), k)
    go false e k = (k, less_then b y x py pb k (not-less y x e))

pub lower-i : (b x y : Fraction) → T (less b x) → T (less b y) → T (less b (lower x y))
unfolding lower
lower-i b x y h k = go (less y x)
  where
    go : (c : Bool) → T (less b (cond c y x))
    go true = k
    go false = h

pub lower-proper : (x y : Fraction) → Proper x → Proper y → Proper (lower x y)
unfolding lower
lower-proper x y px py = go (less y x)
  where
    go : (c : Bool) → Proper (cond c y x)
    go true = py
    go false = px

unfoldable pub AllProper : List Fraction → Type 0
AllProper xs = (x : Fraction) → Memᴰ x xs → Proper x

pub least-proper : (xs : List Fraction) → AllProper xs → Proper (least xs)
unfolding least AllProper
least-proper [] h = omega arith
least-proper (x ∷ xs) h = lower-proper x (least xs) (h x (Memᴰ.head refl)) (least-proper xs (λ y m. h y (Memᴰ.tail m)))

-- ---- the least of some is above b exactly if each is, and one

pub least-e : (b : Fraction) (xs : List Fraction) → Proper b → AllProper xs → T (less b (least xs)) → T (less b (record { over = 1; under = 1 })) × ((x : Fraction) → Memᴰ x xs → T (less b x))
unfolding least AllProper
least-e b [] pb h k = (k, λ x m. absurd (Memᴰ.not-nil m))
least-e b (y ∷ xs) pb h k =
    let l = lower-e b y (least xs) pb (h y (Memᴰ.head refl)) (least-proper xs (λ x m. h x (Memᴰ.tail m))) k in
    let i = least-e b xs pb (λ x m. h x (Memᴰ.tail m)) l.1 in
    (i.0, λ x m. ⊎_elim (λ e. subst (λ z. T (less b z)) (sym e) l.0) (i.1 x) (Memᴰ.cases_cons m))

pub least-i : (b : Fraction) (xs : List Fraction) → T (less b (record { over = 1; under = 1 })) → ((x : Fraction) → Memᴰ x xs → T (less b x)) → T (less b (least xs))
unfolding least
least-i b [] o h = o
least-i b (x ∷ xs) o h = lower-i b x (least xs) (h x (Memᴰ.head refl)) (least-i b xs o (λ y m. h y (Memᴰ.tail m)))

-- ---- the pairs of a beginning are pairs of the whole

module _ (arcs : List Arc) where
  pub pairs-front : (ps qs : List (List ℕ)) (x : Fraction) → Memᴰ x (pairwise arcs ps) → Memᴰ x (pairwise arcs (ps ++ qs))
  unfolding pairwise
  pairs-front [] qs x m = absurd (Memᴰ.not-nil m)
  pairs-front (p ∷ ps) qs x m =
      ⊎_elim
      (λ i. Memᴰ.append_left (pairwise arcs (ps ++ qs)) (subst (Memᴰ x) (sym (map-append (apart arcs p) ps qs)) (Memᴰ.append_left (map (apart arcs p) qs) i)))
      (λ i. Memᴰ.append_right (map (apart arcs p) (ps ++ qs)) (pairs-front ps qs x i))
      (Memᴰ.append_cases (map (apart arcs p) ps) m)

  -- ---- a union is longer than nothing, where one of the two has an arc

  keep-parts : (f : ℕ → Bool) (q : List ℕ) → length_of arcs (keep f q) + length_of arcs (keep (λ a. not (f a)) q) ≡ length_of arcs q
  unfolding length_of keep
  keep-parts f [] = refl
  keep-parts f (a ∷ q) = go (f a) (keep-parts f q)
    where
      go : (b : Bool) → length_of arcs (keep f q) + length_of arcs (keep (λ a. not (f a)) q) ≡ length_of arcs q
          → length_of arcs (cons_if b a (keep f q)) + length_of arcs (cons_if (not b) a (keep (λ a. not (f a)) q)) ≡ (arc arcs a).len + length_of arcs q
      go true e = omega arith
      go false e = omega arith

  -- the union and what is shared make up both: what code computes
  pub union-is : (p q : List ℕ) → union arcs p q + shared arcs p q ≡ length_of arcs p + length_of arcs q
  unfolding union shared
  union-is p q = omega (arith, length_of-append arcs p (keep (λ a. not (has a p)) q), keep-parts (λ a. has a p) q)

  pub apart-is : (p q : List ℕ) → apart arcs p q ≡ record { over = length_of arcs p + length_of arcs q - 2 * shared arcs p q; under = length_of arcs p + length_of arcs q - shared arcs p q }
  unfolding apart
  apart-is p q =
      let e : union arcs p q - shared arcs p q ≡ length_of arcs p + length_of arcs q - 2 * shared arcs p q = omega (arith, union-is p q) in
      let f : union arcs p q ≡ length_of arcs p + length_of arcs q - shared arcs p q = omega (arith, union-is p q) in
      cc

  pub union-positive : (p q : List ℕ) → 0 < length_of arcs p → 0 < union arcs p q
  unfolding union
  union-positive p q h = omega (arith, length_of-append arcs p (keep (λ a. not (has a p)) q))

  -- ---- the search with hope

  module _ (list : List (List ℕ)) (long : (i : ℕ) → 0 < length_of arcs (get_or list i no_route)) where
    unfoldable pub named : List ℕ → List (List ℕ)
    named ranks = map (λ i. get_or list i no_route) ranks

    named-long : (ranks : List ℕ) (p : List ℕ) → Memᴰ p (named ranks) → 0 < length_of arcs p
    unfolding named
    named-long ranks p m = let w = Memᴰ.of_map (λ i. get_or list i no_route) ranks m in omega (arith, long w.0, ap (length_of arcs) w.2)

    pairs-proper : (ps : List (List ℕ)) → ((p : List ℕ) → Memᴰ p ps → 0 < length_of arcs p) → AllProper (pairwise arcs ps)
    unfolding pairwise AllProper apart
    pairs-proper [] h x m = absurd (Memᴰ.not-nil m)
    pairs-proper (p ∷ ps) h x m =
        ⊎_elim
        (λ i. let w = Memᴰ.of_map (apart arcs p) ps i in subst Proper w.2 (union-positive p w.0 (h p (Memᴰ.head refl))))
        (pairs-proper ps (λ q k. h q (Memᴰ.tail k)) x)
        (Memᴰ.append_cases (map (apart arcs p) ps) m)

    pub proper : (ranks : List ℕ) → AllProper (pairwise arcs (named ranks))
    proper ranks = pairs-proper (named ranks) (named-long ranks)

    -- a beginning of a choice is no less varied than the whole
    pub varied-front : (b xs ys : List ℕ) → T (varied arcs list b (xs ++ ys)) → T (varied arcs list b xs)
    unfolding varied variety named AllProper
    varied-front b xs ys h =
        let v = variety arcs list b in
        let l = least-e v (pairwise arcs (named (xs ++ ys))) (least-proper (pairwise arcs (named b)) (proper b)) (proper (xs ++ ys)) h in
        least-i v (pairwise arcs (named xs)) l.0
        (λ x m. l.1 x (subst (λ z. Memᴰ x (pairwise arcs z)) (sym (map-append (λ i. get_or list i no_route) xs ys)) (pairs-front (named xs) (named ys) x m)))

    -- so going deeper only where there is hope makes the choice of the request
    pub chosen-search : (k : ℕ) → search_from (varied arcs list) (up_from 0 (length list)) k [] none ≡ chosen arcs list k
    unfolding chosen
    chosen-search k = search-all (varied arcs list) varied-front (up_from 0 (length list)) k

-- ---- "For k = 1 the shortest is chosen": no pair, so no later one is more varied

one_kept : (arcs : List Arc) (list : List (List ℕ)) (i : ℕ) (rs : List ℕ) → best_of (varied arcs list) (some (i ∷ [])) (choices_of rs 1) ≡ some (i ∷ [])
unfolding best_of choices_of varied variety pairwise least less
one_kept arcs list i [] = refl
one_kept arcs list i (r ∷ rs) = one_kept arcs list i rs

pub one-chosen : (arcs : List Arc) (p : List ℕ) (list : List (List ℕ)) → chosen arcs (p ∷ list) 1 ≡ some (0 ∷ [])
unfolding chosen best_of choices_of up_from
one-chosen arcs p list = one_kept arcs (p ∷ list) 0 (up_from 1 (length list))
