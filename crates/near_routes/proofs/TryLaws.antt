-- Going deeper arc by arc: what the arcs of the run find is what the definition finds, since no other arc leaves the end. What is found begins with the chain gone by, so no
-- route is found twice.
use mathlib.Core.Path.{◌≡◌, refl, sym, ap, ap₂, subst, ◌∙◌}
use mathlib.Core.Logic.{◌≢◌, ◌⊎◌, inl, inr, ⊎_elim}
use mathlib.Core.List.Memᴰ
use mathlib.Core.List.{List, [], ◌∷◌, ◌++◌, map, flat_map, append-nil, append_assoc, Memᴰ}
use mathlib.Core.Bool.{Bool, true, false, not, ◌&&◌, cond}
use Prim.Native.Nat.{ℕ, zero, suc, pred, ◌+◌, ◌-◌, ◌≤◌, ◌<◌}
use native.Mathlib.Omega.{arith}
use native.Mathlib.Numerals.{add-one}
use lib.Dec.{T, eqb, T_not}
use lib.ListN.{length, length-append}
use borrow.Author.Tests.{eq-eqb, ne_eqb, eqb-true, eqb-false}
use Rattle.lists.specs.Tests.{has, keep, cons_if, up_from}
use Rattle.lists.proofs.Cases.{cases}
use Rattle.lists.proofs.TestLaws.{and_l, and_r, mem→has}
use Rattle.lists.proofs.MemberLaws.{flat_map-e}
use Rattle.net.specs.Net.{Arc, arc}
use Rattle.net.specs.Route.{visited, end_of, leaves, partial, length_of, leaving, extensions, before, place, insert}
use Rattle.net.proofs.Chains.{Next, partial-more}
use Rattle.net.proofs.Listing.{partial-short}
use Rattle.net.proofs.Valid.{Sound}
use Rattle.variety.specs.Deeper.{may_arrive, deeper, insert_all}
use Rattle.near_routes.specs.Tries.{Trip, tries, goes_on, found_by, left, Begins, Fresh, FreshFrom}

-- ---- lists of what is found

module _ {A B : Type 0} (f : A → List B) where
  flat_map-append : (xs ys : List A) → flat_map f (xs ++ ys) ≡ flat_map f xs ++ flat_map f ys
  unfolding flat_map
  flat_map-append [] ys = refl
  flat_map-append (x ∷ xs) ys = ap (λ l. f x ++ l) (flat_map-append xs ys) ∙ sym (append_assoc (f x) (flat_map f xs) (flat_map f ys))

none_found : (f : ℕ → List (List ℕ)) (i n : ℕ) → ((a : ℕ) → i ≤ a → a < i + n → f a ≡ []) → flat_map f (up_from i n) ≡ []
unfolding flat_map up_from
none_found f i zero h = refl
none_found f i (suc n) h = ap₂ ◌++◌ (h i (omega arith) (omega arith)) (none_found f (suc i) n (λ a k l. h a (omega arith) (omega arith)))

up_from-append : (i m n : ℕ) → up_from i (m + n) ≡ up_from i m ++ up_from (i + m) n
unfolding up_from
up_from-append i zero n = let e : 0 + n ≡ n = omega arith in let z : i + 0 ≡ i = omega arith in rw (e, z)
up_from-append i (suc m) n = let e : suc m + n ≡ suc (m + n) = omega arith in let z : i + suc m ≡ suc i + m = omega arith in rw (e, z) (ap (λ l. i ∷ l) (up_from-append (suc i) m n))

-- only the numbers from lo to hi find anything
pub found_between : (f : ℕ → List (List ℕ)) (lo hi n : ℕ) → lo ≤ hi → hi ≤ n → ((a : ℕ) → a < lo → f a ≡ []) → ((a : ℕ) → hi ≤ a → f a ≡ []) → flat_map f (up_from 0 n) ≡ flat_map f (up_from lo (hi - lo))
found_between f lo hi n h k below above =
    let e : lo + ((hi - lo) + (n - hi)) ≡ n = omega arith in
    let z : 0 + lo + (hi - lo) ≡ hi = omega arith in
    ap (λ m. flat_map f (up_from 0 m)) (sym e)
    ∙ ap (flat_map f) (up_from-append 0 lo ((hi - lo) + (n - hi)))
    ∙ flat_map-append f (up_from 0 lo) (up_from (0 + lo) ((hi - lo) + (n - hi)))
    ∙ ap₂ ◌++◌ (none_found f 0 lo (λ a i j. below a (omega arith)))
    (ap (flat_map f) (up_from-append (0 + lo) (hi - lo) (n - hi))
    ∙ flat_map-append f (up_from (0 + lo) (hi - lo)) (up_from (0 + lo + (hi - lo)) (n - hi))
    ∙ ap (λ l. flat_map f (up_from (0 + lo) (hi - lo)) ++ l) (none_found f (0 + lo + (hi - lo)) (n - hi) (λ a i j. above a (omega arith)))
    ∙ append-nil (flat_map f (up_from (0 + lo) (hi - lo))))
    ∙ (let y : 0 + lo ≡ lo = omega arith in ap (λ v. flat_map f (up_from v (hi - lo))) y)

-- ---- the definition, arc by arc

by_tests : (f : List ℕ → List (List ℕ)) (l new : ℕ → Bool) (may : List ℕ → Bool) (h : ℕ → List ℕ) (xs : List ℕ)
    → flat_map f (keep may (map h (keep new (keep l xs)))) ≡ flat_map (λ a. cond (l a && (new a && may (h a))) (f (h a)) []) xs
unfolding flat_map keep cons_if
by_tests f l new may h [] = refl
by_tests f l new may h (a ∷ xs) = outer (l a) (by_tests f l new may h xs)
  where
    R : List (List ℕ)
    R = flat_map (λ a. cond (l a && (new a && may (h a))) (f (h a)) []) xs

    inner : (e : Bool) → flat_map f (keep may (map h (keep new (keep l xs)))) ≡ flat_map (λ a. cond (l a && (new a && may (h a))) (f (h a)) []) xs
        → flat_map f (cons_if e (h a) (keep may (map h (keep new (keep l xs))))) ≡ cond e (f (h a)) [] ++ flat_map (λ a. cond (l a && (new a && may (h a))) (f (h a)) []) xs
    inner true i = ap (λ z. f (h a) ++ z) i
    inner false i = i

    middle : (c : Bool) → flat_map f (keep may (map h (keep new (keep l xs)))) ≡ flat_map (λ a. cond (l a && (new a && may (h a))) (f (h a)) []) xs
        → flat_map f (keep may (map h (cons_if c a (keep new (keep l xs))))) ≡ cond (c && may (h a)) (f (h a)) [] ++ flat_map (λ a. cond (l a && (new a && may (h a))) (f (h a)) []) xs
    middle true i = inner (may (h a)) i
    middle false i = i

    outer : (b : Bool) → flat_map f (keep may (map h (keep new (keep l xs)))) ≡ flat_map (λ a. cond (l a && (new a && may (h a))) (f (h a)) []) xs
        → flat_map f (keep may (map h (keep new (cons_if b a (keep l xs))))) ≡ cond (b && (new a && may (h a))) (f (h a)) [] ++ flat_map (λ a. cond (l a && (new a && may (h a))) (f (h a)) []) xs
    outer true i = middle (new a) i
    outer false i = i

module _ (x : Trip) where
  pub deeper-there : (n : ℕ) (p : List ℕ) → end_of x.net.arcs x.s p ≡ x.t → goes_on x n p ≡ p ∷ []
  unfolding deeper
  deeper-there zero p e = rw (eq-eqb (end_of x.net.arcs x.s p) x.t e)
  deeper-there (suc n) p e = rw (eq-eqb (end_of x.net.arcs x.s p) x.t e)

  deeper-on : (n : ℕ) (p : List ℕ) → end_of x.net.arcs x.s p ≢ x.t → goes_on x (suc n) p ≡ flat_map (found_by x n p) (up_from 0 (length x.net.arcs))
  unfolding deeper extensions leaving found_by tries
  deeper-on n p ne =
      rw (ne_eqb (end_of x.net.arcs x.s p) x.t ne)
      (by_tests (goes_on x n) (leaves x.net (end_of x.net.arcs x.s p)) (λ a. not (has (arc x.net.arcs a).to (visited x.net.arcs x.s p)))
      (may_arrive x.net.arcs x.s x.D x.d x.most) (λ a. p ++ (a ∷ [])) (up_from 0 (length x.net.arcs)))

  deeper-end : (p : List ℕ) → end_of x.net.arcs x.s p ≢ x.t → goes_on x 0 p ≡ []
  unfolding deeper
  deeper-end p ne = rw (ne_eqb (end_of x.net.arcs x.s p) x.t ne)

  pub found-tried : (n : ℕ) (p : List ℕ) (a : ℕ) → tries x p a ≡ true → found_by x n p a ≡ goes_on x n (p ++ (a ∷ []))
  unfolding found_by
  found-tried n p a e = rw e

  pub found_none : (n : ℕ) (p : List ℕ) (a : ℕ) → tries x p a ≡ false → found_by x n p a ≡ []
  unfolding found_by
  found_none n p a e = rw e

  -- an arc that does not leave the end is not tried
  pub tries-leaves : (p : List ℕ) (a : ℕ) → leaves x.net (end_of x.net.arcs x.s p) a ≡ false → tries x p a ≡ false
  unfolding tries
  tries-leaves p a e = rw e

  -- ---- what is found begins with the chain gone by

  self : (p r : List ℕ) → Memᴰ r (p ∷ []) → Begins p r
  self p r m = record { onward = []; is = Memᴰ.eq_of_singleton m ∙ sym (append-nil p) }

  -- what an arc that is tried says
  pub tries-next : (p : List ℕ) (a : ℕ) → tries x p a ≡ true → Next x.net x.s p a
  unfolding tries
  tries-next p a e =
      let b = leaves x.net (end_of x.net.arcs x.s p) a in
      let n = has (arc x.net.arcs a).to (visited x.net.arcs x.s p) in
      let m = may_arrive x.net.arcs x.s x.D x.d x.most (p ++ (a ∷ [])) in
      let h : T (b && (not n && m)) = subst T (sym e) tt in
      record { leaves-end = and_l b (not n && m) h; is-new = λ k. T_not n (and_l (not n) m (and_r b (not n && m) h)) (mem→has k) }

  begins-more : (p r : List ℕ) (a : ℕ) → Begins (p ++ (a ∷ [])) r → Begins p r
  begins-more p r a b = record { onward = a ∷ b.onward; is = b.is ∙ append_assoc p (a ∷ []) b.onward }

  pub deeper-begins : (n : ℕ) (p r : List ℕ) → Memᴰ r (goes_on x n p) → Begins p r
  deeper-begins zero p r m =
      ⊎_elim
      (λ e. self p r (subst (Memᴰ r) (deeper-there 0 p (eqb-true (end_of x.net.arcs x.s p) x.t e)) m))
      (λ e. absurd (Memᴰ.not-nil (subst (Memᴰ r) (deeper-end p (eqb-false (end_of x.net.arcs x.s p) x.t e)) m)))
      (cases (eqb (end_of x.net.arcs x.s p) x.t))
  deeper-begins (suc n) p r m =
      ⊎_elim
      (λ e. self p r (subst (Memᴰ r) (deeper-there (suc n) p (eqb-true (end_of x.net.arcs x.s p) x.t e)) m))
      (λ e. let w = flat_map-e (found_by x n p) r (up_from 0 (length x.net.arcs)) (subst (Memᴰ r) (deeper-on n p (eqb-false (end_of x.net.arcs x.s p) x.t e)) m) in
      ⊎_elim (λ y. begins-more p r w.0 (deeper-begins n (p ++ (w.0 ∷ [])) r (subst (Memᴰ r) (found-tried n p w.0 y) w.2)))
      (λ y. absurd (Memᴰ.not-nil (subst (Memᴰ r) (found_none n p w.0 y) w.2))) (cases (tries x p w.0)))
      (cases (eqb (end_of x.net.arcs x.s p) x.t))

  -- ---- the arcs of the run

  -- what the arcs from lo to hi find, where all that leave the end lie there; a chain of fewest arcs left is at its end or goes no further
  pub deeper-run : (p : List ℕ) (lo hi n : ℕ) → Sound x.net → x.s < x.net.nodes → T (partial x.net x.s p) → n ≡ pred x.net.nodes - length p
      → end_of x.net.arcs x.s p ≢ x.t → lo ≤ hi → hi ≤ length x.net.arcs
      → ((a : ℕ) → T (leaves x.net (end_of x.net.arcs x.s p) a) → (lo ≤ a) × (a < hi))
      → goes_on x n p ≡ left x (n - 1) p lo hi
  deeper-run p lo hi n sound s-below h e ne l k run = go n e
    where
      outside : (m a : ℕ) → ((lo ≤ a) × (a < hi) → ⊥) → found_by x m p a ≡ []
      outside m a out = found_none m p a (tries-leaves p a (⊎_elim (λ z. absurd (out (run a (subst T (sym z) tt)))) (λ z. z) (cases (leaves x.net (end_of x.net.arcs x.s p) a))))

      between : (m : ℕ) → flat_map (found_by x m p) (up_from 0 (length x.net.arcs)) ≡ left x m p lo hi
      between m = found_between (found_by x m p) lo hi (length x.net.arcs) l k (λ a i. outside m a (λ o. omega (arith, o.0))) (λ a i. outside m a (λ o. omega (arith, o.1)))

      -- with no arc left nothing can go on
      full : pred x.net.nodes - length p ≡ 0 → (m a : ℕ) → found_by x m p a ≡ []
      full z m a = ⊎_elim (λ y. absurd (more a y)) (λ y. found_none m p a y) (cases (tries x p a))
        where
          more : (a : ℕ) → tries x p a ≡ true → ⊥
          more a y =
              let q = tries-next p a y in
              let f = partial-short x.net x.s s-below sound.to_below (p ++ (a ∷ [])) (partial-more x.net x.s p a h q) in
              omega (arith, length-append p (a ∷ []), f)

      go : (m : ℕ) → m ≡ pred x.net.nodes - length p → goes_on x m p ≡ left x (m - 1) p lo hi
      go zero z = deeper-end p ne ∙ sym (none_found (found_by x (0 - 1) p) lo (hi - lo) (λ a i j. full (sym z) (0 - 1) a))
      go (suc m) z = let y : suc m - 1 ≡ m = omega arith in deeper-on m p ne ∙ between m ∙ ap (λ v. left x v p lo hi) (sym y)

-- one arc more
pub left_step : (x : Trip) (n : ℕ) (p : List ℕ) (a e : ℕ) → a < e → left x n p a e ≡ found_by x n p a ++ left x n p (a + 1) e
unfolding flat_map up_from
left_step x n p a e h = let z : e - a ≡ suc (e - (a + 1)) = omega arith in rw (z, add-one a)

pub left-done : (x : Trip) (n : ℕ) (p : List ℕ) (a e : ℕ) → e ≤ a → left x n p a e ≡ []
unfolding flat_map up_from
left-done x n p a e h = let z : e - a ≡ 0 = omega arith in rw z

-- ---- the list

module _ (arcs : List Arc) where
  insert-e : (r p : List ℕ) (l : List (List ℕ)) → Memᴰ r (insert (length_of arcs) p l) → (r ≡ p) ⊎ Memᴰ r l
  unfolding insert
  insert-e r p [] m = inl (Memᴰ.eq_of_singleton m)
  insert-e r p (q ∷ l) m = go (before (length_of arcs) p q) (before (length_of arcs) q p) (insert-e r p l) m
    where
      go : (b c : Bool) → (Memᴰ r (insert (length_of arcs) p l) → (r ≡ p) ⊎ Memᴰ r l) → Memᴰ r (place b c p q l (insert (length_of arcs) p l)) → (r ≡ p) ⊎ Memᴰ r (q ∷ l)
      go true c again k = Memᴰ.cases_cons k
      go false true again k = ⊎_elim (λ e. inr (Memᴰ.head e)) (λ i. ⊎_elim (λ e. inl e) (λ j. inr (Memᴰ.tail j)) (again i)) (Memᴰ.cases_cons k)
      go false false again k = inr k

  pub insert_all-e : (r : List ℕ) (xs l : List (List ℕ)) → Memᴰ r (insert_all arcs l xs) → Memᴰ r l ⊎ Memᴰ r xs
  unfolding insert_all
  insert_all-e r [] l m = inl m
  insert_all-e r (p ∷ xs) l m =
      ⊎_elim (λ i. ⊎_elim (λ e. inr (Memᴰ.head e)) (λ j. inl j) (insert-e r p l i)) (λ i. inr (Memᴰ.tail i)) (insert_all-e r xs (insert (length_of arcs) p l) m)

  pub insert_all-append : (xs ys l : List (List ℕ)) → insert_all arcs l (xs ++ ys) ≡ insert_all arcs (insert_all arcs l xs) ys
  unfolding insert_all
  insert_all-append [] ys l = refl
  insert_all-append (x ∷ xs) ys l = insert_all-append xs ys (insert (length_of arcs) x l)

  pub insert_all-one : (p : List ℕ) (l : List (List ℕ)) → insert_all arcs l (p ∷ []) ≡ insert (length_of arcs) p l
  unfolding insert_all
  insert_all-one p l = refl

  pub insert_all-none : (l : List (List ℕ)) → insert_all arcs l [] ≡ l
  unfolding insert_all
  insert_all-none l = refl

-- ---- no route twice

heads-same : (p : List ℕ) (a b : ℕ) (y z : List ℕ) → (p ++ (a ∷ [])) ++ y ≡ (p ++ (b ∷ [])) ++ z → a ≡ b
heads-same [] a b y z e = cc
heads-same (c ∷ p) a b y z e = heads-same p a b y z (let h : (p ++ (a ∷ [])) ++ y ≡ (p ++ (b ∷ [])) ++ z = cc in h)

pub fresh_start : (p : List ℕ) (rs : List (List ℕ)) (lo : ℕ) → Fresh p rs → FreshFrom lo p rs
fresh_start p rs lo f r m b h k = f r m (record { onward = b ∷ k.onward; is = k.is ∙ append_assoc p (b ∷ []) k.onward })

pub fresh-next : (p : List ℕ) (rs : List (List ℕ)) (a : ℕ) → FreshFrom a p rs → Fresh (p ++ (a ∷ [])) rs
fresh-next p rs a f r m k = f r m a (omega arith) k

pub fresh-later : (p : List ℕ) (rs : List (List ℕ)) (a : ℕ) → FreshFrom a p rs → FreshFrom (a + 1) p rs
fresh-later p rs a f r m b h k = f r m b (omega arith) k

pub fresh-more : (x : Trip) (n : ℕ) (p : List ℕ) (rs : List (List ℕ)) (a : ℕ) → FreshFrom a p rs → FreshFrom (a + 1) p (insert_all x.net.arcs rs (goes_on x n (p ++ (a ∷ []))))
fresh-more x n p rs a f r m b h k =
    ⊎_elim (λ i. f r i b (omega arith) k)
    (λ i. let y = deeper-begins x n (p ++ (a ∷ [])) r i in let e : a ≡ b = heads-same p a b y.onward k.onward (sym y.is ∙ k.is) in omega arith)
    (insert_all-e x.net.arcs r (goes_on x n (p ++ (a ∷ []))) rs m)

-- a route that is there is not fresh
pub fresh-new : (p : List ℕ) (rs : List (List ℕ)) → Fresh p rs → Memᴰ p rs → ⊥
fresh-new p rs f m = f p m (record { onward = []; is = sym (append-nil p) })
