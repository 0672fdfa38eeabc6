-- The order of the second table. `by_end` lists the arcs by end node and then number, each before all that stand after it, so none stands twice; ends lie below
-- the node count, so every arc is there, and there are as many as arcs. Any arcs in that order that are as many are all of them, and two lists in a strict
-- order with the same members are one (`second_is`).
use mathlib.Core.Path.{◌≡◌, refl, sym, ap₂, subst, ◌∙◌}
use mathlib.Core.Logic.{◌⊎◌, inl, inr, ⊎_elim}
use mathlib.Core.List.Memᴰ
use mathlib.Core.List.{List, [], ◌∷◌, ◌++◌, flat_map, Memᴰ}
use mathlib.Core.Bool.{Bool, true, false, not}
use Prim.Native.Nat.{ℕ, zero, suc, ◌≤◌, ◌<◌}
use native.Mathlib.Omega.{arith}
use lib.Dec.{T, ltb, eqb, ltb→lt, lt→ltb, eqb→eq, not_T}
use lib.ListN.{length, get_or}
use Rattle.lists.specs.Tests.{has, distinct, keep, cons_if, up_from, lex}
use Rattle.lists.proofs.Cases.{either}
use Rattle.lists.proofs.TestLaws.{and_i, lex-e, lex-lt, lex-eq, lex_irrefl, lex-trans, keep-e, keep-i, eq→eqb, has→mem}
use Rattle.lists.proofs.MemberLaws.{up_from-e, up_from-i, length-up_from, flat_map-e, flat_map-i, distinct-length}
use Rattle.table.specs.Table.{records, to_at}
use Rattle.table.specs.Fault.{table_fault, good}
use Rattle.table.proofs.FaultLaws.{all-good}
use Rattle.second.specs.Second.{entering, by_end, number_at}

-- ---- lists in a strict order

module _ (f : ℕ → ℕ → Bool) where
  abbrev pub Rising : List ℕ → Type 0
  Rising [] = Unit {0}
  Rising (x ∷ xs) = ((y : ℕ) → Memᴰ y xs → T (f x y)) × Rising xs

  pub rising-append : (xs ys : List ℕ) → Rising xs → Rising ys → ((x y : ℕ) → Memᴰ x xs → Memᴰ y ys → T (f x y)) → Rising (xs ++ ys)
  rising-append [] ys h k g = k
  rising-append (x ∷ xs) ys h k g = (λ y m. ⊎_elim (h.0 y) (g x y (Memᴰ.head refl)) (Memᴰ.append_cases xs m), rising-append xs ys h.1 k (λ a b m i. g a b (Memᴰ.tail m) i))

  rising-keep : (g : ℕ → Bool) (xs : List ℕ) → Rising xs → Rising (keep g xs)
  unfolding keep
  rising-keep g [] h = tt
  rising-keep g (x ∷ xs) h = go (g x) (rising-keep g xs h.1)
    where
      go : (b : Bool) → Rising (keep g xs) → Rising (cons_if b x (keep g xs))
      go true below = (λ y m. h.0 y (keep-e g y xs m).0, below)
      go false below = below

  module _ (irrefl : (x : ℕ) → T (f x x) → ⊥) (trans : (x y z : ℕ) → T (f x y) → T (f y z) → T (f x z)) where
    -- two such lists with the same members
    rising-unique : (xs ys : List ℕ) → Rising xs → Rising ys → ((x : ℕ) → Memᴰ x xs → Memᴰ x ys) → ((x : ℕ) → Memᴰ x ys → Memᴰ x xs) → xs ≡ ys
    rising-unique [] [] i j g h = refl
    rising-unique [] (y ∷ ys) i j g h = absurd (Memᴰ.not-nil (h y (Memᴰ.head refl)))
    rising-unique (x ∷ xs) [] i j g h = absurd (Memᴰ.not-nil (g x (Memᴰ.head refl)))
    rising-unique (x ∷ xs) (y ∷ ys) i j g h =
        let e = same (Memᴰ.cases_cons (g x (Memᴰ.head refl))) (Memᴰ.cases_cons (h y (Memᴰ.head refl))) in
        ap₂ ◌∷◌ e (rising-unique xs ys i.1 j.1 (λ z m. fore e z m (Memᴰ.cases_cons (g z (Memᴰ.tail m)))) (λ z m. back e z m (Memᴰ.cases_cons (h z (Memᴰ.tail m)))))
      where
        same : (x ≡ y) ⊎ Memᴰ x ys → (y ≡ x) ⊎ Memᴰ y xs → x ≡ y
        same (inl e) k = e
        same (inr m) (inl e) = sym e
        same (inr m) (inr k) = absurd (irrefl x (trans x y x (i.0 y k) (j.0 x m)))

        fore : x ≡ y → (z : ℕ) → Memᴰ z xs → (z ≡ y) ⊎ Memᴰ z ys → Memᴰ z ys
        fore e z m (inl k) = absurd (irrefl x (subst (λ w. T (f x w)) (k ∙ sym e) (i.0 z m)))
        fore e z m (inr k) = k

        back : x ≡ y → (z : ℕ) → Memᴰ z ys → (z ≡ x) ⊎ Memᴰ z xs → Memᴰ z xs
        back e z m (inl k) = absurd (irrefl y (subst (λ w. T (f y w)) (k ∙ e) (j.0 z m)))
        back e z m (inr k) = k

    rising-distinct : (ns : List ℕ) → Rising ns → T (distinct ns)
    unfolding distinct
    rising-distinct [] h = tt
    rising-distinct (a ∷ ns) h = and_i (not (has a ns)) (distinct ns) (not_T (has a ns) (λ k. irrefl a (h.0 a (has→mem a ns k)))) (rising-distinct ns h.1)

distinct_cons : (a : ℕ) (ns : List ℕ) → T (not (has a ns)) → T (distinct ns) → T (distinct (a ∷ ns))
unfolding distinct
distinct_cons a ns h k = and_i (not (has a ns)) (distinct ns) h k

up_from-from : (i n y : ℕ) → Memᴰ y (up_from i n) → i ≤ y
unfolding up_from
up_from-from i zero y m = absurd (Memᴰ.not-nil m)
up_from-from i (suc n) y m = go (λ k. up_from-from (suc i) n y k) (Memᴰ.cases_cons m)
  where
    go : (Memᴰ y (up_from (suc i) n) → suc i ≤ y) → (y ≡ i) ⊎ Memᴰ y (up_from (suc i) n) → i ≤ y
    go again (inl e) = omega arith
    go again (inr k) = omega (arith, again k)

up_from-rising : (i n : ℕ) → Rising ltb (up_from i n)
unfolding up_from
up_from-rising i zero = tt
up_from-rising i (suc n) = (λ y m. lt→ltb i y (up_from-from (suc i) n y m), up_from-rising (suc i) n)

lt_irrefl : (a : ℕ) → T (ltb a a) → ⊥
lt_irrefl a h = let k = ltb→lt a a h in omega arith

lt_trans : (a b c : ℕ) → T (ltb a b) → T (ltb b c) → T (ltb a c)
lt_trans a b c h k =
    let p = ltb→lt a b h in
    let q = ltb→lt b c k in
    lt→ltb a c (omega arith)

-- ---- places in a list

pub at_mem : (l : List ℕ) (i : ℕ) → i < length l → Memᴰ (get_or l i 0) l
at_mem [] i h = absurd (omega arith)
at_mem (x ∷ l) zero h = Memᴰ.head refl
at_mem (x ∷ l) (suc i) h = Memᴰ.tail (at_mem l i (omega arith))

mem-at : (a : ℕ) (l : List ℕ) → Memᴰ a l → (i : ℕ) × (i < length l) × (get_or l i 0 ≡ a)
mem-at a [] m = absurd (Memᴰ.not-nil m)
mem-at a (x ∷ l) m =
    ⊎_elim
    (λ e. (0, omega arith, sym e))
    (λ k. let w = mem-at a l k in (suc w.0, omega (arith, w.1), w.2))
    (Memᴰ.cases_cons m)

rising-at : (f : ℕ → ℕ → Bool) (l : List ℕ) → Rising f l → (i j : ℕ) → i < j → j < length l → T (f (get_or l i 0) (get_or l j 0))
rising-at f [] r i j h k = absurd (omega arith)
rising-at f (x ∷ l) r i zero h k = absurd (omega arith)
rising-at f (x ∷ l) r zero (suc j) h k = r.0 (get_or l j 0) (at_mem l j (omega arith))
rising-at f (x ∷ l) r (suc i) (suc j) h k = rising-at f l r.1 i j (omega arith) (omega arith)

-- ---- the order of ends

-- arc a stands before arc b
unfoldable pub ends_first : List ℕ → ℕ → ℕ → Bool
unfolding lex
ends_first t a b = lex (to_at t a) (to_at t b) (ltb a b)

module _ (t : List ℕ) where
  ends-e : (a b : ℕ) → T (ends_first t a b) → (to_at t a < to_at t b) ⊎ ((to_at t a ≡ to_at t b) × (a < b))
  unfolding ends_first
  ends-e a b h = ⊎_elim inl (λ w. inr (w.0, ltb→lt a b w.1)) (lex-e (to_at t a) (to_at t b) (ltb a b) h)

  pub ends-i : (a b : ℕ) → (to_at t a < to_at t b) ⊎ ((to_at t a ≡ to_at t b) × (a < b)) → T (ends_first t a b)
  unfolding ends_first
  ends-i a b (inl h) = lex-lt (to_at t a) (to_at t b) (ltb a b) h
  ends-i a b (inr h) = lex-eq (to_at t a) (to_at t b) (ltb a b) h.0 (lt→ltb a b h.1)

  ends-irrefl : (a : ℕ) → T (ends_first t a a) → ⊥
  unfolding ends_first
  ends-irrefl a h = lt_irrefl a (lex_irrefl (to_at t a) (ltb a a) h)

  ends-trans : (a b c : ℕ) → T (ends_first t a b) → T (ends_first t b c) → T (ends_first t a c)
  unfolding ends_first
  ends-trans a b c = lex-trans (to_at t a) (to_at t b) (to_at t c) (ltb a b) (ltb b c) (ltb a c) (lt_trans a b c)

  -- numbers that rise, all of arcs that come to v
  same_end : (v : ℕ) (ns : List ℕ) → ((a : ℕ) → Memᴰ a ns → to_at t a ≡ v) → Rising ltb ns → Rising (ends_first t) ns
  same_end v [] f h = tt
  same_end v (a ∷ ns) f h = (
    λ b m. ends-i a b (inr (f a (Memᴰ.head refl) ∙ sym (f b (Memᴰ.tail m)), ltb→lt a b (h.0 b m))),
    same_end v ns (λ b m. f b (Memᴰ.tail m)) h.1,
  )

  entering-e : (v a : ℕ) → Memᴰ a (entering t v) → (a < records t) × (to_at t a ≡ v)
  unfolding entering
  entering-e v a m =
      let k = keep-e (λ a. eqb (to_at t a) v) a (up_from 0 (records t)) m in
      (omega (arith, up_from-e 0 (records t) a k.0), eqb→eq _ _ k.1)

  entering-i : (a : ℕ) → a < records t → Memᴰ a (entering t (to_at t a))
  unfolding entering
  entering-i a h = keep-i (λ b. eqb (to_at t b) (to_at t a)) (up_from-i 0 (records t) a (omega arith) (omega arith)) (eq→eqb (to_at t a) (to_at t a) refl)

  entering-rising : (v : ℕ) → Rising (ends_first t) (entering t v)
  unfolding entering
  entering-rising v = same_end v (entering t v) (λ a m. (entering-e v a m).1) (rising-keep ltb (λ a. eqb (to_at t a) v) (up_from 0 (records t)) (up_from-rising 0 (records t)))

  ends-rising : (i n : ℕ) → Rising (ends_first t) (flat_map (entering t) (up_from i n))
  unfolding up_from flat_map
  ends-rising i zero = tt
  ends-rising i (suc n) =
      rising-append (ends_first t) (entering t i) (flat_map (entering t) (up_from (suc i) n)) (entering-rising i) (ends-rising (suc i) n)
      (λ a b m k.
      let w = flat_map-e (entering t) b (up_from (suc i) n) k in
      ends-i a b (inl (omega (arith, (entering-e i a m).1, (entering-e w.0 b w.2).1, up_from-from (suc i) n w.0 w.1))))

module _ (nodes : ℕ) (t : List ℕ) (ok : table_fault nodes t ≡ good) where
  by_end-rising : Rising (ends_first t) (by_end nodes t)
  unfolding by_end
  by_end-rising = ends-rising t 0 nodes

  pub by_end-e : (a : ℕ) → Memᴰ a (by_end nodes t) → a < records t
  unfolding by_end
  by_end-e a m = let w = flat_map-e (entering t) a (up_from 0 nodes) m in (entering-e t w.0 a w.2).0

  by_end-i : (a : ℕ) → a < records t → Memᴰ a (by_end nodes t)
  unfolding by_end
  by_end-i a h = flat_map-i (entering t) (up_from-i 0 nodes (to_at t a) (omega arith) (omega (arith, (all-good nodes t ok a h).end))) (entering-i t a h)

  -- no more than arcs, by any list in the order
  rising-most : (ns : List ℕ) → ((a : ℕ) → Memᴰ a ns → a < records t) → Rising (ends_first t) ns → length ns ≤ records t
  rising-most ns f r =
      let h = distinct-length ns (up_from 0 (records t)) (rising-distinct (ends_first t) (ends-irrefl t) (ends-trans t) ns r) (λ a m. up_from-i 0 (records t) a (omega arith) (omega (arith, f a m))) in
      omega (arith, length-up_from 0 (records t))

  pub by_end-count : length (by_end nodes t) ≡ records t
  by_end-count =
      let least =
      distinct-length (up_from 0 (records t)) (by_end nodes t) (rising-distinct ltb lt_irrefl lt_trans (up_from 0 (records t)) (up_from-rising 0 (records t)))
      (λ a m. by_end-i a (omega (arith, up_from-e 0 (records t) a m))) in
      omega (arith, length-up_from 0 (records t), rising-most (by_end nodes t) by_end-e by_end-rising)

  -- ---- by places

  pub number-below : (j : ℕ) → j < records t → number_at nodes t j < records t
  number-below j h = by_end-e (number_at nodes t j) (at_mem (by_end nodes t) j (omega (arith, by_end-count)))

  pub place-of : (a : ℕ) → a < records t → (j : ℕ) × (j < records t) × (number_at nodes t j ≡ a)
  place-of a h = let w = mem-at a (by_end nodes t) (by_end-i a h) in (w.0, omega (arith, by_end-count, w.1), w.2)

  pub number-rises : (i j : ℕ) → i < j → j < records t
      → (to_at t (number_at nodes t i) < to_at t (number_at nodes t j)) ⊎ ((to_at t (number_at nodes t i) ≡ to_at t (number_at nodes t j)) × (number_at nodes t i < number_at nodes t j))
  number-rises i j h k = ends-e t (number_at nodes t i) (number_at nodes t j) (rising-at (ends_first t) (by_end nodes t) by_end-rising i j h (omega (arith, by_end-count)))

  -- as many arcs as there are, each before the next, are all of them in the order of the second table
  pub second_is : (ns : List ℕ) → ((a : ℕ) → Memᴰ a ns → a < records t) → length ns ≡ records t → Rising (ends_first t) ns → ns ≡ by_end nodes t
  second_is ns f e r =
      rising-unique (ends_first t) (ends-irrefl t) (ends-trans t) ns (by_end nodes t) r by_end-rising (λ a m. by_end-i a (f a m)) (λ a m. all a (by_end-e a m))
    where
      more : (a : ℕ) → a < records t → (x : ℕ) → (x ≡ a) ⊎ Memᴰ x ns → Memᴰ x (up_from 0 (records t))
      more a h x (inl i) = up_from-i 0 (records t) x (omega arith) (omega arith)
      more a h x (inr i) = up_from-i 0 (records t) x (omega arith) (omega (arith, f x i))

      one_more : (a : ℕ) → T (not (has a ns)) → T (distinct (a ∷ ns))
      one_more a k = distinct_cons a ns k (rising-distinct (ends_first t) (ends-irrefl t) (ends-trans t) ns r)

      too_many : (a : ℕ) → a < records t → T (not (has a ns)) → ⊥
      too_many a h k =
          let l = distinct-length (a ∷ ns) (up_from 0 (records t)) (one_more a k) (λ x m. more a h x (Memᴰ.cases_cons m)) in
          omega (arith, length-up_from 0 (records t))

      all : (a : ℕ) → a < records t → Memᴰ a ns
      all a h = ⊎_elim (λ k. has→mem a ns k) (λ k. absurd (too_many a h k)) (either (has a ns))
