-- The filter. A bit once set stays set, since the bits of an `or` are those of either side; so after the words of a slot are marked the bit of each arc among them is
-- set. Arcs of one road have one key. So an arc whose road an earlier answer drives has the bit of that answer's arc.
use mathlib.Core.Path.{◌≡◌, refl, sym, ap, subst, ◌∙◌}
use mathlib.Core.Bool.{Bool, true, false, not, ◌&&◌, cond}
use mathlib.Core.List.Memᴰ
use mathlib.Core.List.{List, [], ◌∷◌, Memᴰ}
use mathlib.Core.Logic.{◌≢◌, ◌⊎◌, inl, inr, ⊎_elim}
use Prim.Native.Nat.{ℕ, ◌+◌, ◌*◌, ◌/◌, ◌%◌, ◌^◌, max, ◌≤◌, ◌<◌}
use native.Mathlib.Omega.{arith}
use lib.Bits.{bit_or, or_shr, or_step}
use lib.Dec.{T, ltb, eqb}
use lib.ListN.{length, get_or, length-set, drop, drop_of_length-le}
use lib.Pow.{pow_pos, pow_mono}
use lib.Seq.{get_or-set_same, get_or-set_other, drop-cons}
use borrow.Author.Tests.{eq-eqb, ne_eqb, eqb-true, eqb-false, lt-ltb}
use native.Mathlib.Nat.{div_self}
use native.Mathlib.Numerals.{add-one}
use Rattle.lists.specs.Tests.{up_from}
use Rattle.lists.proofs.Cases.{cases, order}
use Rattle.lists.proofs.TestLaws.{any-e, keep-e}
use Rattle.lists.proofs.MemberLaws.{up_from-e}
use Rattle.words.specs.Part.{slot}
use Rattle.net.specs.Net.{road, same_road, driven}
use Rattle.table.specs.Table.{records, road_at, roads_of}
use Rattle.table.proofs.NetLaws.{road-is, road-past}
use Rattle.labels.specs.Field.{no_number}
use Rattle.search_ask.specs.Earlier.{route_in, earlier_in}
use Rattle.search_driven.specs.Marks.{mark_words, mark_bits, key_at, place_at, marked, with_mark, with_marks, Filter}

-- ---- bits

bit-or : (a b k : ℕ) → bit_or a b / 2 ^ k % 2 ≡ max (a / 2 ^ k % 2) (b / 2 ^ k % 2)
bit-or a b k = rw (or_shr a b k) (omega (arith, or_step (a / 2 ^ k) (b / 2 ^ k)))

bit_kept : (a b k : ℕ) → eqb (a / 2 ^ k % 2) 1 ≡ true → eqb (bit_or a b / 2 ^ k % 2) 1 ≡ true
bit_kept a b k e = eq-eqb (bit_or a b / 2 ^ k % 2) 1 (omega (arith, bit-or a b k, eqb-true (a / 2 ^ k % 2) 1 e))

-- a one shifted within a word of 64 bits
pub one_shifted : (k : ℕ) → k < 64 → 1 * 2 ^ k % 18446744073709551616 ≡ 2 ^ k
one_shifted k h = omega (arith, pow_mono {i = k} {j = 63} (omega arith))

power-bit : (k : ℕ) → 2 ^ k / 2 ^ k % 2 ≡ 1
power-bit k = rw (div_self (pow_pos k))

module _ (marks : List ℕ) (h : ℕ) (long : length marks ≡ mark_words) (below : h < mark_bits) where
  word-is : get_or (with_mark marks h) (h / 64) 0 ≡ bit_or (get_or marks (h / 64) 0) (2 ^ (h % 64))
  unfolding with_mark
  word-is = get_or-set_same marks (h / 64) _ 0 (omega arith)

  pub marked-new : marked (with_mark marks h) h ≡ true
  unfolding marked
  marked-new =
      rw word-is
      (eq-eqb (bit_or (get_or marks (h / 64) 0) (2 ^ (h % 64)) / 2 ^ (h % 64) % 2) 1
      (omega (arith, bit-or (get_or marks (h / 64) 0) (2 ^ (h % 64)) (h % 64), power-bit (h % 64))))

  other_word : (i : ℕ) → i ≢ h / 64 → get_or (with_mark marks h) i 0 ≡ get_or marks i 0
  unfolding with_mark
  other_word i ne = get_or-set_other marks (h / 64) i _ 0 ne

  pub marked-kept : (g : ℕ) → marked marks g ≡ true → marked (with_mark marks h) g ≡ true
  unfolding marked
  marked-kept g e =
      ⊎_elim
      (λ z.
      subst (λ i. eqb (get_or (with_mark marks h) i 0 / 2 ^ (g % 64) % 2) 1 ≡ true) (sym z)
      (rw word-is (bit_kept (get_or marks (h / 64) 0) (2 ^ (h % 64)) (g % 64) (subst (λ i. eqb (get_or marks i 0 / 2 ^ (g % 64) % 2) 1 ≡ true) z e))))
      (λ z. rw (other_word (g / 64) z) e)
      (split (g / 64) (h / 64))
    where
      split : (x y : ℕ) → (x ≡ y) ⊎ (x ≢ y)
      split x y = ⊎_elim (λ q. inl (eqb-true x y q)) (λ q. inr (eqb-false x y q)) (cases (eqb x y))

pub length-mark : (marks : List ℕ) (h : ℕ) → length (with_mark marks h) ≡ length marks
unfolding with_mark
length-mark marks h = length-set marks (h / 64) _

-- ---- the words of a slot

abbrev pub after : List ℕ → List ℕ → ℕ → List ℕ
after t marks x = cond (ltb x (records t)) (with_mark marks (place_at t x)) marks

pub after-long : (t marks : List ℕ) (x : ℕ) → length (after t marks x) ≡ length marks
after-long t marks x = go (ltb x (records t))
  where
    go : (b : Bool) → length (cond b (with_mark marks (place_at t x)) marks) ≡ length marks
    go true = length-mark marks (place_at t x)
    go false = refl

after_kept : (t marks : List ℕ) (x : ℕ) → length marks ≡ mark_words → (g : ℕ) → marked marks g ≡ true → marked (after t marks x) g ≡ true
after_kept t marks x long g e = go (ltb x (records t))
  where
    go : (b : Bool) → marked (cond b (with_mark marks (place_at t x)) marks) g ≡ true
    go true = marked-kept marks (place_at t x) long (omega arith) g e
    go false = e

module _ (t : List ℕ) where
  pub marks-long : (words marks : List ℕ) → length (with_marks t words marks) ≡ length marks
  unfolding with_marks
  marks-long [] marks = refl
  marks-long (x ∷ words) marks = marks-long words (after t marks x) ∙ after-long t marks x

  marks-kept : (words marks : List ℕ) → length marks ≡ mark_words → (g : ℕ) → marked marks g ≡ true → marked (with_marks t words marks) g ≡ true
  unfolding with_marks
  marks-kept [] marks long g e = e
  marks-kept (x ∷ words) marks long g e = marks-kept words (after t marks x) (after-long t marks x ∙ long) g (after_kept t marks x long g e)

  -- the bit of each arc among the words is set
  abbrev pub HasMarks : List ℕ → List ℕ → Type 0
  HasMarks words marks = (x : ℕ) → Memᴰ x words → x < records t → marked marks (place_at t x) ≡ true

  has_kept : (words others marks : List ℕ) → length marks ≡ mark_words → HasMarks words marks → HasMarks words (with_marks t others marks)
  has_kept words others marks long h x m k = marks-kept others marks long (place_at t x) (h x m k)

  has_new : (words marks : List ℕ) → length marks ≡ mark_words → HasMarks words (with_marks t words marks)
  unfolding with_marks
  has_new [] marks long x m k = absurd (Memᴰ.not-nil m)
  has_new (y ∷ words) marks long x m k =
      ⊎_elim
      (λ e.
      marks-kept words (after t marks y) (after-long t marks y ∙ long) (place_at t x)
      (rw (← e, lt-ltb x (records t) k) (marked-new marks (place_at t x) long (omega arith))))
      (λ n. has_new words (after t marks y) (after-long t marks y ∙ long) x n k)
      (Memᴰ.cases_cons m)

  -- the next of several slots
  pub has_more : (slots : ℕ → List ℕ) (marks : List ℕ) (j : ℕ) → length marks ≡ mark_words → ((i : ℕ) → i < j → HasMarks (slots i) marks)
      → (i : ℕ) → i < j + 1 → HasMarks (slots i) (with_marks t (slots j) marks)
  has_more slots marks j long h i k =
      ⊎_elim
      (λ w. subst (λ l. HasMarks (slots l) (with_marks t (slots j) marks)) (omega arith) (has_new (slots j) marks long))
      (λ w. has_kept (slots i) (slots j) marks long (h i w))
      (order j i)

  -- a loop over the words from i on
  module _ (words marks : List ℕ) (i : ℕ) where
    pub marks-done : length words ≤ i → with_marks t (drop i words) marks ≡ marks
    unfolding with_marks
    marks-done h = ap (λ l. with_marks t l marks) (drop_of_length-le words h)

    pub marks-step : i < length words → with_marks t (drop i words) marks ≡ with_marks t (drop (i + 1) words) (after t marks (get_or words i 0))
    unfolding with_marks
    marks-step h = rw (drop-cons words i 0 h, add-one i)

-- ---- one road, one key

key-road : (t : List ℕ) (a : ℕ) → road_at t a ≢ 0 → key_at t a ≡ road_at t a
unfolding key_at
key-road t a ne = rw (ne_eqb (road_at t a) 0 ne)

both : (x y : Bool) → (x && y) ≡ true → (x ≡ true) × (y ≡ true)
both true y e = (refl, e)
both false y e = let z : ◌≡◌ {A = ℕ} 0 1 = cc in absurd (omega arith)

module _ (t : List ℕ) (a x : ℕ) (below : a < records t) (same : same_road (roads_of t) a x ≡ true) where
  -- two arcs of one road are one, or have one road number that is not zero
  by_number : (a ≡ x) ⊎ ((road_at t a ≢ 0) × (road_at t a ≡ road (roads_of t) x))
  by_number = ⊎_elim (λ e. inl (eqb-true a x e)) (λ e. inr (numbers (both _ _ (rw e at same)))) (cases (eqb a x))
    where
      numbers : (not (eqb (road (roads_of t) a) 0) ≡ true) × (eqb (road (roads_of t) a) (road (roads_of t) x) ≡ true) → (road_at t a ≢ 0) × (road_at t a ≡ road (roads_of t) x)
      numbers w =
          let r = road-is t a below in (
            λ z. eqb-false (road (roads_of t) a) 0 (not-true (eqb (road (roads_of t) a) 0) w.0) (r ∙ z),
            sym r ∙ eqb-true _ _ w.1,
          )
        where
          not-true : (b : Bool) → not b ≡ true → b ≡ false
          not-true true e = let z : ◌≡◌ {A = ℕ} 0 1 = cc in absurd (omega arith)
          not-true false e = refl

  -- an arc past the table is of no arc's road
  pub same-below : x < records t
  same-below =
      ⊎_elim
      (λ e. omega arith)
      (λ w. ⊎_elim (λ p. absurd (w.0 (w.1 ∙ road-past t x p))) (λ p. p) (order (records t) x))
      by_number

  pub same_place : place_at t a ≡ place_at t x
  same_place =
      ap (λ k. k % mark_bits)
      (⊎_elim
      (λ e. ap (key_at t) e)
      (λ w.
      let r = w.1 ∙ road-is t x same-below in
      key-road t a w.0 ∙ r ∙ sym (key-road t x (λ z. w.0 (r ∙ z))))
      by_number)

-- ---- the earlier answers

slot-driven : (t words marks : List ℕ) → HasMarks t words marks → (a : ℕ) → a < records t → driven (roads_of t) (route_in words) a ≡ true → marked marks (place_at t a) ≡ true
unfolding driven route_in
slot-driven t words marks h a below e =
    let x = any-e (same_road (roads_of t) a) (route_in words) (subst T (sym e) tt) in
    let same : same_road (roads_of t) a x.0 ≡ true = T_true _ x.2 in
    let on-slot = keep-e (λ y. not (eqb y no_number)) x.0 words x.1 in
    rw (same_place t a x.0 below same) (h x.0 on-slot.0 (same-below t a x.0 below same))
  where
    T_true : (b : Bool) → T b → b ≡ true
    T_true true u = refl
    T_true false u = absurd u

marks-driven : (t area : List ℕ) (w r : ℕ) (marks : List ℕ) → ((j : ℕ) → j < r → HasMarks t (slot w j area) marks)
    → (a : ℕ) → a < records t → (p : List ℕ) → Memᴰ p (earlier_in w r area) → driven (roads_of t) p a ≡ true → marked marks (place_at t a) ≡ true
unfolding earlier_in
marks-driven t area w r marks h a below p m e =
    let j = Memᴰ.of_map (λ j. route_in (slot w j area)) (up_from 0 r) m in
    slot-driven t (slot w j.0 area) marks (h j.0 (omega (arith, up_from-e 0 r j.0 j.1))) a below (rw j.2 e)

pub filter : (t area : List ℕ) (w r : ℕ) (marks : List ℕ) → length marks ≡ mark_words → ((j : ℕ) → j < r → HasMarks t (slot w j area) marks) → Filter t (earlier_in w r area) marks
filter t area w r marks long h = record { long = long; marks-all = marks-driven t area w r marks h }

-- the bits of one slot
pub filter-slot : (t words marks : List ℕ) → length marks ≡ mark_words → Filter t (route_in words ∷ []) (with_marks t words marks)
filter-slot t words marks long =
    record {
      long = marks-long t words marks ∙ long;
      marks-all = λ a below p m e. ⊎_elim (λ z. slot-driven t words (with_marks t words marks) (has_new t words marks long) a below (rw (← z) e)) (λ n. absurd (Memᴰ.not-nil n)) (Memᴰ.cases_cons m);
    }

-- where the bit is not set, no earlier answer drives the arc's road
pub unmarked : {t : List ℕ} {earlier : List (List ℕ)} {marks : List ℕ} → Filter t earlier marks → (a : ℕ) → a < records t → marked marks (place_at t a) ≡ false
    → (p : List ℕ) → Memᴰ p earlier → driven (roads_of t) p a ≡ false
unmarked {t = t} {marks = marks} f a below e p m =
    ⊎_elim (λ (d : driven (roads_of t) p a ≡ true). absurd (clash (marked marks (place_at t a)) (f.marks-all a below p m d) e)) (λ d. d) (cases (driven (roads_of t) p a))
  where
    clash : (b : Bool) → b ≡ true → b ≡ false → ⊥
    clash b x y = let z : ◌≡◌ {A = Bool} true false = sym x ∙ y in let n : ◌≡◌ {A = ℕ} 0 1 = cc in omega arith
