-- The second table judged record by record. The place (end, lo) after a record is its end and the number after its arc's: what is before it in the order of ends is
-- passed. An arc found for the next record is not passed, so the arcs found rise; all n of them are `by_end`, and the bytes are right. Conversely in a right table
-- the place after j records parts `by_end` at j, so what is found for record j is the arc that it is: where nothing is found the table is wrong.
use mathlib.Core.Path.{◌≡◌, refl, sym, ap, subst, ◌∙◌}
use mathlib.Core.Bool.{true, false}
use mathlib.Core.List.Memᴰ
use mathlib.Core.List.{List, [], ◌∷◌, ◌++◌, Memᴰ}
use mathlib.Core.Logic.{◌⊎◌, inl, inr, ⊎_elim}
use Prim.Native.Nat.{ℕ, ◌+◌, ◌≤◌, ◌<◌}
use native.Mathlib.Omega.{arith}
use lib.Dec.{T, ltb, eqb}
use lib.ListN.{length, get_or, length-append, get_or-append}
use lib.Seq.{get_or_at}
use borrow.Author.Tests.{ltb-true, ltb-false, lt-ltb, le-ltb, eqb-true, eq-eqb}
use Rattle.lists.proofs.Cases.{cases, order}
use Rattle.table.specs.Table.{records, from_at, to_at, len_at, road_at}
use Rattle.table.specs.Fault.{table_fault, good}
use Rattle.second.specs.Second.{by_end, wrong_second, number_at, Next}
use Rattle.second.specs.Find.{next_from, look_from, alike, found_for}
use Rattle.second.proofs.ByEndLaws.{Rising, rising-append, ends_first, ends-i, by_end-count, number-below, number-rises, second_is}
use Rattle.second.proofs.SecondLaws.{Bytes, SameRecord, right-length, second-record, second-right}
use Rattle.second.proofs.ComingLaws.{next-i}
use Rattle.second.proofs.FindLaws.{and-true, next_le, next-e, next-is}

-- ---- what is found for a record

pub look-le : (end lo v n : ℕ) → lo ≤ n → look_from end lo v ≤ n
unfolding look_from
look-le end lo v n h = ⊎_elim (λ e. rw e (omega arith)) (λ e. rw e h) (cases (ltb end v))

-- not below the place: a later end, or the same one and a number from lo on
look-e : (end lo v a : ℕ) → end ≤ v → look_from end lo v ≤ a → (end < v) ⊎ ((end ≡ v) × (lo ≤ a))
unfolding look_from
look-e end lo v a h k = ⊎_elim (λ e. inl (ltb-true end v e)) (λ e. inr (omega (arith, ltb-false end v e), rw e at k)) (cases (ltb end v))

look-i : (end lo v a : ℕ) → (end < v) ⊎ ((end ≡ v) × (lo ≤ a)) → look_from end lo v ≤ a
unfolding look_from
look-i end lo v a (inl h) = rw (lt-ltb end v h) (omega arith)
look-i end lo v a (inr h) = rw (le-ltb end v (omega (arith, h.0))) h.1

module _ (t second : List ℕ) (j end lo : ℕ) where
  -- the arc looked for by the record's nodes
  abbrev pub candidate : ℕ
  candidate = next_from t (from_at second j) (to_at second j) (look_from end lo (to_at second j))

  pub found-order : to_at second j < end → found_for t second j end lo ≡ records t
  unfolding found_for
  found-order h = rw (lt-ltb (to_at second j) end h)

  pub found-unlike : end ≤ to_at second j → alike t candidate second j ≡ false → found_for t second j end lo ≡ records t
  unfolding found_for
  found-unlike h e = rw (le-ltb (to_at second j) end h, e)

  pub found_alike : end ≤ to_at second j → alike t candidate second j ≡ true → found_for t second j end lo ≡ candidate
  unfolding found_for
  found_alike h e = rw (le-ltb (to_at second j) end h, e)

  pub found_none : end ≤ to_at second j → lo ≤ records t → records t ≤ candidate → found_for t second j end lo ≡ records t
  found_none h l k =
      let e : candidate ≡ records t = omega (arith, next_le t (from_at second j) (to_at second j) (look_from end lo (to_at second j)) (look-le end lo (to_at second j) (records t) l)) in
      ⊎_elim (λ w. found_alike h w ∙ e) (λ w. found-unlike h w) (cases (alike t candidate second j))

  alike-e : (a : ℕ) → alike t a second j ≡ true → (len_at second j ≡ len_at t a) × (road_at second j ≡ road_at t a)
  unfolding alike
  alike-e a h = let k = and-true (eqb (len_at second j) (len_at t a)) (eqb (road_at second j) (road_at t a)) h in (eqb-true _ _ k.0, eqb-true _ _ k.1)

  alike-i : (a : ℕ) → len_at second j ≡ len_at t a → road_at second j ≡ road_at t a → alike t a second j ≡ true
  unfolding alike
  alike-i a p q = rw (eq-eqb (len_at second j) (len_at t a) p) (eq-eqb (road_at second j) (road_at t a) q)

  -- an arc with the record's bytes, not below the place
  record Found (a : ℕ) : Type 0 where
    bytes : SameRecord t a second j
    ahead : (end < to_at t a) ⊎ ((end ≡ to_at t a) × (lo ≤ a))

  found-e : lo ≤ records t → found_for t second j end lo < records t → Found (found_for t second j end lo)
  found-e l h =
      ⊎_elim (λ w. absurd (omega (arith, found-order w)))
      (λ w.
      ⊎_elim
      (λ e. subst Found (sym (found_alike w e)) (is w e))
      (λ e. absurd (omega (arith, found-unlike w e)))
      (cases (alike t candidate second j)))
      (swap (order end (to_at second j)))
    where
      swap : (end ≤ to_at second j) ⊎ (to_at second j < end) → (to_at second j < end) ⊎ (end ≤ to_at second j)
      swap (inl w) = inr w
      swap (inr w) = inl w

      is : end ≤ to_at second j → alike t candidate second j ≡ true → Found candidate
      is w e =
          let v = to_at second j in
          let k = next-e t (from_at second j) v (look_from end lo v) (look-le end lo v (records t) l) (omega (arith, found_alike w e)) in
          let y = alike-e candidate e in
          record {
            bytes = record { from = sym k.0; to = sym k.1; len = y.0; road = y.1 };
            ahead = subst (λ x. (end < x) ⊎ ((end ≡ x) × (lo ≤ candidate))) (sym k.1) (look-e end lo v candidate w k.2);
          }

-- what is passed stands before what is not
passed-before : (end lo v a w b : ℕ) → (v < end) ⊎ ((v ≡ end) × (a < lo)) → (end < w) ⊎ ((end ≡ w) × (lo ≤ b)) → (v < w) ⊎ ((v ≡ w) × (a < b))
passed-before end lo v a w b (inl h) (inl k) = inl (omega arith)
passed-before end lo v a w b (inl h) (inr k) = inl (omega (arith, k.0))
passed-before end lo v a w b (inr h) (inl k) = inl (omega (arith, h.0))
passed-before end lo v a w b (inr h) (inr k) = inr (h.0 ∙ k.0, omega (arith, h.1, k.1))

-- ---- the place after j records of a right table

record Place (nodes : ℕ) (t : List ℕ) (j end lo : ℕ) : Type 0 where
  behind : (i : ℕ) → i < j → (to_at t (number_at nodes t i) < end) ⊎ ((to_at t (number_at nodes t i) ≡ end) × (number_at nodes t i < lo))
  ahead : (i : ℕ) → j ≤ i → i < records t → (end < to_at t (number_at nodes t i)) ⊎ ((end ≡ to_at t (number_at nodes t i)) × (lo ≤ number_at nodes t i))

-- j records judged, and none refused: the arcs found for them, and the place after them
pub record Judged (nodes : ℕ) (t second : List ℕ) (j end lo : ℕ) : Type 0 where
  numbers : List ℕ
  count : length numbers ≡ j
  below : (a : ℕ) → Memᴰ a numbers → a < records t
  rising : Rising (ends_first t) numbers
  passed : (a : ℕ) → Memᴰ a numbers → (to_at t a < end) ⊎ ((to_at t a ≡ end) × (a < lo))
  bytes : (i : ℕ) → i < j → SameRecord t (get_or numbers i 0) second i
  placed : wrong_second nodes t second ≡ false → Place nodes t j end lo

module _ (nodes : ℕ) (t : List ℕ) (ok : table_fault nodes t ≡ good) where
  place-next : (j end lo : ℕ) → j < records t → Place nodes t j end lo → Next nodes t j (look_from end lo (to_at t (number_at nodes t j)))
  place-next j end lo h p =
      let v = to_at t (number_at nodes t j) in
      next-i nodes t ok j (look_from end lo v) h (look-i end lo v (number_at nodes t j) (p.ahead j (omega arith) h))
      (λ i k e.
      ⊎_elim
      (λ w. absurd (⊎_elim (λ x. omega arith) (λ x. omega (arith, x.0)) (p.ahead j (omega arith) h)))
      (λ w.
      let z = look-e end lo v (look_from end lo v) (omega (arith, w.0)) (omega arith) in
      ⊎_elim (λ x. absurd (omega (arith, w.0))) (λ x. omega (arith, w.1, x.1)) z)
      (p.behind i k))

  place-more : (j : ℕ) → j < records t → Place nodes t (j + 1) (to_at t (number_at nodes t j)) (number_at nodes t j + 1)
  place-more j h =
      record {
        behind = λ i k. ⊎_elim
            (λ w.
            let e : number_at nodes t i ≡ number_at nodes t j = ap (number_at nodes t) (omega arith) in
            inr (ap (λ x. to_at t x) e, omega arith))
            (λ w. ⊎_elim (λ x. inl x) (λ x. inr (x.0, omega (arith, x.1))) (number-rises nodes t ok i j w h))
            (order j i);
        ahead = λ i k l. ⊎_elim (λ x. inl x) (λ x. inr (x.0, omega (arith, x.1))) (number-rises nodes t ok j i (omega arith) l);
      }

  module _ (second : List ℕ) where
    found_right : wrong_second nodes t second ≡ false → (j end lo : ℕ) → j < records t → Place nodes t j end lo → found_for t second j end lo ≡ number_at nodes t j
    found_right right j end lo h p =
        let a = number_at nodes t j in
        let r = second-record nodes t ok second right j h in
        let next = place-next j end lo h p in
        let e : candidate t second j end lo ≡ a =
        rw (r.from, r.to) (next-is t (from_at t a) (to_at t a) (look_from end lo (to_at t a)) a next.above (number-below nodes t ok j h) refl refl next.none) in
        let w : end ≤ to_at second j = ⊎_elim (λ x. omega (arith, r.to)) (λ x. omega (arith, r.to, x.0)) (p.ahead j (omega arith) h) in
        found_alike t second j end lo w (rw e (alike-i t second j end lo a r.len r.road)) ∙ e

    -- ---- records judged one after the other

    pub judged-none : Judged nodes t second 0 0 0
    judged-none =
        record {
          numbers = [];
          count = refl;
          below = λ a m. absurd (Memᴰ.not-nil m);
          rising = tt;
          passed = λ a m. absurd (Memᴰ.not-nil m);
          bytes = λ i h. absurd (omega arith);
          placed = λ right. record {
            behind = λ i h. absurd (omega arith);
            ahead = λ i h k. ⊎_elim (λ w. inr (omega arith, omega arith)) (λ w. inl w) (order (to_at t (number_at nodes t i)) 0);
          };
        }

    more : (j end lo a : ℕ) → Judged nodes t second j end lo → Found t second j end lo a → a < records t → (wrong_second nodes t second ≡ false → Place nodes t (j + 1) (to_at t a) (a + 1))
        → Judged nodes t second (j + 1) (to_at t a) (a + 1)
    more j end lo a s f k p =
        record {
          numbers = s.numbers ++ (a ∷ []);
          count = simp length-append (omega (arith, s.count));
          below = λ b m. ⊎_elim (s.below b) (λ i. subst (λ x. x < records t) (sym (Memᴰ.eq_of_singleton i)) k) (Memᴰ.append_cases s.numbers m);
          rising = rising-append (ends_first t) s.numbers (a ∷ []) s.rising (λ y m. absurd (Memᴰ.not-nil m), tt)
              (λ x y m i. subst (λ z. T (ends_first t x z)) (sym (Memᴰ.eq_of_singleton i)) (ends-i t x a (before x m)));
          passed = λ b m. ⊎_elim (λ i. ⊎_elim (λ x. inl x) (λ x. inr (x.0, omega (arith, x.1))) (before b i)) (λ i. itself b (Memᴰ.eq_of_singleton i)) (Memᴰ.append_cases s.numbers m);
          bytes = λ i w. ⊎_elim (λ x. at i (omega arith)) (λ x. subst (λ b. SameRecord t b second i) (sym (get_or-append s.numbers (a ∷ []) 0 i (omega (arith, s.count)))) (s.bytes i x)) (order j i);
          placed = p;
        }
      where
        before : (b : ℕ) → Memᴰ b s.numbers → (to_at t b < to_at t a) ⊎ ((to_at t b ≡ to_at t a) × (b < a))
        before b m = passed-before end lo (to_at t b) b (to_at t a) a (s.passed b m) f.ahead

        itself : (b : ℕ) → b ≡ a → (to_at t b < to_at t a) ⊎ ((to_at t b ≡ to_at t a) × (b < a + 1))
        itself b e = inr (ap (λ x. to_at t x) e, omega arith)

        at : (i : ℕ) → i ≡ j → SameRecord t (get_or (s.numbers ++ (a ∷ [])) i 0) second i
        at i e =
            let g : get_or (s.numbers ++ (a ∷ [])) i 0 ≡ a = get_or_at s.numbers a [] 0 i (s.count ∙ sym e) in
            subst (λ b. SameRecord t b second i) (sym g) (subst (SameRecord t a second) (sym e) f.bytes)

    -- record j is found to be arc a
    pub judged-more : (j end lo a : ℕ) → j < records t → lo ≤ records t → a ≡ found_for t second j end lo → a < records t → Judged nodes t second j end lo → Judged nodes t second (j + 1) (to_at second j) (a + 1)
    judged-more j end lo a h l e k s =
        let f : Found t second j end lo a = subst (Found t second j end lo) (sym e) (found-e t second j end lo l (omega arith)) in
        subst (λ x. Judged nodes t second (j + 1) x (a + 1)) (sym f.bytes.to)
        (more j end lo a s f k (λ right. subst (λ x. Place nodes t (j + 1) (to_at t x) (x + 1)) (sym (e ∙ found_right right j end lo h (s.placed right))) (place-more j h)))

    -- nothing is found
    pub judged-wrong : (j end lo : ℕ) → j < records t → records t ≤ found_for t second j end lo → Judged nodes t second j end lo → wrong_second nodes t second ≡ true
    judged-wrong j end lo h k s =
        ⊎_elim (λ e. e)
        (λ right. absurd (omega (arith, found_right right j end lo h (s.placed right), number-below nodes t ok j h)))
        (cases (wrong_second nodes t second))

    -- all are found
    pub judged-right : Bytes t → Bytes second → length second ≡ length t → (j end lo : ℕ) → j ≡ records t → Judged nodes t second j end lo → wrong_second nodes t second ≡ false
    judged-right b c l j end lo e s =
        let z : s.numbers ≡ by_end nodes t = second_is nodes t ok s.numbers s.below (s.count ∙ e) s.rising in
        second-right nodes t ok second b c l (λ i h. subst (λ ns. SameRecord t (get_or ns i 0) second i) z (s.bytes i (omega (arith, by_end-count nodes t ok))))

    -- another length
    pub length-wrong : (length second ≡ length t → ⊥) → wrong_second nodes t second ≡ true
    length-wrong ne = ⊎_elim (λ e. e) (λ right. absurd (ne (right-length nodes t ok second right))) (cases (wrong_second nodes t second))
