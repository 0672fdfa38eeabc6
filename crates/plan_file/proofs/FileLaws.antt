-- The tests of a file's form, taken apart and made. What a record is wrong by stands in one formula of four tests, and so does a gap in one of two.
use mathlib.Core.Path.{◌≡◌, refl, sym, ◌∙◌}
use mathlib.Core.Bool.{Bool, true, false, not, ◌&&◌, ◌||◌, cond}
use mathlib.Core.List.{List}
use mathlib.Core.Logic.{◌≢◌, ◌⊎◌, inl, inr, ⊎_elim}
use Prim.Native.Nat.{ℕ, ◌+◌, ◌%◌, ◌<◌}
use native.Mathlib.Omega.{arith}
use lib.Dec.{eqb}
use lib.ListN.{length}
use borrow.Author.Tests.{eqb-true, eqb-false, not-false, eq-eqb, ne_eqb}
use Rattle.lists.specs.Tests.{up_from, any}
use Rattle.lists.proofs.Cases.{cases}
use Rattle.plan_record.specs.Record.{record_bytes, records, plan_at, rank_at, used_at, part_at, part_arcs, formed}
use Rattle.plan_file.specs.File.{is_part, is_double, follows, has_gap, wrong_at, wrong_file}
use Rattle.plan_file.specs.Pass.{Lower}
use Rattle.plan_file.proofs.ScanLaws.{any-yes, any_some, any_none, any-no}

pub and_both : (a b : Bool) → (a && b) ≡ true → (a ≡ true) × (b ≡ true)
and_both true b h = (refl, h)
and_both false b h = (h, cc)

-- ---- a length

not-whole : (a b : Bool) → a ≡ false → not a || b ≡ true
not-whole a b e = rw e

whole : (a b : Bool) → a ≡ true → not a || b ≡ b
whole a b e = rw e

module _ (f : List ℕ) where
  pub wrong-length : length f % record_bytes ≢ 0 → wrong_file f ≡ true
  unfolding wrong_file
  wrong-length h = not-whole (eqb (length f % record_bytes) 0) (any (wrong_at f) (up_from 0 (records f))) (ne_eqb _ _ h)

  pub wrong-records : length f % record_bytes ≡ 0 → wrong_file f ≡ any (wrong_at f) (up_from 0 (records f))
  unfolding wrong_file
  wrong-records h = whole (eqb (length f % record_bytes) 0) (any (wrong_at f) (up_from 0 (records f))) (eq-eqb _ _ h)

-- ---- a part

module _ (f : List ℕ) (plan rank part k : ℕ) where
  pub is_part-e : is_part f plan rank part k ≡ true → (plan_at f k ≡ plan) × (rank_at f k ≡ rank) × (part_at f k ≡ part)
  is_part-e h =
      let a = and_both (eqb (plan_at f k) plan) (eqb (rank_at f k) rank && eqb (part_at f k) part) h in
      let b = and_both (eqb (rank_at f k) rank) (eqb (part_at f k) part) a.1 in
      (eqb-true _ _ a.0, eqb-true _ _ b.0, eqb-true _ _ b.1)

  pub is_part-i : plan_at f k ≡ plan → rank_at f k ≡ rank → part_at f k ≡ part → is_part f plan rank part k ≡ true
  is_part-i p r q = rw (eq-eqb (plan_at f k) plan p, eq-eqb (rank_at f k) rank r, eq-eqb (part_at f k) part q)

-- ---- what comes after what

cond-e : {A : Type 0} (b : Bool) (x y : Bool) → cond b x y ≡ true → (b ≡ true → x ≡ true → A) → (b ≡ false → y ≡ true → A) → A
cond-e true x y h l r = l refl h
cond-e false x y h l r = r refl h

-- a record that another follows is of the same plan, and a lower part
pub follows-e : (f : List ℕ) (i j : ℕ) → follows f i j ≡ true → (plan_at f j ≡ plan_at f i) × Lower f j i
follows-e f i j h =
    let rest = cond (eqb (part_at f i) 0) (eqb (rank_at f j + 1) (rank_at f i)) (eqb (rank_at f j) (rank_at f i) && (eqb (part_at f j + 1) (part_at f i) && eqb (used_at f j) part_arcs)) in
    let a = and_both (eqb (plan_at f j) (plan_at f i)) rest h in
    let next = eqb (part_at f j + 1) (part_at f i) && eqb (used_at f j) part_arcs in (
      eqb-true _ _ a.0,
      cond-e {A = Lower f j i} (eqb (part_at f i) 0) (eqb (rank_at f j + 1) (rank_at f i)) (eqb (rank_at f j) (rank_at f i) && next) a.1
          (λ z r. inl (omega (arith, eqb-true (rank_at f j + 1) (rank_at f i) r)))
          (λ z r.
          let b = and_both (eqb (rank_at f j) (rank_at f i)) next r in
          let c = and_both (eqb (part_at f j + 1) (part_at f i)) (eqb (used_at f j) part_arcs) b.1 in
          inr (eqb-true _ _ b.0, omega (arith, eqb-true (part_at f j + 1) (part_at f i) c.0))),
    )

-- ---- a gap

abbrev pub first_part : List ℕ → ℕ → Bool
first_part f i = eqb (rank_at f i) 0 && eqb (part_at f i) 0

gap-tests : (a b : Bool) → (a ≡ true) ⊎ (b ≡ true) → not a && not b ≡ false
gap-tests true b w = refl
gap-tests false true w = refl
gap-tests false false w = ⊎_elim (λ e. sym e) (λ e. sym e) w

not_first : (a b : Bool) → a ≡ false → not a && not b ≡ not b
not_first a b e = rw e

module _ (f : List ℕ) (i : ℕ) where
  pub gap-first : first_part f i ≡ true → has_gap f i ≡ false
  unfolding has_gap
  gap-first e = gap-tests (first_part f i) (any (follows f i) (up_from 0 (records f))) (inl e)

  pub gap-follows : (j : ℕ) → j < records f → follows f i j ≡ true → has_gap f i ≡ false
  unfolding has_gap
  gap-follows j h e = gap-tests (first_part f i) (any (follows f i) (up_from 0 (records f))) (inr (any-yes (follows f i) (records f) j h e))

  pub gap-scan : first_part f i ≡ false → has_gap f i ≡ not (any (follows f i) (up_from 0 (records f)))
  unfolding has_gap
  gap-scan e = not_first (first_part f i) (any (follows f i) (up_from 0 (records f))) e

-- ---- a wrong record

unformed : (w z d g : Bool) → w ≡ false → not w || (not z && (d || g)) ≡ true
unformed w z d g e = rw e

free-is : (w z d g : Bool) → w ≡ true → z ≡ true → not w || (not z && (d || g)) ≡ false
free-is w z d g e y = rw (e, y)

doubled : (w z d g : Bool) → w ≡ true → z ≡ false → d ≡ true → not w || (not z && (d || g)) ≡ true
doubled w z d g e y x = rw (e, y, x)

gapped : (w z d g : Bool) → w ≡ true → z ≡ false → d ≡ false → not w || (not z && (d || g)) ≡ g
gapped w z d g e y x = rw (e, y, x)

module _ (f : List ℕ) (i : ℕ) where
  pub wrong-unformed : formed f i ≡ false → wrong_at f i ≡ true
  unfolding wrong_at
  wrong-unformed = unformed (formed f i) (eqb (plan_at f i) 0) (is_double f i) (has_gap f i)

  pub right-free : formed f i ≡ true → plan_at f i ≡ 0 → wrong_at f i ≡ false
  unfolding wrong_at
  right-free e z = free-is (formed f i) (eqb (plan_at f i) 0) (is_double f i) (has_gap f i) e (eq-eqb _ _ z)

  pub wrong-double : formed f i ≡ true → plan_at f i ≢ 0 → is_double f i ≡ true → wrong_at f i ≡ true
  unfolding wrong_at
  wrong-double e z d = doubled (formed f i) (eqb (plan_at f i) 0) (is_double f i) (has_gap f i) e (ne_eqb _ _ z) d

  pub wrong-gap : formed f i ≡ true → plan_at f i ≢ 0 → is_double f i ≡ false → wrong_at f i ≡ has_gap f i
  unfolding wrong_at
  wrong-gap e z d = gapped (formed f i) (eqb (plan_at f i) 0) (is_double f i) (has_gap f i) e (ne_eqb _ _ z) d

-- ---- a right record, and a right file

or-neither : (a b : Bool) → (a || b) ≡ false → (a ≡ false) × (b ≡ false)
or-neither true b h = (h, cc)
or-neither false b h = (refl, h)

right-tests : (w z d g : Bool) → not w || (not z && (d || g)) ≡ false → (w ≡ true) × (z ≡ false → (d ≡ false) × (g ≡ false))
right-tests true true d g h = (refl, λ e. (cc, cc))
right-tests true false d g h = (refl, λ e. or-neither d g h)
right-tests false z d g h = (sym h, λ e. (cc, cc))

module _ (f : List ℕ) (i : ℕ) where
  pub right-e : wrong_at f i ≡ false → (formed f i ≡ true) × (plan_at f i ≢ 0 → (is_double f i ≡ false) × (has_gap f i ≡ false))
  unfolding wrong_at
  right-e h =
      let w = right-tests (formed f i) (eqb (plan_at f i) 0) (is_double f i) (has_gap f i) h in
      (w.0, λ z. w.1 (ne_eqb _ _ z))

  pub right-i : formed f i ≡ true → (plan_at f i ≢ 0 → (is_double f i ≡ false) × (has_gap f i ≡ false)) → wrong_at f i ≡ false
  right-i e h =
      ⊎_elim
      (λ z. right-free f i e (eqb-true (plan_at f i) 0 z))
      (λ z.
      let n = eqb-false (plan_at f i) 0 z in
      wrong-gap f i e n (h n).0 ∙ (h n).1)
      (cases (eqb (plan_at f i) 0))

  -- no record before it is the same part
  pub single-e : is_double f i ≡ false → (k : ℕ) → k < i → plan_at f k ≡ plan_at f i → rank_at f k ≡ rank_at f i → part_at f k ≡ part_at f i → ⊥
  unfolding is_double
  single-e h k b p r q =
      let same = is_part f (plan_at f i) (rank_at f i) (part_at f i) in
      let n = any_none same i h k b in
      let y = is_part-i f (plan_at f i) (rank_at f i) (part_at f i) k p r q in
      let z : ◌≡◌ {A = ℕ} 0 1 = cc in
      omega arith

  pub single-i : ((k : ℕ) → k < i → plan_at f k ≡ plan_at f i → rank_at f k ≡ rank_at f i → part_at f k ≡ part_at f i → ⊥) → is_double f i ≡ false
  unfolding is_double
  single-i h =
      let same = is_part f (plan_at f i) (rank_at f i) (part_at f i) in
      any-no same i
      (λ k b.
      ⊎_elim
      (λ y.
      let v = is_part-e f (plan_at f i) (rank_at f i) (part_at f i) k y in
      absurd (h k b v.0 v.1 v.2))
      (λ n. n)
      (cases (same k)))

  -- it is the first part of the first rank, or comes right after some record
  pub gap-e : has_gap f i ≡ false → (first_part f i ≡ true) ⊎ ((j : ℕ) × (j < records f) × (follows f i j ≡ true))
  unfolding has_gap
  gap-e h = ⊎_elim (λ e. inl e) (λ e. inr (any_some (follows f i) (records f) e)) (no_gap (first_part f i) (any (follows f i) (up_from 0 (records f))) h)
    where
      no_gap : (a b : Bool) → not a && not b ≡ false → (a ≡ true) ⊎ (b ≡ true)
      no_gap true b e = inl refl
      no_gap false true e = inr refl
      no_gap false false e = inl (sym e)

pub right-file-e : (f : List ℕ) → wrong_file f ≡ false → (length f % record_bytes ≡ 0) × ((i : ℕ) → i < records f → wrong_at f i ≡ false)
unfolding wrong_file
right-file-e f h =
    let w = or-neither (not (eqb (length f % record_bytes) 0)) (any (wrong_at f) (up_from 0 (records f))) h in
    (eqb-true _ _ (not-false _ w.0), any_none (wrong_at f) (records f) w.1)

pub right-file-i : (f : List ℕ) → length f % record_bytes ≡ 0 → ((i : ℕ) → i < records f → wrong_at f i ≡ false) → wrong_file f ≡ false
right-file-i f e h = wrong-records f e ∙ any-no (wrong_at f) (records f) h
