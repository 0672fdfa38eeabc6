-- A file with nothing wrong, in propositions: `wrong_file` is one test after the other, so each fact of `Sound` is the failure of one of them at a record, and
-- together they leave no test to fire. A double is told by the later record alone: of two records that are one part, the later one has the other before it.
use mathlib.Core.Path.{◌≡◌, sym, ◌∙◌}
use mathlib.Core.Bool.{true, false, not, ◌&&◌, ◌||◌}
use mathlib.Core.List.{List}
use mathlib.Core.Logic.{◌≢◌, ◌⊎◌, inl, inr, ⊎_elim}
use Prim.Native.Nat.{ℕ, ◌%◌, ◌<◌}
use native.Mathlib.Omega.{arith}
use native.Mathlib.Decide.{ℕ_discrete}
use lib.Dec.{eqb}
use lib.ListN.{length}
use borrow.Author.Tests.{eqb-true, eq-eqb, ne_eqb, not-false}
use Rattle.lists.specs.Tests.{up_from, any}
use Rattle.lists.proofs.Cases.{cases, three_ways}
use Rattle.plan_record.specs.Record.{record_bytes, records, plan_at, rank_at, part_at, formed}
use Rattle.plan_file.specs.File.{is_part, is_double, follows, has_gap, wrong_at, wrong_file}
use Rattle.plan_file.proofs.EachLaws.{clash, untrue, and-true, or-false, and-false, any_none, none_any, any-one, one-any}

-- ---- one part

module _ (f : List ℕ) (plan rank part i : ℕ) where
  pub is-part-e : is_part f plan rank part i ≡ true → (plan_at f i ≡ plan) × (rank_at f i ≡ rank) × (part_at f i ≡ part)
  is-part-e h =
      let p = eqb (plan_at f i) plan in
      let r = eqb (rank_at f i) rank in
      let q = eqb (part_at f i) part in
      let v = and-true p (r && q) h in
      let w = and-true r q v.1 in
      (eqb-true (plan_at f i) plan v.0, eqb-true (rank_at f i) rank w.0, eqb-true (part_at f i) part w.1)

  pub is-part-i : plan_at f i ≡ plan → rank_at f i ≡ rank → part_at f i ≡ part → is_part f plan rank part i ≡ true
  is-part-i a b c = rw (eq-eqb (plan_at f i) plan a, eq-eqb (rank_at f i) rank b, eq-eqb (part_at f i) part c)

-- ---- a sound file

pub record Sound (f : List ℕ) : Type 0 where
  pub whole : length f % record_bytes ≡ 0
  pub formed : (i : ℕ) → i < records f → formed f i ≡ true
  pub single : (i j : ℕ) → i < records f → j < records f → plan_at f i ≢ 0 → is_part f (plan_at f i) (rank_at f i) (part_at f i) j ≡ true → i ≡ j
  pub linked : (i : ℕ) → i < records f → plan_at f i ≢ 0 → ((rank_at f i ≡ 0) × (part_at f i ≡ 0)) ⊎ ((j : ℕ) × (j < records f) × (follows f i j ≡ true))

module _ (f : List ℕ) where
  -- no test fires at a record
  right-e : (i : ℕ) → wrong_at f i ≡ false → (formed f i ≡ true) × (plan_at f i ≢ 0 → (is_double f i ≡ false) × (has_gap f i ≡ false))
  unfolding wrong_at
  right-e i h =
      let w = or-false (not (formed f i)) (not (eqb (plan_at f i) 0) && (is_double f i || has_gap f i)) h in
      (not-false (formed f i) w.0, λ ne. or-false (is_double f i) (has_gap f i) (rw (ne_eqb (plan_at f i) 0 ne) at w.1))

  right-i : (i : ℕ) → formed f i ≡ true → (plan_at f i ≢ 0 → (is_double f i ≡ false) × (has_gap f i ≡ false)) → wrong_at f i ≡ false
  unfolding wrong_at
  right-i i t h = go (ℕ_discrete (plan_at f i) 0)
    where
      go : Dec (plan_at f i ≡ 0) → (not (formed f i) || (not (eqb (plan_at f i) 0) && (is_double f i || has_gap f i))) ≡ false
      go (yes e) = rw (t, eq-eqb (plan_at f i) 0 e)
      go (no e) = rw (t, (h e).0, (h e).1, ne_eqb (plan_at f i) 0 e)

  -- no double
  single-e : (i j : ℕ) → is_double f i ≡ false → j < i → is_part f (plan_at f i) (rank_at f i) (part_at f i) j ≡ false
  unfolding is_double
  single-e i j h b = any_none (is_part f (plan_at f i) (rank_at f i) (part_at f i)) 0 i j h (omega arith) (omega arith)

  -- no gap
  linked-e : (i : ℕ) → has_gap f i ≡ false → ((rank_at f i ≡ 0) × (part_at f i ≡ 0)) ⊎ ((j : ℕ) × (j < records f) × (follows f i j ≡ true))
  unfolding has_gap
  linked-e i h =
      let first = eqb (rank_at f i) 0 && eqb (part_at f i) 0 in
      let some = any (follows f i) (up_from 0 (records f)) in
      ⊎_elim
      (λ e.
      let w = and-true (eqb (rank_at f i) 0) (eqb (part_at f i) 0) (not-false first e) in
      inl (eqb-true (rank_at f i) 0 w.0, eqb-true (part_at f i) 0 w.1))
      (λ e.
      let w = any-one (follows f i) 0 (records f) (not-false some e) in
      inr (w.0, omega (arith, w.2), w.3))
      (and-false (not first) (not some) h)

  linked-i : (i : ℕ) → ((rank_at f i ≡ 0) × (part_at f i ≡ 0)) ⊎ ((j : ℕ) × (j < records f) × (follows f i j ≡ true)) → has_gap f i ≡ false
  unfolding has_gap
  linked-i i (inl w) = rw (eq-eqb (rank_at f i) 0 w.0, eq-eqb (part_at f i) 0 w.1)
  linked-i i (inr w) =
      let e = one-any (follows f i) 0 (records f) w.0 (omega arith) (omega (arith, w.1)) w.2 in
      let first = eqb (rank_at f i) 0 && eqb (part_at f i) 0 in
      rw e (⊎_elim (λ z. rw z) (λ z. rw z) (cases first))

  pub sound-e : wrong_file f ≡ false → Sound f
  unfolding wrong_file
  sound-e h =
      let w = or-false (not (eqb (length f % record_bytes) 0)) (any (wrong_at f) (up_from 0 (records f))) h in
      let right : (i : ℕ) → i < records f → (formed f i ≡ true) × (plan_at f i ≢ 0 → (is_double f i ≡ false) × (has_gap f i ≡ false)) =
      λ i b. right-e i (any_none (wrong_at f) 0 (records f) i w.1 (omega arith) (omega arith)) in
      record {
        whole = eqb-true (length f % record_bytes) 0 (not-false (eqb (length f % record_bytes) 0) w.0);
        formed = λ i b. (right i b).0;
        single = λ i j a b ne t. one i j (λ u. ((right i a).1 u).0) (λ u. ((right j b).1 u).0) ne t (three_ways i j);
        linked = λ i b ne. linked-e i ((right i b).1 ne).1;
      }
    where
      one : (i j : ℕ) → (plan_at f i ≢ 0 → is_double f i ≡ false) → (plan_at f j ≢ 0 → is_double f j ≡ false) → plan_at f i ≢ 0
          → is_part f (plan_at f i) (rank_at f i) (part_at f i) j ≡ true → (i < j) ⊎ (i ≡ j) ⊎ (j < i) → i ≡ j
      one i j a b ne t (inr (inl e)) = e
      one i j a b ne t (inr (inr l)) = absurd (clash _ t (single-e i j (a ne) l))
      one i j a b ne t (inl l) =
          let w = is-part-e f (plan_at f i) (rank_at f i) (part_at f i) j t in
          absurd (clash _ (is-part-i f (plan_at f j) (rank_at f j) (part_at f j) i (sym w.0) (sym w.1) (sym w.2)) (single-e j i (b (λ z. ne (sym w.0 ∙ z))) l))

  pub sound-i : Sound f → wrong_file f ≡ false
  unfolding wrong_file is_double
  sound-i s =
      rw (eq-eqb (length f % record_bytes) 0 s.whole)
      (none_any (wrong_at f) 0 (records f)
      (λ i a b.
      right-i i (s.formed i (omega arith))
      (λ ne. (
        none_any (is_part f (plan_at f i) (rank_at f i) (part_at f i)) 0 i
            (λ j c d. untrue _ (λ t. omega (arith, s.single i j (omega arith) (omega arith) ne t))),
        linked-i i (s.linked i (omega arith) ne),
      ))))
