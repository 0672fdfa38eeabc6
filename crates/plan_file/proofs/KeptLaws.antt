-- A plan kept over a change of the file. Soundness is a matter of each plan by itself: doubles and gaps are told within one plan. So where the records of a plan
-- stand in the new file byte by byte, each in one place and no other records of it with them, the plan is as sound as it was and means what it meant.
use mathlib.Core.Path.{◌≡◌, refl, sym, ap, ◌∙◌}
use mathlib.Core.Bool.{true}
use mathlib.Core.List.{List}
use mathlib.Core.Logic.{◌≢◌, ◌⊎◌, inl, inr, ⊎_elim}
use Prim.Native.Nat.{ℕ, ◌%◌, ◌<◌}
use native.Mathlib.Decide.{ℕ_discrete}
use lib.ListN.{length}
use Rattle.words.specs.Part.{slot}
use Rattle.plan_record.specs.Record.{record_bytes, records, plan_at, rank_at, part_at, arcs_at, formed}
use Rattle.plan_record.proofs.RecordLaws.{plan-of, rank-of, used-of, part_of, arcs-of, formed-of}
use Rattle.plan_file.specs.File.{follows}
use Rattle.plan_file.specs.Meaning.{place_of, has_part, plan_in, has_plan}
use Rattle.plan_file.proofs.EachLaws.{same_test}
use Rattle.plan_file.proofs.SoundLaws.{is-part-e, is-part-i, Sound}
use Rattle.plan_file.proofs.SameLaws.{plan-same}
use Rattle.plan_file.proofs.ThereLaws.{follows-e, Stands, stands-e, stands-i, has-plan-e, has-plan-i}

-- ---- one plan of a file

-- the first part of the first rank, or a record that comes after one
abbrev pub Linked : List ℕ → ℕ → Type 0
Linked f i = ((rank_at f i ≡ 0) × (part_at f i ≡ 0)) ⊎ ((j : ℕ) × (j < records f) × (follows f i j ≡ true))

pub record SoundPlan (f : List ℕ) (plan : ℕ) : Type 0 where
  pub formed : (i : ℕ) → i < records f → plan_at f i ≡ plan → formed f i ≡ true
  pub single : (i j : ℕ) → i < records f → j < records f → plan_at f i ≡ plan → plan_at f j ≡ plan → rank_at f i ≡ rank_at f j → part_at f i ≡ part_at f j → i ≡ j
  pub linked : (i : ℕ) → i < records f → plan_at f i ≡ plan → Linked f i

pub sound-plan : (f : List ℕ) (plan : ℕ) → plan ≢ 0 → Sound f → SoundPlan f plan
sound-plan f plan some s =
    record {
      formed = λ i b e. s.formed i b;
      single = λ i j a b e d r p.
          s.single i j a b (λ z. some (sym e ∙ z)) (is-part-i f (plan_at f i) (rank_at f i) (part_at f i) j (d ∙ sym e) (sym r) (sym p));
      linked = λ i b e. s.linked i b (λ z. some (sym e ∙ z));
    }

pub sound-plans : (f : List ℕ) → length f % record_bytes ≡ 0 → ((i : ℕ) → i < records f → plan_at f i ≡ 0 → formed f i ≡ true)
    → ((plan : ℕ) → plan ≢ 0 → SoundPlan f plan) → Sound f
sound-plans f whole blanks plans =
    record {
      whole = whole;
      formed = λ i b. go i b (ℕ_discrete (plan_at f i) 0);
      single = λ i j a b ne t.
          let w = is-part-e f (plan_at f i) (rank_at f i) (part_at f i) j t in
          (plans (plan_at f i) ne).single i j a b refl w.0 (sym w.1) (sym w.2);
      linked = λ i b ne. (plans (plan_at f i) ne).linked i b refl;
    }
  where
    go : (i : ℕ) → i < records f → Dec (plan_at f i ≡ 0) → formed f i ≡ true
    go i b (yes e) = blanks i b e
    go i b (no e) = (plans (plan_at f i) e).formed i b refl

-- a plan of which no record stands
pub sound-absent : (f : List ℕ) (plan : ℕ) → ((i : ℕ) → i < records f → plan_at f i ≢ plan) → SoundPlan f plan
sound-absent f plan h = record { formed = λ i b e. absurd (h i b e); single = λ i j a b e d r p. absurd (h i a e); linked = λ i b e. absurd (h i b e) }

-- ---- a plan kept

follows_same : (f g : List ℕ) (i j k l : ℕ) → slot record_bytes k g ≡ slot record_bytes i f → slot record_bytes l g ≡ slot record_bytes j f → follows f i j ≡ true → follows g k l ≡ true
follows_same f g i j k l a b h =
    let e : follows g k l ≡ follows f i j =
    cc (plan-of g f k i a, rank-of g f k i a, part_of g f k i a, plan-of g f l j b, rank-of g f l j b, part_of g f l j b, used-of g f l j b) in
    e ∙ h

pub record Kept (f g : List ℕ) (plan : ℕ) : Type 0 where
  pub into : (i : ℕ) → i < records f → plan_at f i ≡ plan → (j : ℕ) × (j < records g) × (slot record_bytes j g ≡ slot record_bytes i f)
  pub source : ℕ → ℕ
  pub from : (j : ℕ) → j < records g → plan_at g j ≡ plan → (source j < records f) × (slot record_bytes (source j) f ≡ slot record_bytes j g)
  pub apart : (j k : ℕ) → j < records g → k < records g → plan_at g j ≡ plan → plan_at g k ≡ plan → source j ≡ source k → j ≡ k

module _ (f g : List ℕ) (plan : ℕ) (k : Kept f g plan) where
  kept-stands : (rank part : ℕ) → Stands f plan rank part → Stands g plan rank part
  kept-stands rank part w =
      let v = k.into w.0 w.1 w.2 in
      let j = v.0 in
      (j, v.1, plan-of g f j w.0 v.2 ∙ w.2, rank-of g f j w.0 v.2 ∙ w.3, part_of g f j w.0 v.2 ∙ w.4)

  stands-kept : (rank part : ℕ) → Stands g plan rank part → Stands f plan rank part
  stands-kept rank part w =
      let i = k.source w.0 in
      let v = k.from w.0 w.1 w.2 in
      (i, v.0, plan-of f g i w.0 v.1 ∙ w.2, rank-of f g i w.0 v.1 ∙ w.3, part_of f g i w.0 v.1 ∙ w.4)

  pub kept_there : has_plan g plan ≡ has_plan f plan
  kept_there =
      same_test (has_plan g plan) (has_plan f plan)
      (λ h.
      let w = has-plan-e g plan h in
      let v = k.from w.0 w.1 w.2 in
      has-plan-i f plan (k.source w.0) v.0 (plan-of f g (k.source w.0) w.0 v.1 ∙ w.2))
      (λ h.
      let w = has-plan-e f plan h in
      let v = k.into w.0 w.1 w.2 in
      has-plan-i g plan v.0 v.1 (plan-of g f v.0 w.0 v.2 ∙ w.2))

  module _ (s : SoundPlan f plan) where
    kept-linked : (j : ℕ) → j < records g → plan_at g j ≡ plan → Linked g j
    kept-linked j b e =
        let v = k.from j b e in
        let i = k.source j in
        let d : plan_at f i ≡ plan = plan-of f g i j v.1 ∙ e in
        ⊎_elim
        (λ u. inl (sym (rank-of f g i j v.1) ∙ u.0, sym (part_of f g i j v.1) ∙ u.1))
        (λ u.
        let t = k.into u.0 u.1 ((follows-e f i u.0 u.2).0 ∙ d) in
        inr (t.0, t.1, follows_same f g i u.0 j t.0 (sym v.1) t.2 u.2))
        (s.linked i v.0 d)

    kept-single : (i j : ℕ) → i < records g → j < records g → plan_at g i ≡ plan → plan_at g j ≡ plan → rank_at g i ≡ rank_at g j → part_at g i ≡ part_at g j → i ≡ j
    kept-single i j a b e d r p =
        let u = k.from i a e in
        let v = k.from j b d in
        let x = k.source i in
        let y = k.source j in
        k.apart i j a b e d
        (s.single x y u.0 v.0 (plan-of f g x i u.1 ∙ e) (plan-of f g y j v.1 ∙ d)
        (rank-of f g x i u.1 ∙ r ∙ sym (rank-of f g y j v.1))
        (part_of f g x i u.1 ∙ p ∙ sym (part_of f g y j v.1)))

    pub kept-sound : SoundPlan g plan
    kept-sound =
        record {
          formed = λ j b e.
              let v = k.from j b e in
              let i = k.source j in
              sym (formed-of f g i j v.1) ∙ s.formed i v.0 (plan-of f g i j v.1 ∙ e);
          single = kept-single;
          linked = kept-linked;
        }

    -- the arcs of a part stand where its place is
    kept-arcs : (rank part : ℕ) → has_part g plan rank part ≡ true → has_part f plan rank part ≡ true
        → arcs_at g (place_of g plan rank part) ≡ arcs_at f (place_of f plan rank part)
    kept-arcs rank part h t =
        let w = stands-i g plan rank part h in
        let v = k.from w.0 w.1 w.2 in
        let i = k.source w.0 in
        let u = stands-i f plan rank part t in
        let e : i ≡ u.0 =
        s.single i u.0 v.0 u.1 (plan-of f g i w.0 v.1 ∙ w.2) u.2 (rank-of f g i w.0 v.1 ∙ w.3 ∙ sym u.3)
        (part_of f g i w.0 v.1 ∙ w.4 ∙ sym u.4) in
        sym (arcs-of f g i w.0 v.1) ∙ ap (arcs_at f) e

    pub kept-plan : records g ≡ records f → plan_in g plan ≡ plan_in f plan
    kept-plan count =
        let has : (rank part : ℕ) → has_part g plan rank part ≡ has_part f plan rank part =
        λ rank part.
        same_test (has_part g plan rank part) (has_part f plan rank part)
        (λ h. stands-e f plan rank part (stands-kept rank part (stands-i g plan rank part h)))
        (λ h. stands-e g plan rank part (kept-stands rank part (stands-i f plan rank part h))) in
        plan-same g f plan (record { count = count; has = has; arcs = λ rank part h. kept-arcs rank part h (sym (has rank part) ∙ h) })
