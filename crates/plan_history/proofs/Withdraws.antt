-- What a withdrawal leaves: the records of the plan all zero, every other record byte by byte as it was. So no record of the plan is left, and every other plan is
-- kept where it stands; the file is sound again, and a store takes the records that were the plan's.
use mathlib.Core.Path.{◌≡◌, sym, ap, ◌∙◌}
use mathlib.Core.Bool.{true, false, not, cond}
use mathlib.Core.List.{List, [], flat_map, append-nil}
use mathlib.Core.Logic.{◌≢◌, ◌⊎◌, inl, inr, ⊎_elim}
use Prim.Native.Nat.{ℕ, zero, suc, ◌+◌, ◌/◌, ◌%◌, ◌<◌}
use native.Mathlib.Omega.{arith}
use native.Mathlib.Decide.{ℕ_discrete}
use lib.Dec.{eqb}
use lib.ListN.{length, get_or}
use borrow.Author.Tests.{eq-eqb, ne_eqb, eqb-false, not-false}
use Rattle.lists.specs.Tests.{up_from}
use Rattle.lists.proofs.Cases.{cases}
use Rattle.lists.proofs.MemberLaws.{length-up_from}
use Rattle.words.specs.Part.{slot}
use Rattle.outcome.specs.Outcome.{found, plan_request, plan_there}
use Rattle.plan_record.specs.Record.{record_bytes, records, plan_at, formed, free}
use Rattle.plan_record.proofs.RecordLaws.{plan-of, formed-of}
use Rattle.plan_record.proofs.StoreLaws.{length-slot}
use Rattle.plan_file.specs.File.{wrong_file}
use Rattle.plan_file.specs.Meaning.{plan_in, has_plan, free_in}
use Rattle.plan_file.proofs.SoundLaws.{Sound, sound-e, sound-i}
use Rattle.plan_file.proofs.ThereLaws.{absent-i, absent_none}
use Rattle.plan_file.proofs.KeptLaws.{SoundPlan, sound-plan, sound-plans, sound-absent, Kept, kept-sound, kept-plan}
use Rattle.plan_change.specs.Change.{withdrawn_in, withdraw_outcome}
use Rattle.plan_history.proofs.RowLaws.{plan-free, formed-free}
use Rattle.plan_history.proofs.AnswerLaws.{passed}
use Rattle.plan_history.proofs.PlacedLaws.{free-i}
use Rattle.plan_history.proofs.SlotsLaws.{length-pieces, slot-piece}

get_or-up_from : (i n k : ℕ) → k < n → get_or (up_from i n) k 0 ≡ i + k
unfolding up_from
get_or-up_from i zero k h = absurd (omega arith)
get_or-up_from i (suc n) zero h = omega arith
get_or-up_from i (suc n) (suc k) h = get_or-up_from (suc i) n k (omega arith) ∙ omega arith

-- ---- the records afterwards

module _ (f : List ℕ) (plan : ℕ) where
  -- record i afterwards
  left : ℕ → List ℕ
  left i = cond (eqb (plan_at f i) plan) free (slot record_bytes i f)

  length-left : (i : ℕ) → i < records f → length (left i) ≡ record_bytes
  unfolding left
  length-left i b =
      ⊎_elim (λ e. rw e) (λ e. rw e (length-slot f i i b b)) (cases (eqb (plan_at f i) plan))

  lefts : (k : ℕ) → k < length (up_from 0 (records f)) → length (left (get_or (up_from 0 (records f)) k 0)) ≡ record_bytes
  lefts k b =
      let c : k < records f = omega (arith, length-up_from 0 (records f)) in
      length-left (get_or (up_from 0 (records f)) k 0) (omega (arith, get_or-up_from 0 (records f) k c))

  length-withdrawn : length f % record_bytes ≡ 0 → length (withdrawn_in f plan) ≡ length f
  unfolding withdrawn_in left
  length-withdrawn h = length-pieces record_bytes left (up_from 0 (records f)) lefts ∙ omega (arith, length-up_from 0 (records f))

  withdrawn-slot : (i : ℕ) → i < records f → slot record_bytes i (withdrawn_in f plan) ≡ left i
  unfolding withdrawn_in left
  withdrawn-slot i b =
      let l = up_from 0 (records f) in
      ap (slot record_bytes i) (sym (append-nil (flat_map left l))) ∙ slot-piece record_bytes left l [] i lefts (omega (arith, length-up_from 0 (records f)))
      ∙ ap left (omega (arith, get_or-up_from 0 (records f) i b))

  -- a record of the plan is free, another is as it was
  withdrawn-free : (i : ℕ) → i < records f → plan_at f i ≡ plan → slot record_bytes i (withdrawn_in f plan) ≡ free
  unfolding left
  withdrawn-free i b e = withdrawn-slot i b ∙ rw (eq-eqb (plan_at f i) plan e)

  withdrawn-other : (i : ℕ) → i < records f → plan_at f i ≢ plan → slot record_bytes i (withdrawn_in f plan) ≡ slot record_bytes i f
  unfolding left
  withdrawn-other i b e = withdrawn-slot i b ∙ rw (ne_eqb (plan_at f i) plan e)

-- ---- the file afterwards

module _ (f : List ℕ) (plan : ℕ) (s : Sound f) (some : plan ≢ 0) where
  same_count : records (withdrawn_in f plan) ≡ records f
  same_count = ap (λ n. n / record_bytes) (length-withdrawn f plan s.whole)

  -- a record afterwards is free, or as it was and of another plan
  each_left : (i : ℕ) → i < records f
      → (slot record_bytes i (withdrawn_in f plan) ≡ free) ⊎ ((plan_at f i ≢ plan) × (slot record_bytes i (withdrawn_in f plan) ≡ slot record_bytes i f))
  each_left i b = go (ℕ_discrete (plan_at f i) plan)
    where
      go : Dec (plan_at f i ≡ plan) → (slot record_bytes i (withdrawn_in f plan) ≡ free) ⊎ ((plan_at f i ≢ plan) × (slot record_bytes i (withdrawn_in f plan) ≡ slot record_bytes i f))
      go (yes e) = inl (withdrawn-free f plan i b e)
      go (no e) = inr (e, withdrawn-other f plan i b e)

  withdrawn-kept : (q : ℕ) → q ≢ plan → q ≢ 0 → Kept f (withdrawn_in f plan) q
  withdrawn-kept q ne nz =
      let g = withdrawn_in f plan in
      record {
        into = λ i b e. (i, omega (arith, same_count), withdrawn-other f plan i b (λ z. ne (sym e ∙ z)));
        source = λ i. i;
        from = λ i b e.
            let c : i < records f = omega (arith, same_count) in
            (c, ⊎_elim (λ w. absurd (nz (sym e ∙ plan-free g i b w))) (λ w. sym w.1) (each_left i c));
        apart = λ i j a b c d e. e;
      }

  gone : (i : ℕ) → i < records (withdrawn_in f plan) → plan_at (withdrawn_in f plan) i ≢ plan
  gone i b e =
      let g = withdrawn_in f plan in
      ⊎_elim (λ w. some (sym e ∙ plan-free g i b w)) (λ w. w.0 (sym (plan-of g f i i w.1) ∙ e)) (each_left i (omega (arith, same_count)))

  withdrawn-sound : Sound (withdrawn_in f plan)
  withdrawn-sound =
      let g = withdrawn_in f plan in
      sound-plans g (ap (λ n. n % record_bytes) (length-withdrawn f plan s.whole) ∙ s.whole)
      (λ i b e.
      let c : i < records f = omega (arith, same_count) in
      ⊎_elim (λ w. formed-free g i b w) (λ w. formed-of g f i i w.1 ∙ s.formed i c) (each_left i c))
      (λ q nz. go q nz (ℕ_discrete q plan))
    where
      go : (q : ℕ) → q ≢ 0 → Dec (q ≡ plan) → SoundPlan (withdrawn_in f plan) q
      go q nz (yes e) = sound-absent (withdrawn_in f plan) q (λ i b d. gone i b (d ∙ e))
      go q nz (no e) = kept-sound f (withdrawn_in f plan) q (withdrawn-kept q e nz) (sound-plan f q nz s)

  withdrawn-absent : has_plan (withdrawn_in f plan) plan ≡ false
  withdrawn-absent = absent-i (withdrawn_in f plan) plan gone

  withdrawn-none : plan_in (withdrawn_in f plan) plan ≡ []
  withdrawn-none = absent_none (withdrawn_in f plan) plan withdrawn-absent

  withdrawn-plan : (q : ℕ) → q ≢ plan → q ≢ 0 → plan_in (withdrawn_in f plan) q ≡ plan_in f q
  withdrawn-plan q ne nz = kept-plan f (withdrawn_in f plan) q (withdrawn-kept q ne nz) (sound-plan f q nz s) same_count

  -- what was the plan's is among the free records
  withdrawn-again : (i : ℕ) → i < records f → plan_at f i ≡ plan → (k : ℕ) × (k < length (free_in (withdrawn_in f plan))) × (get_or (free_in (withdrawn_in f plan)) k 0 ≡ i)
  withdrawn-again i b e =
      let g = withdrawn_in f plan in
      let c : i < records g = omega (arith, same_count) in
      free-i g i c (plan-free g i c (withdrawn-free f plan i b e))

-- ---- by the answer

pub record Withdraws (f : List ℕ) (plan : ℕ) (f' : List ℕ) : Type 0 where
  pub right : wrong_file f' ≡ false
  pub long : length f' ≡ length f
  pub none : plan_in f' plan ≡ []
  pub absent : has_plan f' plan ≡ false
  pub others : (q : ℕ) → q ≢ plan → q ≢ 0 → plan_in f' q ≡ plan_in f q
  pub freed : (i : ℕ) → i < records f → plan_at f i ≡ plan → slot record_bytes i f' ≡ free
  pub rest : (i : ℕ) → i < records f → plan_at f i ≢ plan → slot record_bytes i f' ≡ slot record_bytes i f
  pub again : (i : ℕ) → i < records f → plan_at f i ≡ plan → (k : ℕ) × (k < length (free_in f')) × (get_or (free_in f') k 0 ≡ i)

pub withdraw-found : (f : List ℕ) (plan : ℕ) → withdraw_outcome f plan ≡ found → (wrong_file f ≡ false) × (plan ≢ 0) × (has_plan f plan ≡ true)
unfolding withdraw_outcome
withdraw-found f plan h =
    let a = passed (wrong_file f) 15 (cond (eqb plan 0) plan_request (cond (not (has_plan f plan)) plan_there found)) h in
    let b = passed (eqb plan 0) 16 (cond (not (has_plan f plan)) plan_there found) a.1 in
    let c = passed (not (has_plan f plan)) 17 found b.1 in
    (a.0, eqb-false plan 0 b.0, not-false (has_plan f plan) c.0)

pub withdraws : (f : List ℕ) (plan : ℕ) → withdraw_outcome f plan ≡ found → Withdraws f plan (withdrawn_in f plan)
withdraws f plan h =
    let w = withdraw-found f plan h in
    let s = sound-e f w.0 in
    record {
      right = sound-i (withdrawn_in f plan) (withdrawn-sound f plan s w.1);
      long = length-withdrawn f plan s.whole;
      none = withdrawn-none f plan s w.1;
      absent = withdrawn-absent f plan s w.1;
      others = withdrawn-plan f plan s w.1;
      freed = withdrawn-free f plan;
      rest = withdrawn-other f plan;
      again = withdrawn-again f plan s w.1;
    }
