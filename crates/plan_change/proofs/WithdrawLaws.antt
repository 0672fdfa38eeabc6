-- Withdrawing, turn by turn: before record i stands what is due, and from record i on the file is as it was. Then the refusals, test after test.
use mathlib.Core.Path.{◌≡◌, refl, sym, ap, ap₂, ◌∙◌}
use mathlib.Core.Bool.{Bool, true, false, not, cond}
use mathlib.Core.List.{List, ◌++◌, flat_map, append-nil}
use mathlib.Core.Logic.{◌≢◌}
use Prim.Native.Nat.{ℕ, ◌+◌, ◌*◌, ◌%◌, ◌<◌}
use native.Mathlib.Omega.{arith}
use lib.Dec.{eqb}
use lib.ListN.{length, take, drop, take-append-drop}
use lib.Seq.{drop-drop}
use borrow.Author.Tests.{eq-eqb, ne_eqb}
use Rattle.lists.specs.Tests.{up_from}
use Rattle.words.specs.Part.{patch, slot}
use Rattle.outcome.specs.declared.Told.{Told}
use Rattle.outcome.specs.Outcome.{found, plan_file, plan_request, plan_there, plain}
use Rattle.plan_record.specs.Record.{record_bytes, records, plan_at, with_record, free}
use Rattle.plan_record.proofs.RecordLaws.{length-with_record}
use Rattle.plan_file.specs.File.{wrong_file}
use Rattle.plan_file.specs.Meaning.{has_plan}
use Rattle.plan_change.specs.Change.{withdrawn_in, withdraw_outcome, Withdrawn}
use Rattle.plan_change.specs.Moved.{withdrawn_at}
use Rattle.plan_change.proofs.FrontLaws.{whole-end, slot_kept, plan-kept, rest-kept, length-record, front-put, rest_put, first_more, flat-more}

-- record i, where it is not the plan's, put on itself
pub put_same : (f : List ℕ) (i : ℕ) → i < records f → with_record f i (slot record_bytes i f) ≡ f
unfolding with_record patch slot
put_same f i h =
    let a = i * record_bytes in
    ap (λ l. take a f ++ (take record_bytes (drop a f) ++ l)) (sym (drop-drop record_bytes a f))
    ∙ ap (λ l. take a f ++ l) (take-append-drop record_bytes (drop a f)) ∙ take-append-drop a f

length_at : (f : List ℕ) (plan i : ℕ) → i < records f → length (withdrawn_at f plan i) ≡ record_bytes
length_at f plan i h = go (eqb (plan_at f i) plan)
  where
    go : (b : Bool) → length (cond b free (slot record_bytes i f)) ≡ record_bytes
    go true = refl
    go false = length-record f i h

module _ (f : List ℕ) (plan : ℕ) where
  -- with the records before record i withdrawn: g
  abbrev pub Withdrawn-to : List ℕ → ℕ → Type 0
  Withdrawn-to g i =
      (take (i * record_bytes) g ≡ flat_map (withdrawn_at f plan) (up_from 0 i)) × (drop (i * record_bytes) g ≡ drop (i * record_bytes) f) × (length g ≡ length f)

  pub none-withdrawn : Withdrawn-to f 0
  unfolding flat_map up_from
  none-withdrawn = (refl, refl, refl)

  pub one-withdrawn : (g : List ℕ) (i : ℕ) → Withdrawn-to g i → i < records f → Withdrawn-to (with_record g i (withdrawn_at g plan i)) (i + 1)
  one-withdrawn g i w h =
      let here : i < records g = omega (arith, w.2) in
      let n : length (withdrawn_at g plan i) ≡ record_bytes = length_at g plan i here in
      let same : withdrawn_at g plan i ≡ withdrawn_at f plan i = ap₂ (λ p l. cond (eqb p plan) free l) (plan-kept f g i w.1) (slot_kept f g i w.1) in (
        front-put g i (withdrawn_at g plan i) here n ∙ ap₂ (λ p q. p ++ q) w.0 same
            ∙ sym (ap (flat_map (withdrawn_at f plan)) (first_more i) ∙ flat-more (withdrawn_at f plan) (up_from 0 i) i),
        rest_put g i (withdrawn_at g plan i) here n i (omega arith) ∙ rest-kept f g i w.1,
        length-with_record g i (withdrawn_at g plan i) here n ∙ w.2,
      )

  pub all-withdrawn : (g : List ℕ) (i : ℕ) → Withdrawn-to g i → i ≡ records f → length f % record_bytes ≡ 0 → g ≡ withdrawn_in f plan
  unfolding withdrawn_in
  all-withdrawn g i w e h =
      sym (take-append-drop (i * record_bytes) g)
      ∙ ap₂ (λ p q. p ++ q) w.0 (w.1 ∙ whole-end f i h (omega arith))
      ∙ append-nil (flat_map (withdrawn_at f plan) (up_from 0 i))
      ∙ ap (λ n. flat_map (withdrawn_at f plan) (up_from 0 n)) e

  -- ---- the refusals

  abbrev told : ℕ
  told = withdraw_outcome f plan

  pub told-file : wrong_file f ≡ true → told ≡ plan_file
  unfolding withdraw_outcome
  told-file e = rw e

  pub told-request : wrong_file f ≡ false → plan ≡ 0 → told ≡ plan_request
  unfolding withdraw_outcome
  told-request e z = rw (e, eq-eqb plan 0 z)

  pub told-there : wrong_file f ≡ false → plan ≢ 0 → has_plan f plan ≡ false → told ≡ plan_there
  unfolding withdraw_outcome
  told-there e ne h = rw (e, ne_eqb plan 0 ne, h)

  pub told-found : wrong_file f ≡ false → plan ≢ 0 → has_plan f plan ≡ true → told ≡ found
  unfolding withdraw_outcome
  told-found e ne h = rw (e, ne_eqb plan 0 ne, h)

  pub accepted : told ≡ found → wrong_file f ≡ false
  unfolding withdraw_outcome
  accepted e = go (wrong_file f) e
    where
      go : (b : Bool) → cond b plan_file (cond (eqb plan 0) plan_request (cond (not (has_plan f plan)) plan_there found)) ≡ found → b ≡ false
      go true z = absurd (omega arith)
      go false z = refl

  -- ---- the call as a whole

  module _ (answer : Told) (f' : List ℕ) where
    pub withdrawn-so : told ≡ found → answer ≡ plain found → f' ≡ withdrawn_in f plan → Withdrawn f plan answer f'
    withdrawn-so e a g = record { told = a ∙ ap plain (sym e); file = rw (eq-eqb told found e) g }
