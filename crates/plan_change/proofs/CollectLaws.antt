-- Collecting, turn by turn: the records in use among the first i stand at the front, w of them, and from record i on the file is as it was; as w ≤ i, a record is read before it is
-- written over. Those in use and those free are all records, so the zeros behind are as many as there were free ones.
use mathlib.Core.Path.{◌≡◌, refl, sym, ap, ap₂, ◌∙◌}
use mathlib.Core.Bool.{Bool, true, false, not}
use mathlib.Core.List.{List, [], ◌∷◌, ◌++◌, flat_map, append-nil}
use mathlib.Core.Logic.{◌≢◌, ⊎_elim}
use Prim.Native.Nat.{ℕ, ◌+◌, ◌-◌, ◌*◌, ◌%◌, ◌≤◌, ◌<◌}
use native.Mathlib.Omega.{arith}
use lib.Dec.{eqb}
use lib.ListN.{length, take, drop, replicate, length-append, drop_of_length-le}
use borrow.Author.Tests.{eq-eqb, ne_eqb, eqb-true, eqb-false}
use Rattle.lists.specs.Tests.{up_from, keep, cons_if}
use Rattle.lists.proofs.Cases.{cases}
use Rattle.lists.proofs.TestLaws.{keep_append}
use Rattle.lists.proofs.MemberLaws.{length-up_from}
use Rattle.words.specs.Part.{patch, slot}
use Rattle.outcome.specs.declared.Told.{Told}
use Rattle.outcome.specs.Outcome.{found, plan_file, plain}
use Rattle.plan_record.specs.Record.{record_bytes, records, plan_at, with_record}
use Rattle.plan_record.proofs.RecordLaws.{length-with_record}
use Rattle.plan_file.specs.File.{wrong_file}
use Rattle.plan_file.specs.Meaning.{free_in}
use Rattle.plan_change.specs.Change.{in_use, collected_in, collect_outcome, Collected}
use Rattle.plan_change.specs.Moved.{moved_to, moved_next, Moved}
use Rattle.plan_change.proofs.FrontLaws.{slot_kept, plan-kept, rest-kept, length-record, front-put, rest_put, first_more, flat-more}

-- what a test keeps, and what it does not, is all
keep-both : (p : ℕ → Bool) (l : List ℕ) → length (keep (λ i. not (p i)) l) + length (keep p l) ≡ length l
unfolding keep
keep-both p [] = refl
keep-both p (x ∷ l) = ⊎_elim (λ e. rw e (omega (arith, keep-both p l))) (λ e. rw e (omega (arith, keep-both p l))) (cases (p x))

-- one record
module _ (f : List ℕ) (w i : ℕ) where
  pub not-moved : plan_at f i ≡ 0 → (moved_to f w i ≡ f) × (moved_next f w i ≡ w)
  unfolding moved_to moved_next
  not-moved e = let b = eq-eqb (plan_at f i) 0 e in (rw b, rw b)

  pub is-moved : plan_at f i ≢ 0 → (moved_to f w i ≡ with_record f w (slot record_bytes i f)) × (moved_next f w i ≡ w + 1)
  unfolding moved_to moved_next
  is-moved ne = let b = ne_eqb (plan_at f i) 0 ne in (rw b, rw b)

module _ (f : List ℕ) where
  abbrev is_free : ℕ → Bool
  is_free i = eqb (plan_at f i) 0

  abbrev used : ℕ → List ℕ
  used i = keep (λ j. not (is_free j)) (up_from 0 i)

  abbrev bytes : ℕ → List ℕ
  bytes i = slot record_bytes i f

  used-more : (i : ℕ) → used (i + 1) ≡ used i ++ cons_if (not (is_free i)) i []
  unfolding keep
  used-more i = ap (keep (λ j. not (is_free j))) (first_more i) ∙ keep_append (λ j. not (is_free j)) (up_from 0 i) (i ∷ [])

  used-free : (i : ℕ) → is_free i ≡ true → used (i + 1) ≡ used i
  unfolding cons_if
  used-free i e = used-more i ∙ rw e (append-nil (used i))

  used-next : (i : ℕ) → is_free i ≡ false → used (i + 1) ≡ used i ++ (i ∷ [])
  unfolding cons_if
  used-next i e = used-more i ∙ rw e

  -- with the records before record i looked at, and those in use moved: g, the next to be moved to record w
  abbrev pub Moved-to : List ℕ → ℕ → ℕ → Type 0
  Moved-to g w i =
      (take (w * record_bytes) g ≡ flat_map bytes (used i))
      × (w ≡ length (used i))
      × (drop (i * record_bytes) g ≡ drop (i * record_bytes) f)
      × (length g ≡ length f)
      × (w ≤ i)

  pub none-moved : Moved-to f 0 0
  unfolding flat_map keep up_from
  none-moved = (refl, refl, refl, refl, omega arith)

  module _ (g : List ℕ) (w i : ℕ) (m : Moved-to g w i) (h : i < records f) where
    free_moved : is_free i ≡ true → Moved-to g w (i + 1)
    free_moved e =
        (m.0 ∙ ap (flat_map bytes) (sym (used-free i e)), m.1 ∙ ap length (sym (used-free i e)), rest-kept f g i m.2, m.3, omega (arith, m.4))

    used-moved : is_free i ≡ false → Moved-to (with_record g w (slot record_bytes i g)) (w + 1) (i + 1)
    used-moved e =
        let here : i < records g = omega (arith, m.3) in
        let there : w < records g = omega (arith, m.3, m.4) in
        let n : length (slot record_bytes i g) ≡ record_bytes = length-record g i here in
        let more : length (used (i + 1)) ≡ length (used i) + 1 = ap length (used-next i e) ∙ length-append (used i) (i ∷ []) in (
          front-put g w (slot record_bytes i g) there n ∙ ap₂ (λ p q. p ++ q) m.0 (slot_kept f g i m.2)
              ∙ sym (ap (flat_map bytes) (used-next i e) ∙ flat-more bytes (used i) i),
          omega (arith, m.1),
          rest_put g w (slot record_bytes i g) there n i m.4 ∙ rest-kept f g i m.2,
          length-with_record g w (slot record_bytes i g) there n ∙ m.3,
          omega (arith, m.4),
        )

    pub one-moved : Moved-to (moved_to g w i) (moved_next g w i) (i + 1)
    one-moved =
        let same : plan_at g i ≡ plan_at f i = plan-kept f g i m.2 in
        ⊎_elim
        (λ e. let k = not-moved g w i (same ∙ eqb-true (plan_at f i) 0 e) in rw (k.0, k.1) (free_moved e))
        (λ e. let k = is-moved g w i (λ z. eqb-false (plan_at f i) 0 e (sym same ∙ z)) in rw (k.0, k.1) (used-moved e))
        (cases (is_free i))

  pub all_moved : (g : List ℕ) (w i : ℕ) → Moved-to g w i → i ≡ records f → Moved f w g
  unfolding in_use
  all_moved g w i m e =
      record { count = m.1 ∙ ap (λ n. length (used n)) e; front = m.0 ∙ ap (λ n. flat_map bytes (used n)) e; long = m.3 }

  -- ---- zeros behind

  both : length (in_use f) + length (free_in f) ≡ records f
  unfolding in_use free_in
  both = keep-both is_free (up_from 0 (records f)) ∙ length-up_from 0 (records f)

  pub moved-within : (n : ℕ) (g : List ℕ) → Moved f n g → n * record_bytes ≤ length g
  moved-within n g m = omega (arith, both, m.count, m.long)

  pub moved-zeros : (n : ℕ) (g : List ℕ) → Moved f n g → length f % record_bytes ≡ 0
      → patch (n * record_bytes) (length g) g (replicate (length g - n * record_bytes) 0) ≡ collected_in f
  unfolding patch collected_in
  moved-zeros n g m h =
      let z : length g - n * record_bytes ≡ length (free_in f) * record_bytes = omega (arith, both, m.count, m.long) in
      ap₂ (λ p q. p ++ q) m.front
      (ap (λ l. replicate (length g - n * record_bytes) 0 ++ l) (drop_of_length-le g {i = length g} (omega arith))
      ∙ append-nil (replicate (length g - n * record_bytes) 0)
      ∙ ap (λ k. replicate k 0) z)

  -- ---- the call as a whole

  module _ (answer : Told) (f' : List ℕ) where
    pub collected-not : wrong_file f ≡ true → answer ≡ plain plan_file → f' ≡ f → Collected f answer f'
    unfolding collect_outcome
    collected-not e a g = record { told = rw e a; file = rw e g }

    pub collected-so : wrong_file f ≡ false → answer ≡ plain found → f' ≡ collected_in f → Collected f answer f'
    unfolding collect_outcome
    collected-so e a g = record { told = rw e a; file = rw e g }
