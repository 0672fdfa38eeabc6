-- What a collection leaves: the records in use one after the other, byte by byte, and then free ones. The records in use rise, so that each comes from one record
-- and no record in use is left out: every plan is kept, at other places. So the file is sound as it was, and each fetch gives what it gave.
use mathlib.Core.Path.{◌≡◌, sym, ap, ◌∙◌}
use mathlib.Core.Bool.{false, not}
use mathlib.Core.List.{List, flat_map}
use mathlib.Core.Logic.{◌≢◌, ⊎_elim}
use Prim.Native.Nat.{ℕ, ◌+◌, ◌-◌, ◌*◌, ◌/◌, ◌%◌, ◌≤◌, ◌<◌}
use native.Mathlib.Omega.{arith}
use lib.Dec.{eqb}
use lib.ListN.{length, get_or, replicate, length-append, length-replicate}
use borrow.Author.Tests.{ne_eqb, eqb-false, not-true}
use Rattle.lists.proofs.Cases.{order}
use Rattle.words.specs.Part.{slot}
use Rattle.plan_record.specs.Record.{record_bytes, records, plan_at, formed, free}
use Rattle.plan_record.proofs.RecordLaws.{formed-of}
use Rattle.plan_record.proofs.StoreLaws.{length-slot}
use Rattle.plan_file.specs.File.{wrong_file}
use Rattle.plan_file.specs.Meaning.{plan_in, has_plan, free_in}
use Rattle.plan_file.proofs.SoundLaws.{Sound, sound-e, sound-i}
use Rattle.plan_file.proofs.KeptLaws.{sound-plan, sound-plans, Kept, kept-sound, kept-plan, kept_there}
use Rattle.plan_change.specs.Change.{in_use, collected_in}
use Rattle.plan_history.proofs.KeepLaws.{keep-e, keep-i, keep_apart, keep-both}
use Rattle.plan_history.proofs.RowLaws.{plan-free, formed-free}
use Rattle.plan_history.proofs.SlotsLaws.{length-pieces, slot-piece, slot-rest, slot-replicate}

module _ (f : List ℕ) where
  -- ---- the records in use

  use-e : (k : ℕ) → k < length (in_use f) → (get_or (in_use f) k 0 < records f) × (plan_at f (get_or (in_use f) k 0) ≢ 0)
  unfolding in_use
  use-e k b =
      let w = keep-e (λ i. not (eqb (plan_at f i) 0)) 0 (records f) k b in
      (omega (arith, w.1), eqb-false (plan_at f (get_or (in_use f) k 0)) 0 (not-true (eqb (plan_at f (get_or (in_use f) k 0)) 0) w.2))

  use-i : (i : ℕ) → i < records f → plan_at f i ≢ 0 → (k : ℕ) × (k < length (in_use f)) × (get_or (in_use f) k 0 ≡ i)
  unfolding in_use
  use-i i b e = keep-i (λ i. not (eqb (plan_at f i) 0)) 0 (records f) i (omega arith) (omega arith) (ap not (ne_eqb (plan_at f i) 0 e))

  use-apart : (j k : ℕ) → j < length (in_use f) → k < length (in_use f) → get_or (in_use f) j 0 ≡ get_or (in_use f) k 0 → j ≡ k
  unfolding in_use
  use-apart j k a b e = keep_apart (λ i. not (eqb (plan_at f i) 0)) 0 (records f) j k a b e

  use-count : length (in_use f) + length (free_in f) ≡ records f
  unfolding in_use free_in
  use-count = keep-both (λ i. eqb (plan_at f i) 0) 0 (records f)

  -- ---- the records afterwards

  pieces : (k : ℕ) → k < length (in_use f) → length (slot record_bytes (get_or (in_use f) k 0) f) ≡ record_bytes
  pieces k b = length-slot f (get_or (in_use f) k 0) (get_or (in_use f) k 0) (use-e k b).0 (use-e k b).0

  length-collected : length f % record_bytes ≡ 0 → length (collected_in f) ≡ length f
  unfolding collected_in
  length-collected h =
      length-append (flat_map (λ i. slot record_bytes i f) (in_use f)) (replicate (length (free_in f) * record_bytes) 0)
      ∙ omega (arith, length-pieces record_bytes (λ i. slot record_bytes i f) (in_use f) pieces, length-replicate {A = ℕ} (length (free_in f) * record_bytes) 0, use-count)

  -- first the records in use, in their order
  collected-use : (k : ℕ) → k < length (in_use f) → slot record_bytes k (collected_in f) ≡ slot record_bytes (get_or (in_use f) k 0) f
  unfolding collected_in
  collected-use k b = slot-piece record_bytes (λ i. slot record_bytes i f) (in_use f) (replicate (length (free_in f) * record_bytes) 0) k pieces b

  -- and then free ones
  collected-free : (k : ℕ) → length (in_use f) ≤ k → k < records f → slot record_bytes k (collected_in f) ≡ free
  unfolding collected_in
  collected-free k a b =
      let e : k ≡ length (in_use f) + (k - length (in_use f)) = omega arith in
      ap (λ j. slot record_bytes j (collected_in f)) e
      ∙ slot-rest record_bytes (λ i. slot record_bytes i f) (in_use f) (replicate (length (free_in f) * record_bytes) 0) (k - length (in_use f)) pieces
      ∙ slot-replicate record_bytes (k - length (in_use f)) (length (free_in f)) 0 (omega (arith, use-count))

  -- ---- the file afterwards

  module _ (s : Sound f) where
    same_count : records (collected_in f) ≡ records f
    same_count = ap (λ n. n / record_bytes) (length-collected s.whole)

    -- a record of a plan afterwards is one of those in use
    moved : (q : ℕ) → q ≢ 0 → (j : ℕ) → j < records (collected_in f) → plan_at (collected_in f) j ≡ q → j < length (in_use f)
    moved q nz j b e =
        ⊎_elim (λ c. absurd (nz (sym e ∙ plan-free (collected_in f) j b (collected-free j c (omega (arith, same_count)))))) (λ c. c) (order (length (in_use f)) j)

    collected-kept : (q : ℕ) → q ≢ 0 → Kept f (collected_in f) q
    collected-kept q nz =
        record {
          into = λ i b e.
              let w = use-i i b (λ z. nz (sym e ∙ z)) in
              (w.0, omega (arith, same_count, use-count, w.1), collected-use w.0 w.1 ∙ ap (λ x. slot record_bytes x f) w.2);
          source = λ j. get_or (in_use f) j 0;
          from = λ j b e.
              let c = moved q nz j b e in
              ((use-e j c).0, sym (collected-use j c));
          apart = λ j k a b d e x. use-apart j k (moved q nz j a d) (moved q nz k b e) x;
        }

    collected-sound : Sound (collected_in f)
    collected-sound =
        let g = collected_in f in
        sound-plans g (ap (λ n. n % record_bytes) (length-collected s.whole) ∙ s.whole)
        (λ k b e.
        ⊎_elim (λ c. formed-free g k b (collected-free k c (omega (arith, same_count))))
        (λ c. let i = get_or (in_use f) k 0 in formed-of g f k i (collected-use k c) ∙ s.formed i (use-e k c).0)
        (order (length (in_use f)) k))
        (λ q nz. kept-sound f g q (collected-kept q nz) (sound-plan f q nz s))

    collected-plan : (q : ℕ) → q ≢ 0 → plan_in (collected_in f) q ≡ plan_in f q
    collected-plan q nz = kept-plan f (collected_in f) q (collected-kept q nz) (sound-plan f q nz s) same_count

    collected-there : (q : ℕ) → q ≢ 0 → has_plan (collected_in f) q ≡ has_plan f q
    collected-there q nz = kept_there f (collected_in f) q (collected-kept q nz)

-- ---- by the answer

pub record Collects (f f' : List ℕ) : Type 0 where
  pub right : wrong_file f' ≡ false
  pub long : length f' ≡ length f
  pub plans : (q : ℕ) → q ≢ 0 → plan_in f' q ≡ plan_in f q
  pub there : (q : ℕ) → q ≢ 0 → has_plan f' q ≡ has_plan f q

pub collects : (f : List ℕ) → wrong_file f ≡ false → Collects f (collected_in f)
collects f h =
    let s = sound-e f h in
    record {
      right = sound-i (collected_in f) (collected-sound f s);
      long = length-collected f s.whole;
      plans = collected-plan f s;
      there = collected-there f s;
    }
