-- A file that is changed from the front, while from record i on it is as it was: record i is read as it was, and a record put at w ≤ i makes what stands before w + 1 longer and
-- leaves what stands after i. A file in form ends with its last record.
use mathlib.Core.Path.{◌≡◌, sym, ap, ◌∙◌}
use mathlib.Core.Bool.{true, false}
use mathlib.Core.List.{List, [], ◌∷◌, ◌++◌, flat_map, append_assoc, append-nil}
use mathlib.Core.Logic.{⊎_elim}
use Prim.Native.Nat.{ℕ, zero, suc, ◌+◌, ◌*◌, ◌%◌, ◌≤◌, ◌<◌}
use native.Mathlib.Numerals.{add-one}
use native.Mathlib.Omega.{arith}
use lib.Dec.{eqb}
use lib.ListN.{length, take, drop, length-append, length-drop, drop_of_length-le}
use lib.Seq.{take_at, drop-drop, length-take-le}
use borrow.Author.Tests.{eqb-true, eqb-false}
use Rattle.lists.specs.Tests.{up_from}
use Rattle.lists.proofs.Cases.{cases}
use Rattle.words.specs.Part.{patch, slot}
use Rattle.words.proofs.PartLaws.{drop-after}
use Rattle.plan_record.specs.Record.{record_bytes, records, plan_at, with_record}
use Rattle.plan_record.proofs.RecordLaws.{plan-of}
use Rattle.plan_file.specs.File.{wrong_file}
use Rattle.plan_file.proofs.FileLaws.{wrong-length}

-- a file in form
pub file-whole : (f : List ℕ) → wrong_file f ≡ false → length f % record_bytes ≡ 0
file-whole f e =
    ⊎_elim (eqb-true (length f % record_bytes) 0)
    (λ z.
    let w : wrong_file f ≡ true = wrong-length f (eqb-false (length f % record_bytes) 0 z) in
    let no : ◌≡◌ {A = ℕ} 0 1 = cc in
    absurd (omega arith))
    (cases (eqb (length f % record_bytes) 0))

pub whole-end : (f : List ℕ) (i : ℕ) → length f % record_bytes ≡ 0 → records f ≤ i → drop (i * record_bytes) f ≡ []
whole-end f i h k = drop_of_length-le f {i = i * record_bytes} (omega arith)

-- record i of a file that is f from record i on
module _ (f g : List ℕ) (i : ℕ) (e : drop (i * record_bytes) g ≡ drop (i * record_bytes) f) where
  pub slot_kept : slot record_bytes i g ≡ slot record_bytes i f
  unfolding slot
  slot_kept = ap (take record_bytes) e

  pub plan-kept : plan_at g i ≡ plan_at f i
  plan-kept = plan-of g f i i slot_kept

  pub rest-kept : drop ((i + 1) * record_bytes) g ≡ drop ((i + 1) * record_bytes) f
  rest-kept =
      let n : (i + 1) * record_bytes ≡ i * record_bytes + record_bytes = omega arith in
      ap (λ m. drop m g) n ∙ sym (drop-drop record_bytes (i * record_bytes) g) ∙ ap (drop record_bytes) e ∙ drop-drop record_bytes (i * record_bytes) f ∙ ap (λ m. drop m f) (sym n)

pub length-record : (f : List ℕ) (i : ℕ) → i < records f → length (slot record_bytes i f) ≡ record_bytes
unfolding slot
length-record f i h = length-take-le record_bytes (drop (i * record_bytes) f) (omega (arith, length-drop (i * record_bytes) f))

-- record w put, of a file whose records up to record i count no more
module _ (g : List ℕ) (w : ℕ) (ys : List ℕ) (h : w < records g) (n : length ys ≡ record_bytes) where
  pub front-put : take ((w + 1) * record_bytes) (with_record g w ys) ≡ take (w * record_bytes) g ++ ys
  unfolding with_record patch
  front-put =
      let p = take (w * record_bytes) g in
      let m : length p ≡ w * record_bytes = length-take-le (w * record_bytes) g (omega arith) in
      let long : length (p ++ ys) ≡ (w + 1) * record_bytes = length-append p ys ∙ omega arith in
      ap (take ((w + 1) * record_bytes)) (sym (append_assoc p ys (drop (w * record_bytes + record_bytes) g)))
      ∙ take_at (p ++ ys) (drop (w * record_bytes + record_bytes) g) ((w + 1) * record_bytes) long

  pub rest_put : (i : ℕ) → w ≤ i → drop ((i + 1) * record_bytes) (with_record g w ys) ≡ drop ((i + 1) * record_bytes) g
  unfolding with_record
  rest_put i k =
      drop-after (w * record_bytes) (w * record_bytes + record_bytes) g ys (omega arith) (omega arith) (omega arith) ((i + 1) * record_bytes) (omega arith)

-- ---- a range, and one more

up_from-more : (i n : ℕ) → up_from i (suc n) ≡ up_from i n ++ ((i + n) ∷ [])
unfolding up_from
up_from-more i zero = ap (λ x. x ∷ []) (omega arith)
up_from-more i (suc n) =
    let e : suc i + n ≡ i + suc n = omega arith in
    ap (λ l. i ∷ l) (up_from-more (suc i) n ∙ ap (λ x. up_from (suc i) n ++ (x ∷ [])) e)

pub first_more : (n : ℕ) → up_from 0 (n + 1) ≡ up_from 0 n ++ (n ∷ [])
first_more n =
    let e : 0 + n ≡ n = omega arith in
    ap (up_from 0) (add-one n) ∙ up_from-more 0 n ∙ ap (λ x. up_from 0 n ++ (x ∷ [])) e

pub flat-more : (g : ℕ → List ℕ) (l : List ℕ) (x : ℕ) → flat_map g (l ++ (x ∷ [])) ≡ flat_map g l ++ g x
unfolding flat_map
flat-more g [] x = append-nil (g x)
flat-more g (y ∷ l) x = ap (λ m. g y ++ m) (flat-more g l x) ∙ sym (append_assoc (g y) (flat_map g l) (g x))
