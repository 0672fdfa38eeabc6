-- Rows placed one after the other, each in the lowest free record: the first row takes the first of the free records, and those that are left are the others in their
-- order. So row k stands in the k-th of the free records of the file before, and every other record is byte by byte as it was.
use mathlib.Core.Path.{◌≡◌, refl, sym, ap, ◌∙◌}
use mathlib.Core.Bool.{Bool, true}
use mathlib.Core.List.{List, [], ◌∷◌}
use mathlib.Core.Logic.{◌≢◌, ⊎_elim}
use Prim.Native.Nat.{ℕ, zero, suc, ◌/◌, ◌≤◌, ◌<◌}
use native.Mathlib.Omega.{arith}
use lib.Dec.{eqb}
use lib.ListN.{length, get_or}
use borrow.Author.Tests.{eqb-true, eq-eqb, ne_eqb}
use Rattle.lists.specs.Tests.{up_from, keep}
use Rattle.lists.proofs.Cases.{order}
use Rattle.lists.proofs.IndexLaws.{first-at, first_below}
use Rattle.words.specs.Part.{slot}
use Rattle.plan_record.specs.Record.{record_bytes, records, plan_at, Row, record_of, with_record}
use Rattle.plan_record.proofs.RecordLaws.{plan-of, length-record_of, length-with_record, bytes-here, bytes-other}
use Rattle.plan_file.specs.Meaning.{free_in}
use Rattle.plan_file.proofs.EachLaws.{clash}
use Rattle.plan_store.specs.Store.{lowest_free, placed}
use Rattle.plan_history.proofs.KeepLaws.{keep-e, keep-i, keep-most, keep-next}
use Rattle.plan_history.proofs.RowLaws.{Proper, plan-row}
use Rattle.plan_history.proofs.PartsLaws.{no_row}

-- ---- the free records

-- the file with a row in its lowest free record
abbrev next : List ℕ → Row → List ℕ
next f x = with_record f (lowest_free f) (record_of x)

module _ (f : List ℕ) where
  pub free-e : (k : ℕ) → k < length (free_in f) → (get_or (free_in f) k 0 < records f) × (plan_at f (get_or (free_in f) k 0) ≡ 0)
  unfolding free_in
  free-e k b =
      let w = keep-e (λ i. eqb (plan_at f i) 0) 0 (records f) k b in
      (omega (arith, w.1), eqb-true (plan_at f (get_or (free_in f) k 0)) 0 w.2)

  pub free-i : (i : ℕ) → i < records f → plan_at f i ≡ 0 → (k : ℕ) × (k < length (free_in f)) × (get_or (free_in f) k 0 ≡ i)
  unfolding free_in
  free-i i b e = keep-i (λ i. eqb (plan_at f i) 0) 0 (records f) i (omega arith) (omega arith) (eq-eqb (plan_at f i) 0 e)

  pub free-most : length (free_in f) ≤ records f
  unfolding free_in
  free-most = keep-most (λ i. eqb (plan_at f i) 0) 0 (records f)

  module _ (h : 0 < length (free_in f)) where
    lowest-in : lowest_free f < records f
    unfolding free_in lowest_free
    lowest-in =
        let p : ℕ → Bool = λ i. eqb (plan_at f i) 0 in
        let w = keep-e p 0 (records f) 0 h in
        ⊎_elim (λ b. absurd (clash _ w.2 (first_below p (records f) 0 (get_or (keep p (up_from 0 (records f))) 0 0) (omega arith) (omega (arith, w.1))))) (λ b. b)
        (order (records f) (lowest_free f))

    lowest-free : eqb (plan_at f (lowest_free f)) 0 ≡ true
    unfolding lowest_free
    lowest-free = first-at (λ i. eqb (plan_at f i) 0) (records f) 0 (omega (arith, lowest-in))

    module _ (x : Row) (w : Proper x) where
      size : length (record_of x) ≡ record_bytes
      size = length-record_of x w.most

      next-long : length (next f x) ≡ length f
      next-long = length-with_record f (lowest_free f) (record_of x) lowest-in size

      next_here : slot record_bytes (lowest_free f) (next f x) ≡ record_of x
      next_here = bytes-here f (lowest_free f) (record_of x) lowest-in size

      next-there : (j : ℕ) → lowest_free f ≢ j → slot record_bytes j (next f x) ≡ slot record_bytes j f
      next-there j ne = bytes-other f (lowest_free f) j (record_of x) lowest-in size ne

      next-taken : plan_at (next f x) (lowest_free f) ≢ 0
      next-taken z = w.some (sym (plan-row (next f x) (lowest_free f) x (omega (arith, lowest-in, ap (λ n. n / record_bytes) next-long)) w next_here) ∙ z)

      free-next : free_in f ≡ lowest_free f ∷ free_in (next f x)
      unfolding free_in lowest_free
      free-next =
          let p : ℕ → Bool = λ i. eqb (plan_at f i) 0 in
          let q : ℕ → Bool = λ i. eqb (plan_at (next f x) i) 0 in
          keep-next p q (lowest_free f) 0 (records f) (omega arith) (omega (arith, lowest-in)) lowest-free
          (λ j a b. first_below p (records f) 0 j a b)
          (ne_eqb (plan_at (next f x) (lowest_free f)) 0 next-taken)
          (λ j ne. ap (λ n. eqb n 0) (sym (plan-of (next f x) f j j (next-there j (λ e. ne (sym e))))))
          ∙ ap (λ n. lowest_free f ∷ keep q (up_from 0 n)) (sym (ap (λ n. n / record_bytes) next-long))

-- ---- the rows

pub record Placed (f : List ℕ) (xs : List Row) (g : List ℕ) : Type 0 where
  pub long : length g ≡ length f
  pub at : (k : ℕ) → k < length xs → slot record_bytes (get_or (free_in f) k 0) g ≡ record_of (get_or xs k no_row)
  pub rest : (i : ℕ) → ((k : ℕ) → k < length xs → i ≢ get_or (free_in f) k 0) → slot record_bytes i g ≡ slot record_bytes i f

-- one row, and then the others
placed-more : (f : List ℕ) (x : Row) (xs : List Row) (g : List ℕ) → 0 < length (free_in f) → Proper x → length xs ≤ length (free_in (next f x)) → Placed (next f x) xs g → Placed f (x ∷ xs) g
placed-more f x xs g some good room later = record { long = later.long ∙ next-long f some x good; at = here; rest = there }
  where
    e : free_in f ≡ lowest_free f ∷ free_in (next f x)
    e = free-next f some x good

    head : get_or (free_in f) 0 0 ≡ lowest_free f
    head = ap (λ l. get_or l 0 0) e

    tail : (k : ℕ) → get_or (free_in f) (suc k) 0 ≡ get_or (free_in (next f x)) k 0
    tail k = ap (λ l. get_or l (suc k) 0) e

    -- the record of the first row is not free afterwards
    taken : (k : ℕ) → k < length xs → lowest_free f ≢ get_or (free_in (next f x)) k 0
    taken k b z = next-taken f some x good (ap (plan_at (next f x)) z ∙ (free-e (next f x) k (omega arith)).1)

    here : (k : ℕ) → k < length (x ∷ xs) → slot record_bytes (get_or (free_in f) k 0) g ≡ record_of (get_or (x ∷ xs) k no_row)
    here zero b = ap (λ i. slot record_bytes i g) head ∙ later.rest (lowest_free f) taken ∙ next_here f some x good
    here (suc k) b = ap (λ i. slot record_bytes i g) (tail k) ∙ later.at k (omega arith)

    there : (i : ℕ) → ((k : ℕ) → k < length (x ∷ xs) → i ≢ get_or (free_in f) k 0) → slot record_bytes i g ≡ slot record_bytes i f
    there i ne =
        later.rest i (λ k b z. ne (suc k) (omega arith) (z ∙ sym (tail k))) ∙ next-there f some x good i (λ z. ne 0 (omega arith) (sym z ∙ sym head))

pub placed-is : (f : List ℕ) (xs : List Row) → length xs ≤ length (free_in f) → ((k : ℕ) → k < length xs → Proper (get_or xs k no_row)) → Placed f xs (placed f xs)
unfolding placed
placed-is f [] h w = record { long = refl; at = λ k b. absurd (omega arith); rest = λ i ne. refl }
placed-is f (x ∷ xs) h w =
    let some : 0 < length (free_in f) = omega arith in
    let good = w 0 (omega arith) in
    let room : length xs ≤ length (free_in (next f x)) = omega (arith, ap length (free-next f some x good)) in
    placed-more f x xs (placed (next f x) xs) some good room (placed-is (next f x) xs room (λ k b. w (suc k) (omega arith)))
