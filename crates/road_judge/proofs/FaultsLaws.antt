-- The fault of the table of the arcs in order is that of the picked arc. Record i of a table is arc i's (`table-reads`), if the arc's numbers fit four bytes.
-- Of arcs in order none starts below the one before it, so a record's fault is its arc's by itself (`fault-is`). A table's length is 16
-- times its arcs, so its size is wrong by the node count or the number of arcs alone (`size_is`). Where no arc is picked no record has a fault, and the scan ends
-- good; else the picked arc's rank is the number of the first record with a fault, and the scan stops there.
use mathlib.Core.Path.{◌≡◌, refl, sym, ap, ◌∙◌}
use mathlib.Core.Bool.{Bool, true, false, not, ◌&&◌, ◌||◌}
use mathlib.Core.List.Memᴰ
use mathlib.Core.List.{List, [], ◌∷◌, ◌++◌, Memᴰ}
use mathlib.Core.Logic.{⊎_elim, ◌≢◌}
use Prim.Native.Nat.{ℕ, zero, suc, ◌+◌, ◌*◌, ◌%◌, ◌≤◌, ◌<◌}
use native.Mathlib.Omega.{arith}
use lib.Dec.{ltb, leb, eqb}
use lib.ListN.{length}
use borrow.Author.Tests.{eqb-true, eq-eqb, ne_eqb, le-ltb, not-false}
use Rattle.lists.proofs.Cases.{order}
use Rattle.lists.proofs.IndexLaws.{first_below}
use Rattle.words.specs.Number.{bytes_of}
use Rattle.words.proofs.BytesLaws.{num-bytes}
use Rattle.net.specs.Limits.{most_nodes, most_arcs}
use Rattle.net.specs.Net.{Arc, arc}
use Rattle.outcome.specs.Outcome.{size, plain, beside}
use Rattle.net.specs.Small.{Small, AllSmall}
use Rattle.table.specs.Table.{record_bytes, records, from_at, to_at, len_at, record_of, table_of}
use Rattle.table.specs.Fault.{fault_of, prev_of, fault_at, good, lowest, wrong_size, table_fault}
use Rattle.table.proofs.TableLaws.{length-table_of, num-further}
use Rattle.road_order.specs.Ordered.{ordered}
use Rattle.road_order.specs.Lowest.{Pick, no_pick, picked, rank, first_fault}
use Rattle.road_order.proofs.OrderedLaws.{InOrder, ordered-in-order}
use Rattle.road_order.proofs.LowestLaws.{length-ordered, ordered-e, arc-member, picked-none-ordered, picked-lowest}
use Rattle.road_judge.specs.Judged.{fault_by}

-- ---- the records of a table

-- record i of t is that of arc x
record Reads (t : List ℕ) (i : ℕ) (x : Arc) : Type 0 where
  from_is : from_at t i ≡ x.from
  to_is : to_at t i ≡ x.to
  len_is : len_at t i ≡ x.len

reads_first : (x : Arc) (l : List ℕ) → Small x → Reads (record_of x ++ l) 0 x
unfolding record_of bytes_of
reads_first x l s =
    let u = bytes_of 4 x.from in
    let v = bytes_of 4 x.to in
    let w = bytes_of 4 x.len in
    let z = bytes_of 4 0 in
    record {
      from_is = num-bytes 4 [] (v ++ (w ++ (z ++ l))) 0 x.from refl s.0;
      to_is = num-bytes 4 u (w ++ (z ++ l)) 4 x.to refl s.1;
      len_is = num-bytes 4 (u ++ v) (z ++ l) 8 x.len refl s.2;
    }

table-reads : (xs : List Arc) → AllSmall xs → (i : ℕ) → i < length xs → Reads (table_of xs) i (arc xs i)
unfolding table_of
table-reads [] s i h = absurd (omega arith)
table-reads (x ∷ xs) s zero h = reads_first x (table_of xs) (s 0 (omega arith))
table-reads (x ∷ xs) s (suc i) h =
    let r = table-reads xs (λ j k. s (suc j) (omega arith)) i (omega arith) in
    record {
      from_is = num-further x (table_of xs) i 0 ∙ r.from_is;
      to_is = num-further x (table_of xs) i 4 ∙ r.to_is;
      len_is = num-further x (table_of xs) i 8 ∙ r.len_is;
    }

-- ---- the arcs in order

small-member : (y : Arc) (xs : List Arc) → AllSmall xs → Memᴰ y xs → Small y
small-member y [] s m = absurd (Memᴰ.not-nil m)
small-member y (x ∷ xs) s m = ⊎_elim (λ e. rw e (s 0 (omega arith))) (λ k. small-member y xs (λ j h. s (suc j) (omega arith)) k) (Memᴰ.cases_cons m)

small-ordered : (arcs : List Arc) → AllSmall arcs → AllSmall (ordered arcs)
small-ordered arcs s i h = small-member (arc (ordered arcs) i) arcs s (ordered-e (arc (ordered arcs) i) arcs (arc-member (ordered arcs) i h))

in-order-at : (xs : List Arc) → InOrder xs → (i : ℕ) → suc i < length xs → (arc xs i).from ≤ (arc xs (suc i)).from
unfolding InOrder
in-order-at [] k i h = absurd (omega arith)
in-order-at (x ∷ []) k i h = absurd (omega arith)
in-order-at (x ∷ y ∷ ys) k zero h = k.0
in-order-at (x ∷ y ∷ ys) k (suc i) h = in-order-at (y ∷ ys) k.1 i (omega arith)

prev-at-most : (xs : List Arc) → AllSmall xs → InOrder xs → (i : ℕ) → i < length xs → prev_of (table_of xs) i ≤ (arc xs i).from
unfolding prev_of
prev-at-most xs s k zero h = omega arith
prev-at-most xs s k (suc i) h = omega (arith, (table-reads xs s i (omega arith)).from_is, in-order-at xs k i h)

-- a record not below the one before it has the fault it has as the first
fault-in-order : (nodes prev from to len : ℕ) → prev ≤ from → fault_of nodes prev from to len ≡ fault_of nodes 0 from to len
unfolding fault_of
fault-in-order nodes prev from to len h = rw (le-ltb from prev h, le-ltb from 0 (omega arith))

fault-reads : (nodes : ℕ) (t : List ℕ) (i : ℕ) (x : Arc) → Reads t i x → prev_of t i ≤ x.from → fault_at nodes t i ≡ fault_by nodes x
unfolding fault_at fault_by
fault-reads nodes t i x r h = rw (r.from_is, r.to_is, r.len_is) (fault-in-order nodes (prev_of t i) x.from x.to x.len h)

-- ---- a scan

-- before the first faulty arc none is
first-clear : (F : Arc → ℕ) (xs : List Arc) (j : ℕ) → j < first_fault F xs → F (arc xs j) ≡ 0
unfolding first_fault
first-clear F xs j h = eqb-true (F (arc xs j)) 0 (not-false _ (first_below (λ i. not (eqb (F (arc xs i)) 0)) (length xs) 0 j (omega arith) h))

-- of records with no fault
lowest-good : (n nodes : ℕ) (t : List ℕ) (i : ℕ) → ((j : ℕ) → i ≤ j → j < i + n → fault_at nodes t j ≡ 0) → lowest n nodes t i ≡ good
unfolding lowest
lowest-good zero nodes t i clear = refl
lowest-good (suc n) nodes t i clear =
    rw (eq-eqb (fault_at nodes t i) 0 (clear i (omega arith) (omega arith))) (lowest-good n nodes t (i + 1) (λ j a b. clear j (omega arith) (omega arith)))

-- of records of which r is the first with a fault
lowest-at : (n nodes : ℕ) (t : List ℕ) (i r : ℕ) → i ≤ r → r < i + n → ((j : ℕ) → i ≤ j → j < r → fault_at nodes t j ≡ 0) → fault_at nodes t r ≢ 0
    → lowest n nodes t i ≡ beside (fault_at nodes t r) r
unfolding lowest
lowest-at zero nodes t i r h g clear faulty = absurd (omega arith)
lowest-at (suc n) nodes t i r h g clear faulty =
    ⊎_elim
    (λ w.
    let e : i ≡ r = omega arith in
    rw (e, ne_eqb (fault_at nodes t r) 0 faulty))
    (λ w. rw (eq-eqb (fault_at nodes t i) 0 (clear i (omega arith) w)) (lowest-at n nodes t (i + 1) r (omega arith) (omega arith) (λ j a b. clear j (omega arith) b) faulty))
    (order r i)

-- ---- the table of the arcs in order

or-none : (a b : Bool) → (a || false || b) ≡ (a || b)
or-none true b = refl
or-none false b = refl

module _ (nodes : ℕ) (arcs : List Arc) where
  abbrev t : List ℕ
  t = table_of (ordered arcs)

  abbrev p : Pick
  p = picked (fault_by nodes) 0 no_pick arcs

  length-is : length t ≡ length arcs * record_bytes
  length-is = length-table_of (ordered arcs) ∙ ap (λ n. n * record_bytes) (length-ordered arcs)

  records_is : records t ≡ length arcs
  records_is = omega (arith, length-is)

  pub size_is : wrong_size nodes t ≡ (not (leb 1 nodes && leb nodes most_nodes) || ltb most_arcs (length arcs))
  unfolding wrong_size
  size_is =
      let whole : length t % record_bytes ≡ 0 = omega (arith, length-is) in
      rw (records_is, eq-eqb (length t % record_bytes) 0 whole) (or-none (not (leb 1 nodes && leb nodes most_nodes)) (ltb most_arcs (length arcs)))

  pub fault-is : AllSmall arcs → (i : ℕ) → i < length arcs → fault_at nodes t i ≡ fault_by nodes (arc (ordered arcs) i)
  fault-is s i h =
      let k : i < length (ordered arcs) = omega (arith, length-ordered arcs) in
      let small = small-ordered arcs s in
      fault-reads nodes t i (arc (ordered arcs) i) (table-reads (ordered arcs) small i k) (prev-at-most (ordered arcs) small (ordered-in-order arcs) i k)

  pub told-size : wrong_size nodes t ≡ true → table_fault nodes t ≡ plain size
  unfolding table_fault
  told-size e = rw e

  pub told_none : AllSmall arcs → wrong_size nodes t ≡ false → p.fault ≡ 0 → table_fault nodes t ≡ good
  unfolding table_fault
  told_none s e z =
      rw e
      (lowest-good (records t) nodes t 0
      (λ j a b.
      let h : j < length arcs = omega (arith, records_is) in
      fault-is s j h ∙ picked-none-ordered (fault_by nodes) arcs z j h))

  pub told-lowest : AllSmall arcs → wrong_size nodes t ≡ false → (p.fault ≡ 0 → ⊥) → table_fault nodes t ≡ beside p.fault (rank p arcs)
  unfolding table_fault
  told-lowest s e n =
      let r = rank p arcs in
      let l = picked-lowest (fault_by nodes) arcs n in
      let is : fault_at nodes t r ≡ p.fault = fault-is s r l.2 ∙ l.1 in
      rw e
      (lowest-at (records t) nodes t 0 r (omega arith) (omega (arith, records_is, l.2))
      (λ j a b. fault-is s j (omega (arith, l.2)) ∙ first-clear (fault_by nodes) (ordered arcs) j (omega (arith, l.0)))
      (λ z. n (sym is ∙ z))
      ∙ ap (λ f. beside f r) is)
