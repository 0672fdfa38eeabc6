-- A record has fault 0 only if no test of `fault_of` fires, so each of the six facts of `Good` is one test's failure. The scan `lowest` ends good
-- only if every record it passes has fault 0; otherwise it stops at the first that has one. `lowest-done`, `lowest_step` and `lowest-stop` are the
-- turns of a loop over the records that are left.
use mathlib.Core.Path.{◌≡◌, refl, ap}
use mathlib.Core.Bool.{Bool, true, false, not, ◌&&◌, ◌||◌, cond}
use mathlib.Core.List.{List}
use mathlib.Core.Logic.{⊎_elim}
use Prim.Native.Nat.{ℕ, zero, suc, ◌+◌, ◌-◌, ◌%◌, ◌≤◌, ◌<◌}
use native.Mathlib.Nat.{add-zero, zero-add}
use native.Mathlib.Numerals.{add-one}
use native.Mathlib.Omega.{arith}
use lib.Dec.{ltb, leb, eqb}
use lib.ListN.{length}
use borrow.Author.Tests.{leb-true, leb-false, ltb-false, eqb-true, eqb-false, eq-eqb, ne_eqb, not-false}
use Rattle.lists.proofs.Cases.{cases, order}
use Rattle.net.specs.Limits.{most_nodes, most_arcs, most_length}
use Rattle.outcome.specs.declared.Told.{Told}
use Rattle.outcome.specs.Outcome.{plain, beside, size}
use Rattle.table.specs.Table.{record_bytes, records, from_at, to_at, len_at}
use Rattle.table.specs.Fault.{fault_of, prev_of, fault_at, good, lowest, wrong_size, table_fault}

-- ---- one record

pub record Good (nodes prev from to len : ℕ) : Type 0 where
  pub start : from < nodes
  pub end : to < nodes
  pub moves : from ≡ to → ⊥
  pub least : 1 ≤ len
  pub most : len ≤ most_length
  pub sorted : prev ≤ from

-- a test with a fault's number did not fire
passed : (b : Bool) (k x : ℕ) → cond b (suc k) x ≡ 0 → (b ≡ false) × (x ≡ 0)
passed true k x h = absurd (omega arith)
passed false k x h = (refl, h)

or-false : (x y : Bool) → (x || y) ≡ false → (x ≡ false) × (y ≡ false)
or-false true y h = let z : ◌≡◌ {A = ℕ} 0 1 = cc in absurd (omega arith)
or-false false y h = (refl, h)

and-true : (x y : Bool) → (x && y) ≡ true → (x ≡ true) × (y ≡ true)
and-true true y h = (refl, h)
and-true false y h = let z : ◌≡◌ {A = ℕ} 0 1 = cc in absurd (omega arith)

pub fault-none : (nodes prev from to len : ℕ) → fault_of nodes prev from to len ≡ 0 → Good nodes prev from to len
unfolding fault_of
fault-none nodes prev from to len h =
    let p2 = passed (leb nodes from || leb nodes to) 1 _ h in
    let p3 = passed (eqb from to) 2 _ p2.1 in
    let p4 = passed (not (leb 1 len && leb len most_length)) 3 _ p3.1 in
    let p6 = passed (ltb from prev) 5 _ p4.1 in
    let nodes-below = or-false (leb nodes from) (leb nodes to) p2.0 in
    let limits = and-true (leb 1 len) (leb len most_length) (not-false _ p4.0) in
    record {
      start = leb-false nodes from nodes-below.0;
      end = leb-false nodes to nodes-below.1;
      moves = eqb-false from to p3.0;
      least = leb-true 1 len limits.0;
      most = leb-true len most_length limits.1;
      sorted = ltb-false from prev p6.0;
    }

-- ---- a loop from i up to n: the invariant is `lowest (n - i) nodes t i ≡ lowest n nodes t 0`

pub prev-step : (t : List ℕ) (i : ℕ) → prev_of t (i + 1) ≡ from_at t i
unfolding prev_of
prev-step t i = rw add-one

module _ (nodes : ℕ) (t : List ℕ) (n i : ℕ) where
  pub lowest-done : n ≤ i → lowest (n - i) nodes t i ≡ good
  unfolding lowest
  lowest-done h =
      let e : n - i ≡ 0 = omega arith in
      rw e

  pub lowest_step : i < n → fault_at nodes t i ≡ 0 → lowest (n - i) nodes t i ≡ lowest (n - (i + 1)) nodes t (i + 1)
  unfolding lowest
  lowest_step h z =
      let e : n - i ≡ suc (n - (i + 1)) = omega arith in
      rw (e, eq-eqb (fault_at nodes t i) 0 z)

  pub lowest-stop : i < n → (fault_at nodes t i ≡ 0 → ⊥) → lowest (n - i) nodes t i ≡ beside (fault_at nodes t i) i
  unfolding lowest
  lowest-stop h ne =
      let e : n - i ≡ suc (n - (i + 1)) = omega arith in
      rw (e, ne_eqb (fault_at nodes t i) 0 ne)

-- ---- a scan that ends good

-- the answer of a record with a fault is not good
unfaulted : (f i : ℕ) (r : Told) → cond (eqb f 0) r (beside f i) ≡ good → (f ≡ 0) × (r ≡ good)
unfaulted f i r h =
    ⊎_elim (λ e. (eqb-true f 0 e, rw e at h))
    (λ e. absurd (eqb-false f 0 e (ap (λ x. x.outcome) (rw e at h))))
    (cases (eqb f 0))

lowest-none : (n nodes : ℕ) (t : List ℕ) (i : ℕ) → lowest n nodes t i ≡ good → (j : ℕ) → j < n → fault_at nodes t (i + j) ≡ 0
unfolding lowest
lowest-none zero nodes t i h j w = absurd (omega arith)
lowest-none (suc n) nodes t i h zero w = rw (add-zero i) (unfaulted (fault_at nodes t i) i (lowest n nodes t (i + 1)) h).0
lowest-none (suc n) nodes t i h (suc j) w =
    let e : i + suc j ≡ i + 1 + j = omega arith in
    rw e (lowest-none n nodes t (i + 1) (unfaulted (fault_at nodes t i) i (lowest n nodes t (i + 1)) h).1 j (omega arith))

-- an outcome 0 is good: no number stands beside it
lowest-zero : (n nodes : ℕ) (t : List ℕ) (i : ℕ) → (lowest n nodes t i).outcome ≡ 0 → lowest n nodes t i ≡ good
unfolding lowest
lowest-zero zero nodes t i h = refl
lowest-zero (suc n) nodes t i h =
    ⊎_elim (λ e. rw e (lowest-zero n nodes t (i + 1) (rw e at h)))
    (λ e. absurd (eqb-false (fault_at nodes t i) 0 e (rw e at h)))
    (cases (eqb (fault_at nodes t i) 0))

-- ---- the fault of a table

pub size-right : (nodes : ℕ) (t : List ℕ) → wrong_size nodes t ≡ false
    → (1 ≤ nodes) × (nodes ≤ most_nodes) × (length t % record_bytes ≡ 0) × (records t ≤ most_arcs)
unfolding wrong_size
size-right nodes t e =
    let most = or-false (not (leb 1 nodes && leb nodes most_nodes) || not (eqb (length t % record_bytes) 0)) (ltb most_arcs (records t)) e in
    let whole = or-false (not (leb 1 nodes && leb nodes most_nodes)) (not (eqb (length t % record_bytes) 0)) most.0 in
    let limits = and-true (leb 1 nodes) (leb nodes most_nodes) (not-false _ whole.0) in
    (leb-true 1 nodes limits.0, leb-true nodes most_nodes limits.1, eqb-true _ _ (not-false _ whole.1), ltb-false most_arcs (records t) most.1)

-- the table's size is right, and the records decide
sized : (b : Bool) (r : Told) → cond b (plain size) r ≡ good → (b ≡ false) × (r ≡ good)
sized true r h = absurd (omega (arith, ap (λ x. x.outcome) h))
sized false r h = (refl, h)

pub told-good : (nodes : ℕ) (t : List ℕ) → (table_fault nodes t).outcome ≡ 0 → table_fault nodes t ≡ good
unfolding table_fault
told-good nodes t h = go (wrong_size nodes t) h
  where
    go : (b : Bool) → (cond b (plain size) (lowest (records t) nodes t 0)).outcome ≡ 0
        → cond b (plain size) (lowest (records t) nodes t 0) ≡ good
    go true k = absurd (omega arith)
    go false k = lowest-zero (records t) nodes t 0 k

abbrev pub GoodAt : ℕ → List ℕ → ℕ → Type 0
GoodAt nodes t i = Good nodes (prev_of t i) (from_at t i) (to_at t i) (len_at t i)

module _ (nodes : ℕ) (t : List ℕ) (ok : table_fault nodes t ≡ good) where
  pub all-good : (i : ℕ) → i < records t → GoodAt nodes t i
  unfolding table_fault fault_at
  all-good i h =
      fault-none nodes (prev_of t i) (from_at t i) (to_at t i) (len_at t i)
      (rw zero-add at (lowest-none (records t) nodes t 0 (sized (wrong_size nodes t) (lowest (records t) nodes t 0) ok).1 i h))

  pub good-size : (1 ≤ nodes) × (nodes ≤ most_nodes) × (length t % record_bytes ≡ 0) × (records t ≤ most_arcs)
  unfolding table_fault
  good-size = size-right nodes t (sized (wrong_size nodes t) (lowest (records t) nodes t 0) ok).0

-- ---- a scan that finds a fault: that of the lowest record that has one

pub record Lowest (nodes : ℕ) (t : List ℕ) (i n f j : ℕ) : Type 0 where
  pub first : i ≤ j
  pub last : j < i + n
  pub is : fault_at nodes t j ≡ f
  pub before : (k : ℕ) → i ≤ k → k < j → fault_at nodes t k ≡ 0

pub lowest-found : (n nodes : ℕ) (t : List ℕ) (i f j : ℕ) → lowest n nodes t i ≡ beside (suc f) j → Lowest nodes t i n (suc f) j
unfolding lowest
lowest-found zero nodes t i f j h = absurd (omega (arith, ap (λ x. x.outcome) h))
lowest-found (suc n) nodes t i f j h =
    ⊎_elim
    (λ e.
    let r = lowest-found n nodes t (i + 1) f j (rw e at h) in
    record {
      first = omega (arith, r.first);
      last = omega (arith, r.last);
      is = r.is;
      before = λ k a b. ⊎_elim
          (λ w.
          let q : k ≡ i = omega arith in
          rw q (eqb-true (fault_at nodes t i) 0 e))
          (λ w. r.before k (omega arith) b)
          (order k i);
    })
    (λ e.
    let g : ◌≡◌ {A = Told} (beside (fault_at nodes t i) i) (beside (suc f) j) = rw e at h in
    let q : i ≡ j = ap (λ x. x.number) g in
    record { first = omega arith; last = omega arith; is = rw (← q) (ap (λ x. x.outcome) g); before = λ k a b. absurd (omega arith) })
    (cases (eqb (fault_at nodes t i) 0))

pub table-found : (nodes : ℕ) (t : List ℕ) (f j : ℕ) → wrong_size nodes t ≡ false → table_fault nodes t ≡ beside (suc f) j
    → Lowest nodes t 0 (records t) (suc f) j
unfolding table_fault
table-found nodes t f j size h = lowest-found (records t) nodes t 0 f j (rw size at h)
