-- Free records, found from a record on. Nothing below the cursor is free: where it starts there is nothing below it, and a record put at the next free one is in use. So the next
-- free record is the lowest (`lowest-next`), and what is put one after the other is `placed`. Each record put takes one from those that are free from the cursor on.
use mathlib.Core.Path.{◌≡◌, refl, sym, ap, ◌∙◌}
use mathlib.Core.Bool.{Bool, false}
use mathlib.Core.List.{List, [], ◌∷◌, ◌++◌}
use mathlib.Core.Logic.{⊎_elim}
use Prim.Native.Nat.{ℕ, zero, suc, ◌+◌, ◌-◌, ◌/◌, ◌≤◌, ◌<◌}
use native.Mathlib.Nat.{sub-zero}
use native.Mathlib.Numerals.{add-one}
use native.Mathlib.Omega.{arith}
use lib.Dec.{eqb}
use lib.ListN.{length, length-append}
use borrow.Author.Tests.{ne_eqb}
use Rattle.lists.specs.Tests.{up_from, keep}
use Rattle.lists.specs.Index.{first_at}
use Rattle.lists.proofs.Cases.{cases, order}
use Rattle.lists.proofs.IndexLaws.{first-ge, first-is, first_below, first-at}
use Rattle.lists.proofs.RangeLaws.{keep-skip, keep-first}
use Rattle.plan_record.proofs.RecordLaws.{length-with_record, length-record_of, plan-other, plan-put}
use Rattle.plan_record.specs.Record.{record_bytes, records, plan_at, part_arcs, Row, record_of, with_record}
use Rattle.plan_file.specs.Meaning.{free_in}
use Rattle.plan_store.specs.Store.{lowest_free, placed}
use Rattle.plan_store.specs.Placing.{free_from, next_free, Placing, room, placed_next, placed_on}
use Rattle.plan_store.proofs.PartLaws.{Fit}

-- ---- the next free record

abbrev pub is_free : List ℕ → ℕ → Bool
is_free f i = eqb (plan_at f i) 0

pub free_all : (f : List ℕ) → free_from f 0 ≡ free_in f
unfolding free_from free_in
free_all f = rw sub-zero

pub next-done : (f : List ℕ) (i : ℕ) → records f ≤ i → next_free f i ≡ i
unfolding next_free first_at
next-done f i h =
    let e : records f - i ≡ 0 = omega arith in
    rw e

-- where one of a range passes, the first that does lies in it
first-in : (p : ℕ → Bool) (i n : ℕ) → 1 ≤ length (keep p (up_from i n)) → first_at p n i < i + n
unfolding keep up_from first_at
first-in p i zero h = absurd (omega arith)
first-in p i (suc n) h =
    ⊎_elim (λ e. rw e (omega arith)) (λ e. rw (e, add-one) (omega (arith, first-in p (suc i) n (rw e at h)))) (cases (p i))

keep-cong : (p q : ℕ → Bool) (i n : ℕ) → ((a : ℕ) → i ≤ a → p a ≡ q a) → keep p (up_from i n) ≡ keep q (up_from i n)
unfolding keep up_from
keep-cong p q i zero h = refl
keep-cong p q i (suc n) h = rw (h i (omega arith), keep-cong p q (suc i) n (λ a k. h a (omega arith)))

module _ (f : List ℕ) (i : ℕ) where
  pub next-within : 1 ≤ length (free_from f i) → next_free f i < records f
  unfolding next_free free_from
  next-within h = omega (arith, first-in (is_free f) i (records f - i) h, first-ge (is_free f) (records f - i) i)

  free-first : 1 ≤ length (free_from f i) → free_from f i ≡ next_free f i ∷ free_from f (next_free f i + 1)
  unfolding next_free free_from
  free-first h =
      let p : ℕ → Bool = is_free f in
      let n = records f in
      let r = first_at p (n - i) i in
      let b : r < i + (n - i) = first-in p i (n - i) h in
      let g : i ≤ r = first-ge p (n - i) i in
      keep-skip p i r n g (omega arith) (λ j k l. first_below p (n - i) i j k l) ∙ keep-first p r n (omega arith) (first-at p (n - i) i b)

  -- nothing below i is free, so nothing below the next one is, and it is the lowest
  used-below : ((j : ℕ) → j < i → is_free f j ≡ false) → (j : ℕ) → j < next_free f i → is_free f j ≡ false
  unfolding next_free
  used-below used j l = ⊎_elim (λ w. first_below (is_free f) (records f - i) i j w l) (λ w. used j w) (order i j)

  lowest-next : 1 ≤ length (free_from f i) → ((j : ℕ) → j < i → is_free f j ≡ false) → lowest_free f ≡ next_free f i
  unfolding next_free free_from lowest_free
  lowest-next h used =
      let p : ℕ → Bool = is_free f in
      let n = records f in
      let r = first_at p (n - i) i in
      let b : r < i + (n - i) = first-in p i (n - i) h in
      let g : i ≤ r = first-ge p (n - i) i in
      first-is p n 0 r (omega arith) (omega arith) (λ j k l. ⊎_elim (λ w. first_below p (n - i) i j w l) (λ w. used j w) (order i j)) (λ k. first-at p (n - i) i b)

free-after : (f : List ℕ) (j : ℕ) (bytes : List ℕ) → j < records f → length bytes ≡ record_bytes → free_from (with_record f j bytes) (j + 1) ≡ free_from f (j + 1)
unfolding free_from
free-after f j bytes h n =
    let e : records (with_record f j bytes) ≡ records f = ap (λ k. k / record_bytes) (length-with_record f j bytes h n) in
    ap (λ m. keep (is_free (with_record f j bytes)) (up_from (j + 1) (m - (j + 1)))) e
    ∙ keep-cong (is_free (with_record f j bytes)) (is_free f) (j + 1) (records f - (j + 1)) (λ a k. ap (λ v. eqb v 0) (plan-other f j a bytes h n (λ q. omega arith)))

-- ---- one part, and parts, put

module _ (s : Placing) (x : Row) (h : 1 ≤ room s) (k : length x.arcs ≤ part_arcs) where
  length-next : length (placed_next s x).file ≡ length s.file
  unfolding placed_next
  length-next = length-with_record s.file (next_free s.file s.at) (record_of x) (next-within s.file s.at h) (length-record_of x k)

  room_next : suc (room (placed_next s x)) ≡ room s
  unfolding placed_next
  room_next =
      let j = next_free s.file s.at in
      ap (λ l. suc (length l)) (free-after s.file j (record_of x) (next-within s.file s.at h) (length-record_of x k)) ∙ sym (ap length (free-first s.file s.at h))

-- a turn that puts a part
pub part-turn : (s t : Placing) (x : Row) (xs : List Row) → t ≡ placed_next s x → length (x ∷ xs) ≤ room s → length x.arcs ≤ part_arcs
    → (placed_on t xs ≡ placed_on s (x ∷ xs)) × (length xs ≤ room t) × (length t.file ≡ length s.file)
unfolding placed_on
part-turn s t x xs e h k =
    let one : 1 ≤ room s = omega arith in (
      ap (λ u. placed_on u xs) e,
      omega (arith, ap room e, room_next s x one k),
      ap (λ u. length u.file) e ∙ length-next s x one k,
    )

on-append : (s : Placing) (xs ys : List Row) → placed_on s (xs ++ ys) ≡ placed_on (placed_on s xs) ys
unfolding placed_on
on-append s [] ys = refl
on-append s (x ∷ xs) ys = on-append (placed_next s x) xs ys

module _ (plan : ℕ) where
  on-kept : (s : Placing) (xs : List Row) → Fit plan xs → length xs ≤ room s → (room (placed_on s xs) + length xs ≡ room s) × (length (placed_on s xs).file ≡ length s.file)
  unfolding placed_on
  on-kept s [] k h = (omega arith, refl)
  on-kept s (x ∷ xs) k h =
      let one : 1 ≤ room s = omega arith in
      let e : suc (room (placed_next s x)) ≡ room s = room_next s x one k.1 in
      let w = on-kept (placed_next s x) xs k.2 (omega arith) in
      (omega arith, w.1 ∙ length-next s x one k.1)

  -- a turn that puts the parts of a route
  pub parts-turn : (s t : Placing) (xs ys : List Row) → t ≡ placed_on s xs → Fit plan xs → length (xs ++ ys) ≤ room s
      → (placed_on t ys ≡ placed_on s (xs ++ ys)) × (length ys ≤ room t) × (length t.file ≡ length s.file)
  parts-turn s t xs ys e k h =
      let n : length (xs ++ ys) ≡ length xs + length ys = length-append xs ys in
      let w = on-kept s xs k (omega arith) in
      (ap (λ u. placed_on u ys) e ∙ sym (on-append s xs ys), omega (arith, ap room e), ap (λ u. length u.file) e ∙ w.1)

  -- ---- the lowest free records

  module _ (some : 0 < plan) (fits : plan < 4294967296) where
    used-next : (s : Placing) (x : Row) → 1 ≤ room s → (x.plan ≡ plan) → length x.arcs ≤ part_arcs → ((j : ℕ) → j < s.at → is_free s.file j ≡ false)
        → (j : ℕ) → j < (placed_next s x).at → is_free (placed_next s x).file j ≡ false
    unfolding placed_next
    used-next s x h e k used j b =
        let f = s.file in
        let r = next_free f s.at in
        let w : r < records f = next-within f s.at h in
        let n : length (record_of x) ≡ record_bytes = length-record_of x k in
        ⊎_elim
        (λ l.
        let q : j ≡ r = omega arith in
        rw q (ne_eqb _ 0 (λ z. let p : x.plan ≡ 0 = sym (plan-put f r x w k (omega arith)) ∙ z in omega arith)))
        (λ l. ap (λ v. eqb v 0) (plan-other f r j (record_of x) w n (λ q. omega arith)) ∙ used-below f s.at used j l)
        (order r j)

    on-lowest : (s : Placing) (xs : List Row) → Fit plan xs → length xs ≤ room s → ((j : ℕ) → j < s.at → is_free s.file j ≡ false) → (placed_on s xs).file ≡ placed s.file xs
    unfolding placed_on placed placed_next
    on-lowest s [] k h used = refl
    on-lowest s (x ∷ xs) k h used =
        let one : 1 ≤ room s = omega arith in
        let e : suc (room (placed_next s x)) ≡ room s = room_next s x one k.1 in
        let low : lowest_free s.file ≡ next_free s.file s.at = lowest-next s.file s.at one used in
        on-lowest (placed_next s x) xs k.2 (omega arith) (used-next s x one k.0 k.1 used)
        ∙ ap (λ i. placed (with_record s.file i (record_of x)) xs) (sym low)

    -- from the first record on
    pub placed-lowest : (f : List ℕ) (xs : List Row) → Fit plan xs → length xs ≤ length (free_in f) → (placed_on (record { file = f; at = 0 }) xs).file ≡ placed f xs
    placed-lowest f xs k h = on-lowest (record { file = f; at = 0 }) xs k (omega (arith, ap length (free_all f))) (λ j b. absurd (omega arith))
