-- Writing a table and reading it back. In a table of zeros clearing bytes 12 to 15 of every record changes nothing, so that the table of its arcs is the table itself.
-- Where the table is good its records stand in order of start node, so that ordering its arcs changes nothing either. Its numbers are within their limits, so its text
-- tells them and reads as the same roads (`written-reads`), and what a read makes of these is the table. A write that is done had a good table of zeros, and so has a
-- read that is done made one: this holds of both.
use mathlib.Core.Path.{◌≡◌, refl, sym, ap, ap₂, subst, ◌∙◌}
use mathlib.Core.List.Memᴰ
use mathlib.Core.List.{List, [], ◌∷◌, ◌++◌, append-nil, Memᴰ}
use mathlib.Core.Logic.{◌≢◌, ⊎_elim}
use Prim.Native.Nat.{ℕ, zero, suc, ◌+◌, ◌*◌, ◌≤◌, ◌<◌}
use native.Mathlib.Numerals.{add-one}
use native.Mathlib.Omega.{arith}
use lib.Dec.{eqb}
use lib.ListN.{length, get_or, take, drop, take-append-drop, drop_of_length-le}
use lib.Seq.{take_at}
use borrow.Author.Tests.{eqb-true, eqb-false}
use Rattle.lists.specs.Index.{tab}
use Rattle.lists.proofs.Cases.{cases, order}
use Rattle.std.proofs.Common.{Result}
use Rattle.outcome.specs.declared.Told.{Told}
use Rattle.outcome.specs.Outcome.{found, plain}
use Rattle.words.specs.Number.{num, put, bytes_of}
use Rattle.words.proofs.BytesLaws.{put_is, bytes-append, bytes-bytes_of, number-first}
use Rattle.net.specs.Net.{Arc}
use Rattle.table.specs.Table.{records, road_at, NoRoads, arc_at, arcs_of, record_of, table_of}
use Rattle.table.specs.Fault.{prev_of, table_fault, good}
use Rattle.table.proofs.FaultLaws.{told-good, all-good, good-size}
use Rattle.table.proofs.NetLaws.{arcs-length}
use Rattle.road_order.specs.Ordered.{ordered}
use Rattle.road_order.proofs.OrderedLaws.{InOrder, ordered_same}
use Rattle.road_file.specs.File.{Roads, malformed, roads, roads_in}
use Rattle.road_fill.specs.Filled.{cleared}
use Rattle.road_fill.proofs.ClearLaws.{cleared-none, cleared-step}
use Rattle.road_made.specs.declared.Made.{Made}
use Rattle.road_made.specs.Made.{told_of, bytes_made, nodes_made, Made-of}
use Rattle.road_read.specs.Read.{table_due, Tabled, ReadAs, Read}
use Rattle.road_read.proofs.ReadLaws.{due-no-roads}
use Rattle.road_write.specs.Written.{text_of, first_road, Written}
use Rattle.road_write.proofs.RoadLaws.{road-le, first-none, none_first}
use Rattle.road_trip.specs.Text.{Tellable}
use Rattle.road_trip.proofs.Written.{written-reads}

-- ---- bytes that are zero, cleared

module _ (t : List ℕ) (bytes : (k : ℕ) → get_or t k 0 < 256) where
  -- a zero stored where one stands
  zero-again : (at : ℕ) → at + 4 ≤ length t → num 4 t at ≡ 0 → put 4 t at 0 ≡ t
  zero-again at h z =
      let e : drop at t ≡ bytes_of 4 0 ++ drop (at + 4) t = number-first t bytes at (at + 4) refl h ∙ ap (λ v. bytes_of 4 v ++ drop (at + 4) t) z in
      put_is 4 t at 0 h ∙ ap (λ l. take at t ++ l) (sym e) ∙ take-append-drop at t

  cleared-same : (n : ℕ) → ((i : ℕ) → i < n → road_at t i ≡ 0) → n * 16 ≤ length t → cleared n t ≡ t
  cleared-same zero z h = cleared-none t
  cleared-same (suc n) z h =
      rw (← add-one n)
      (sym (cleared-step n t bytes (omega arith))
      ∙ ap (λ l. put 4 l (n * 16 + 12) 0) (cleared-same n (λ i w. z i (omega arith)) (omega arith))
      ∙ zero-again (n * 16 + 12) (omega arith) (z n (omega arith)))

-- ---- arcs told by their entries

tab-in-order : (n : ℕ) (f : ℕ → Arc) → ((i : ℕ) → suc i < n → (f i).from ≤ (f (suc i)).from) → InOrder (tab n f)
unfolding InOrder
tab-in-order zero f h = tt
tab-in-order (suc zero) f h = tt
tab-in-order (suc (suc n)) f h = (h 0 (omega arith), tab-in-order (suc n) (λ i. f (suc i)) (λ i w. h (suc i) (omega arith)))

tab-tellable : (n : ℕ) (f : ℕ → Arc) → ((i : ℕ) → i < n → Tellable (f i)) → (a : Arc) → Memᴰ a (tab n f) → Tellable a
tab-tellable zero f h a m = absurd (Memᴰ.not-nil m)
tab-tellable (suc n) f h a m =
    ⊎_elim
    (λ e. subst Tellable (sym e) (h 0 (omega arith)))
    (λ k. tab-tellable n (λ i. f (suc i)) (λ i w. h (suc i) (omega arith)) a k)
    (Memᴰ.cases_cons m)

-- ---- a good table

module _ (nodes : ℕ) (t : List ℕ) (bytes : (k : ℕ) → get_or t k 0 < 256) (ok : table_fault nodes t ≡ good) where
  whole-records : records t * 16 ≡ length t
  whole-records = omega (arith, (good-size nodes t ok).2)

  in_order : InOrder (arcs_of t)
  unfolding arcs_of prev_of
  in_order = tab-in-order (records t) (arc_at t) (λ i w. (all-good nodes t ok (suc i) w).sorted)

  tellable : (a : Arc) → Memᴰ a (arcs_of t) → Tellable a
  unfolding arcs_of
  tellable =
      let limit = (good-size nodes t ok).1 in
      tab-tellable (records t) (arc_at t)
      (λ i w.
      let g = all-good nodes t ok i w in
      record { tail = omega (arith, g.start, limit); head = omega (arith, g.end, limit); len = omega (arith, g.most) })

  -- what is written is well-formed, and says the same
  pub text-reads : roads_in (text_of nodes t) ≡ roads nodes (arcs_of t)
  text-reads =
      let size = good-size nodes t ok in
      written-reads nodes (arcs_of t) (omega (arith, size.1)) (omega (arith, size.3, arcs-length t)) tellable

  module _ (none : NoRoads t) where
    pub table-of-arcs : table_of (arcs_of t) ≡ t
    unfolding arcs_of cleared
    table-of-arcs =
        let same : table_of (tab (records t) (arc_at t)) ++ drop (records t * 16) t ≡ t =
        cleared-same t bytes (records t) none (omega (arith, whole-records)) in
        sym (append-nil (table_of (tab (records t) (arc_at t))))
        ∙ ap (λ l. table_of (tab (records t) (arc_at t)) ++ l) (sym (drop_of_length-le t {i = records t * 16} (omega (arith, whole-records))))
        ∙ same

    -- ordered as a road file's arcs are, they make the table again
    pub table-due : table_due (arcs_of t) ≡ t
    table-due = ap table_of (ordered_same (arcs_of t) in_order) ∙ table-of-arcs

-- ---- the two calls

-- "Writing a table and reading it back gives the same table" (document 02, item 2), which "holds for tables of zeros" (item 5): byte for byte, with its node count.
pub write-then-read : (nodes : ℕ) (t text text' area area' : List ℕ) (w r : Result Made Told) → ((k : ℕ) → get_or t k 0 < 256) → table_fault nodes t ≡ good → NoRoads t
    → length (text_of nodes t) ≤ length text → Written nodes t text w text' → Read (take (bytes_made w) text') area r area' → length t ≤ length area
    → Made-of (length t) nodes (t ++ drop (length t) area) r area'
write-then-read nodes t text text' area area' w r bytes ok none fits written read room =
    let x = text_of nodes t in
    let m = written.done ok (none_first t none) fits in
    let front : take (bytes_made w) text' ≡ x = ap₂ take m.bytes-is m.area-is ∙ take_at x (drop (length x) text) (length x) refl in
    let tabled : Tabled nodes (arcs_of t) area r area' = subst (λ q. ReadAs q area r area') (ap roads_in front ∙ text-reads nodes t bytes ok) read in
    subst (λ d. table_fault nodes d ≡ good → length d ≤ length area → Made-of (length d) nodes (d ++ drop (length d) area) r area') (table-due nodes t bytes ok none)
    tabled.done ok room

-- what a write that is done had
record Wrote (nodes : ℕ) (t text : List ℕ) : Type 0 where
  fault : table_fault nodes t ≡ good
  none : NoRoads t
  fits : length (text_of nodes t) ≤ length text

-- none of the refusals has outcome 0
wrote : (nodes : ℕ) (t text text' : List ℕ) (w : Result Made Told) → Written nodes t text w text' → told_of w ≡ plain found → Wrote nodes t text
wrote nodes t text text' w written e =
    ⊎_elim
    (λ z.
    let g = told-good nodes t (eqb-true _ _ z) in
    ⊎_elim
    (λ n.
    let none : first_road t ≡ records t = omega (arith, road-le t) in
    record {
      fault = g;
      none = first-none t none;
      fits =
          ⊎_elim (λ h. h) (λ h. absurd (omega (arith, ap (λ x. x.outcome) (sym e ∙ (written.small g none h).told_is))))
          (order (length (text_of nodes t)) (length text));
    })
    (λ n. absurd (omega (arith, ap (λ x. x.outcome) (sym e ∙ (written.on-roads g n).told_is))))
    (order (records t) (first_road t)))
    (λ z.
    let f : table_fault nodes t ≢ good = λ g. eqb-false (table_fault nodes t).outcome 0 z (ap (λ x. x.outcome) g) in
    absurd (f (sym (written.faulty f).told_is ∙ e)))
    (cases (eqb (table_fault nodes t).outcome 0))

-- So what a write that is done has written gives its table back.
pub written-then-read : (nodes : ℕ) (t text text' area area' : List ℕ) (w r : Result Made Told) → ((k : ℕ) → get_or t k 0 < 256) → Written nodes t text w text' → told_of w ≡ plain found
    → Read (take (bytes_made w) text') area r area' → length t ≤ length area
    → Made-of (length t) nodes (t ++ drop (length t) area) r area'
written-then-read nodes t text text' area area' w r bytes written e read room =
    let h = wrote nodes t text text' w written e in
    write-then-read nodes t text text' area area' w r bytes h.fault h.none h.fits written read room

-- ---- what a read made

record-bytes : (x : Arc) (k : ℕ) → get_or (record_of x) k 0 < 256
unfolding record_of
record-bytes x =
    let end = bytes_of 4 x.len ++ bytes_of 4 0 in
    bytes-append (bytes_of 4 x.from) (bytes_of 4 x.to ++ end) (bytes-bytes_of 4 x.from)
    (bytes-append (bytes_of 4 x.to) end (bytes-bytes_of 4 x.to) (bytes-append (bytes_of 4 x.len) (bytes_of 4 0) (bytes-bytes_of 4 x.len) (bytes-bytes_of 4 0)))

pub table-bytes : (xs : List Arc) (k : ℕ) → get_or (table_of xs) k 0 < 256
unfolding table_of
table-bytes [] k = omega arith
table-bytes (x ∷ xs) k = bytes-append (record_of x) (table_of xs) (record-bytes x) (table-bytes xs) k

-- a good table of bytes and of zeros, as long as is told
record Stands (nodes bytes : ℕ) (t : List ℕ) : Type 0 where
  each : (k : ℕ) → get_or t k 0 < 256
  fault : table_fault nodes t ≡ good
  none : NoRoads t
  long : length t ≡ bytes

module _ (area area' : List ℕ) (r : Result Made Told) where
  abbrev Stood : Type 0
  Stood = Stands (nodes_made r) (bytes_made r) (take (bytes_made r) area')

  made-stands : (n : ℕ) (arcs : List Arc) → table_fault n (table_due arcs) ≡ good
      → Made-of (length (table_due arcs)) n (table_due arcs ++ drop (length (table_due arcs)) area) r area' → Stood
  made-stands n arcs g m =
      let t = table_due arcs in
      let front : take (bytes_made r) area' ≡ t = ap₂ take m.bytes-is m.area-is ∙ take_at t (drop (length t) area) (length t) refl in
      record {
        each = subst (λ l. (k : ℕ) → get_or l k 0 < 256) (sym front) (table-bytes (ordered arcs));
        fault = ap₂ table_fault m.nodes-is front ∙ g;
        none = subst NoRoads (sym front) (due-no-roads arcs);
        long = ap length front ∙ sym m.bytes-is;
      }

  -- none of the refusals has outcome 0
  read-stands : (q : Roads) → told_of r ≡ plain found → ReadAs q area r area' → Stood
  read-stands (malformed line) e u = absurd (omega (arith, ap (λ x. x.outcome) (sym e ∙ u.told_is)))
  read-stands (roads n arcs) e d =
      ⊎_elim
      (λ z.
      let g = told-good n (table_due arcs) (eqb-true _ _ z) in
      ⊎_elim
      (λ h. made-stands n arcs g (d.done g h))
      (λ h. absurd (omega (arith, ap (λ x. x.outcome) (sym e ∙ (d.small g h).told_is))))
      (order (length (table_due arcs)) (length area)))
      (λ z.
      let f : table_fault n (table_due arcs) ≢ good = λ g. eqb-false (table_fault n (table_due arcs)).outcome 0 z (ap (λ x. x.outcome) g) in
      absurd (f (sym (d.faulty f).told_is ∙ e)))
      (cases (eqb (table_fault n (table_due arcs)).outcome 0))

-- A table that was read is one that can be written: no refusal but 10, where the buffer is too short for its text.
pub read-then-written : (file text text' area area' : List ℕ) (r w : Result Made Told) → Read file area r area' → told_of r ≡ plain found
    → Written (nodes_made r) (take (bytes_made r) area') text w text' → length (text_of (nodes_made r) (take (bytes_made r) area')) ≤ length text
    → told_of w ≡ plain found
read-then-written file text text' area area' r w read e written fits =
    let g = read-stands area area' r (roads_in file) e read in
    (written.done g.fault (none_first _ g.none) fits).told_is

-- A file that is read, written and read again gives the table that it gave at first.
pub read-write-read : (file text text' area area' again again' : List ℕ) (r w s : Result Made Told) → Read file area r area' → told_of r ≡ plain found
    → Written (nodes_made r) (take (bytes_made r) area') text w text' → told_of w ≡ plain found → Read (take (bytes_made w) text') again s again'
    → bytes_made r ≤ length again
    → Made-of (bytes_made r) (nodes_made r) (take (bytes_made r) area' ++ drop (bytes_made r) again) s again'
read-write-read file text text' area area' again again' r w s read e written f reread room =
    let n = nodes_made r in
    let t = take (bytes_made r) area' in
    let g = read-stands area area' r (roads_in file) e read in
    subst (λ k. Made-of k n (t ++ drop k again) s again') g.long
    (written-then-read n t text text' again again' w s g.each written f reread (omega (arith, g.long)))
