-- The laws of records that all above cite. Each field is read from the record's own bytes, so that two records of the same bytes have the same fields; the bytes of a
-- record that was put are those given, and the bytes of any other record are as they were; and what stands in the bytes of a row is the row.
use mathlib.Core.Path.{◌≡◌, refl, sym, ap, ap₂, ◌∙◌}
use mathlib.Core.Bool.{Bool, true, ◌&&◌}
use mathlib.Core.List.{List, [], ◌∷◌, ◌++◌, flat_map, append_assoc}
use mathlib.Core.Logic.{◌≢◌, ⊎_elim}
use Prim.Native.Nat.{ℕ, zero, suc, ◌+◌, ◌*◌, ◌≤◌, ◌<◌}
use native.Mathlib.Omega.{arith}
use lib.Dec.{eqb, ltb, leb}
use lib.ListN.{length, get_or, take, drop, length-append, get_or-eq_default}
use lib.Seq.{length-take-le, get_or-take, get_or-drop, ext_get_or}
use borrow.Author.Tests.{lt-ltb, le-ltb, le-leb, eq-eqb, ne_eqb}
use Rattle.lists.specs.Tests.{up_from, every}
use Rattle.lists.specs.Index.{tab}
use Rattle.lists.proofs.Cases.{order}
use Rattle.lists.proofs.IndexLaws.{length-tab, get_or-tab, tab-cong}
use Rattle.words.specs.Number.{num, bytes_of}
use Rattle.words.specs.Part.{slot}
use Rattle.words.proofs.BytesLaws.{length-bytes_of, num-bytes}
use Rattle.words.proofs.PartLaws.{length-patch, slot_same, slot-other}
use Rattle.words.proofs.RecordLaws.{num-take, num-drop}
use Rattle.net.specs.Limits.{most_routes, most_arcs}
use Rattle.labels.specs.Field.{no_number}
use Rattle.plan_record.specs.Record.{Row, record_bytes, records, part_arcs, plan_at, rank_at, used_at, part_at, arc_at, arcs_at, blank, formed_arc, formed_use, formed, record_of, with_record, free}
use Rattle.plan_record.proofs.StoreLaws.{room, length-slot, get_or-within, padded, length-padded, padded-at, length-numbers, head_of, length-head}

-- ---- the form of a record in use, test by test

and-true : (a b c d : Bool) → a ≡ true → b ≡ true → c ≡ true → a && (b && c) && d ≡ d
and-true a b c d e f g = rw (e, f, g)

pub formed_use-is : (f : List ℕ) (i : ℕ) → rank_at f i < most_routes → 1 ≤ used_at f i → used_at f i ≤ part_arcs → formed_use f i ≡ every (formed_arc f i) (up_from 0 part_arcs)
unfolding formed_use
formed_use-is f i r u v =
    and-true (ltb (rank_at f i) most_routes) (leb 1 (used_at f i)) (leb (used_at f i) part_arcs) (every (formed_arc f i) (up_from 0 part_arcs)) (lt-ltb _ _ r) (le-leb _ _ u) (le-leb _ _ v)

-- ---- the fields by the record's bytes

module _ (f : List ℕ) (i : ℕ) where
  -- a number, and a byte, at an offset
  num-in : (k o : ℕ) → o + k ≤ record_bytes → num k f (i * record_bytes + o) ≡ num k (slot record_bytes i f) o
  unfolding slot
  num-in k o h = sym (num-take k record_bytes (drop (i * record_bytes) f) o h ∙ num-drop k (i * record_bytes) f o)

  byte-in : (o : ℕ) → o < record_bytes → get_or f (i * record_bytes + o) 0 ≡ get_or (slot record_bytes i f) o 0
  unfolding slot
  byte-in o h = sym (get_or-take record_bytes (drop (i * record_bytes) f) o 0 h ∙ get_or-drop (i * record_bytes) f o 0)

module _ (f g : List ℕ) (i j : ℕ) (e : slot record_bytes i f ≡ slot record_bytes j g) where
  num_of : (k o : ℕ) → o + k ≤ record_bytes → num k f (i * record_bytes + o) ≡ num k g (j * record_bytes + o)
  num_of k o h = num-in f i k o h ∙ ap (λ s. num k s o) e ∙ sym (num-in g j k o h)

  byte_of : (o : ℕ) → o < record_bytes → get_or f (i * record_bytes + o) 0 ≡ get_or g (j * record_bytes + o) 0
  byte_of o h = byte-in f i o h ∙ ap (λ s. get_or s o 0) e ∙ sym (byte-in g j o h)

  pub plan-of : plan_at f i ≡ plan_at g j
  plan-of = num_of 4 0 (omega arith)

  pub rank-of : rank_at f i ≡ rank_at g j
  rank-of = byte_of 4 (omega arith)

  pub used-of : used_at f i ≡ used_at g j
  used-of = byte_of 5 (omega arith)

  pub part_of : part_at f i ≡ part_at g j
  part_of = num_of 2 6 (omega arith)

  pub arc-of : (n : ℕ) → n < part_arcs → arc_at f i n ≡ arc_at g j n
  arc-of n h = num_of 4 (8 + 4 * n) (omega arith)

  pub arcs-of : arcs_at f i ≡ arcs_at g j
  arcs-of = ap₂ take used-of (tab-cong part_arcs (arc_at f i) (arc_at g j) arc-of)

  pub blank_of : blank f i ≡ blank g j
  unfolding blank
  blank_of = ap (every (λ b. eqb b 0)) e

  formed_arc-of : (n : ℕ) → n < part_arcs → formed_arc f i n ≡ formed_arc g j n
  unfolding formed_arc
  formed_arc-of n h = rw (used-of, arc-of n h)

  formed_arcs-of : every (formed_arc f i) (up_from 0 part_arcs) ≡ every (formed_arc g j) (up_from 0 part_arcs)
  unfolding every up_from
  formed_arcs-of = rw (formed_arc-of 0 (omega arith), formed_arc-of 1 (omega arith), formed_arc-of 2 (omega arith), formed_arc-of 3 (omega arith), formed_arc-of 4 (omega arith), formed_arc-of 5 (omega arith))

  pub formed_use-of : formed_use f i ≡ formed_use g j
  unfolding formed_use
  formed_use-of = ap₂ ◌&&◌ (ap₂ ◌&&◌ (ap (λ r. ltb r most_routes) rank-of) (ap (λ u. leb 1 u && leb u part_arcs) used-of)) formed_arcs-of

  pub formed-of : formed f i ≡ formed g j
  unfolding formed
  formed-of = rw (plan-of, blank_of, formed_use-of)

-- ---- a file with another record i

pub length-with_record : (f : List ℕ) (i : ℕ) (bytes : List ℕ) → i < records f → length bytes ≡ record_bytes → length (with_record f i bytes) ≡ length f
unfolding with_record
length-with_record f i bytes h n = length-patch (i * record_bytes) (i * record_bytes + record_bytes) f bytes (omega arith) (room f i h) (n ∙ omega arith)

pub bytes-here : (f : List ℕ) (i : ℕ) (bytes : List ℕ) → i < records f → length bytes ≡ record_bytes → slot record_bytes i (with_record f i bytes) ≡ bytes
unfolding with_record
bytes-here f i bytes h n = slot_same record_bytes i f bytes (room f i h) n

-- another record j is as it was
module _ (f : List ℕ) (i j : ℕ) (bytes : List ℕ) (h : i < records f) (n : length bytes ≡ record_bytes) (ne : i ≢ j) where
  pub bytes-other : slot record_bytes j (with_record f i bytes) ≡ slot record_bytes j f
  unfolding with_record
  bytes-other = slot-other record_bytes i j f bytes (room f i h) n ne

  pub plan-other : plan_at (with_record f i bytes) j ≡ plan_at f j
  plan-other = plan-of (with_record f i bytes) f j j bytes-other

  pub rank-other : rank_at (with_record f i bytes) j ≡ rank_at f j
  rank-other = rank-of (with_record f i bytes) f j j bytes-other

  pub used-other : used_at (with_record f i bytes) j ≡ used_at f j
  used-other = used-of (with_record f i bytes) f j j bytes-other

  pub part-other : part_at (with_record f i bytes) j ≡ part_at f j
  part-other = part_of (with_record f i bytes) f j j bytes-other

  pub arc-other : (k : ℕ) → k < part_arcs → arc_at (with_record f i bytes) j k ≡ arc_at f j k
  arc-other = arc-of (with_record f i bytes) f j j bytes-other

  pub arcs-other : arcs_at (with_record f i bytes) j ≡ arcs_at f j
  arcs-other = arcs-of (with_record f i bytes) f j j bytes-other

  pub blank-other : blank (with_record f i bytes) j ≡ blank f j
  blank-other = blank_of (with_record f i bytes) f j j bytes-other

  pub formed-other : formed (with_record f i bytes) j ≡ formed f j
  formed-other = formed-of (with_record f i bytes) f j j bytes-other

-- ---- record i made as record j of g is

module _ (f : List ℕ) (i : ℕ) (g : List ℕ) (j : ℕ) (h : i < records f) (k : j < records g) where
  pub bytes-copied : slot record_bytes i (with_record f i (slot record_bytes j g)) ≡ slot record_bytes j g
  bytes-copied = bytes-here f i (slot record_bytes j g) h (length-slot g j j k k)

  pub plan-copied : plan_at (with_record f i (slot record_bytes j g)) i ≡ plan_at g j
  plan-copied = plan-of (with_record f i (slot record_bytes j g)) g i j bytes-copied

  pub rank-copied : rank_at (with_record f i (slot record_bytes j g)) i ≡ rank_at g j
  rank-copied = rank-of (with_record f i (slot record_bytes j g)) g i j bytes-copied

  pub used-copied : used_at (with_record f i (slot record_bytes j g)) i ≡ used_at g j
  used-copied = used-of (with_record f i (slot record_bytes j g)) g i j bytes-copied

  pub part-copied : part_at (with_record f i (slot record_bytes j g)) i ≡ part_at g j
  part-copied = part_of (with_record f i (slot record_bytes j g)) g i j bytes-copied

  pub arc-copied : (n : ℕ) → n < part_arcs → arc_at (with_record f i (slot record_bytes j g)) i n ≡ arc_at g j n
  arc-copied = arc-of (with_record f i (slot record_bytes j g)) g i j bytes-copied

  pub arcs-copied : arcs_at (with_record f i (slot record_bytes j g)) i ≡ arcs_at g j
  arcs-copied = arcs-of (with_record f i (slot record_bytes j g)) g i j bytes-copied

  pub blank-copied : blank (with_record f i (slot record_bytes j g)) i ≡ blank g j
  blank-copied = blank_of (with_record f i (slot record_bytes j g)) g i j bytes-copied

  pub formed-copied : formed (with_record f i (slot record_bytes j g)) i ≡ formed g j
  formed-copied = formed-of (with_record f i (slot record_bytes j g)) g i j bytes-copied

-- ---- record i made free

module _ (f : List ℕ) (i : ℕ) (h : i < records f) where
  bytes-cleared : slot record_bytes i (with_record f i free) ≡ free
  bytes-cleared = bytes-here f i free h refl

  pub plan-cleared : plan_at (with_record f i free) i ≡ 0
  unfolding num
  plan-cleared = num-in (with_record f i free) i 4 0 (omega arith) ∙ ap (λ s. num 4 s 0) bytes-cleared

  pub blank-cleared : blank (with_record f i free) i ≡ true
  unfolding blank
  blank-cleared = ap (every (λ b. eqb b 0)) bytes-cleared

  pub formed-cleared : formed (with_record f i free) i ≡ true
  unfolding formed
  formed-cleared = rw (eq-eqb (plan_at (with_record f i free) i) 0 plan-cleared) blank-cleared

-- ---- record i made of a row

-- the j-th of the numbers that lie one behind the other
numbers-at : (xs l : List ℕ) (at j : ℕ) → at ≡ length xs → j < length l → get_or l j 0 < 4294967296 → num 4 (xs ++ flat_map (bytes_of 4) l) (at + 4 * j) ≡ get_or l j 0
unfolding flat_map
numbers-at xs [] at j e h b = absurd (omega arith)
numbers-at xs (y ∷ l) at zero e h b = num-bytes 4 xs (flat_map (bytes_of 4) l) (at + 4 * 0) y (omega arith) b
numbers-at xs (y ∷ l) at (suc j) e h b =
    let z : at + 4 * suc j ≡ at + 4 + 4 * j = omega arith in
    let n : at + 4 ≡ length (xs ++ bytes_of 4 y) = sym (length-append xs (bytes_of 4 y) ∙ omega (arith, length-bytes_of 4 y)) in
    ap₂ (num 4) (sym (append_assoc xs (bytes_of 4 y) (flat_map (bytes_of 4) l))) z ∙ numbers-at (xs ++ bytes_of 4 y) l (at + 4) j n (omega arith) b

row-parts : (x : Row) → record_of x ≡ head_of x.plan x.rank (length x.arcs) x.part ++ flat_map (bytes_of 4) (padded x.arcs)
unfolding record_of
row-parts x = simp append_assoc

pub length-record_of : (x : Row) → length x.arcs ≤ part_arcs → length (record_of x) ≡ record_bytes
length-record_of x h =
    let head = head_of x.plan x.rank (length x.arcs) x.part in
    ap length (row-parts x) ∙ length-append head (flat_map (bytes_of 4) (padded x.arcs))
    ∙ omega (arith, length-head x.plan x.rank (length x.arcs) x.part, length-numbers (padded x.arcs), length-padded x.arcs h)

module _ (f : List ℕ) (i : ℕ) (x : Row) (h : i < records f) (short : length x.arcs ≤ part_arcs) where
  bytes-put : slot record_bytes i (with_record f i (record_of x)) ≡ record_of x
  bytes-put = bytes-here f i (record_of x) h (length-record_of x short)

  num-row : (k o : ℕ) → o + k ≤ record_bytes → num k (with_record f i (record_of x)) (i * record_bytes + o) ≡ num k (record_of x) o
  num-row k o b = num-in (with_record f i (record_of x)) i k o b ∙ ap (λ s. num k s o) bytes-put

  byte-row : (o : ℕ) → o < record_bytes → get_or (with_record f i (record_of x)) (i * record_bytes + o) 0 ≡ get_or (record_of x) o 0
  byte-row o b = byte-in (with_record f i (record_of x)) i o b ∙ ap (λ s. get_or s o 0) bytes-put

  pub plan-put : x.plan < 4294967296 → plan_at (with_record f i (record_of x)) i ≡ x.plan
  unfolding record_of
  plan-put b =
      num-row 4 0 (omega arith)
      ∙ num-bytes 4 [] ((x.rank ∷ length x.arcs ∷ []) ++ (bytes_of 2 x.part ++ flat_map (bytes_of 4) (padded x.arcs))) 0 x.plan refl b

  pub rank-put : rank_at (with_record f i (record_of x)) i ≡ x.rank
  unfolding record_of
  rank-put = byte-row 4 (omega arith)

  pub used-put : used_at (with_record f i (record_of x)) i ≡ length x.arcs
  unfolding record_of
  used-put = byte-row 5 (omega arith)

  pub part-put : x.part < 65536 → part_at (with_record f i (record_of x)) i ≡ x.part
  unfolding record_of
  part-put b = num-row 2 6 (omega arith) ∙ num-bytes 2 (bytes_of 4 x.plan ++ (x.rank ∷ length x.arcs ∷ [])) (flat_map (bytes_of 4) (padded x.arcs)) 6 x.part refl b

  number_put : (j : ℕ) → j < part_arcs → get_or x.arcs j no_number < 4294967296 → arc_at (with_record f i (record_of x)) i j ≡ get_or x.arcs j no_number
  number_put j b s =
      let head = head_of x.plan x.rank (length x.arcs) x.part in
      let e = padded-at x.arcs j short b in
      num-row 4 (8 + 4 * j) (omega arith) ∙ ap (λ l. num 4 l (8 + 4 * j)) (row-parts x)
      ∙ numbers-at head (padded x.arcs) 8 j (sym (length-head x.plan x.rank (length x.arcs) x.part)) (omega (arith, length-padded x.arcs short)) (omega arith) ∙ e

  pub unused-put : (j : ℕ) → length x.arcs ≤ j → j < part_arcs → arc_at (with_record f i (record_of x)) i j ≡ no_number
  unused-put j b c =
      let e = get_or-eq_default x.arcs no_number b in
      number_put j c (omega arith) ∙ e

  pub arc-put : (j : ℕ) → j < length x.arcs → get_or x.arcs j 0 < 4294967296 → arc_at (with_record f i (record_of x)) i j ≡ get_or x.arcs j 0
  arc-put j b s =
      let e = get_or-within x.arcs j 0 no_number b in
      number_put j (omega arith) (omega arith) ∙ sym e

  pub arcs-put : ((j : ℕ) → j < length x.arcs → get_or x.arcs j 0 < 4294967296) → arcs_at (with_record f i (record_of x)) i ≡ x.arcs
  arcs-put s =
      let l = with_record f i (record_of x) in
      let t = tab part_arcs (arc_at l i) in
      let n : length (take (length x.arcs) t) ≡ length x.arcs = length-take-le (length x.arcs) t (omega (arith, length-tab part_arcs (arc_at l i))) in
      ap (λ u. take u t) used-put
      ∙ ext_get_or 0 (take (length x.arcs) t) x.arcs n
      (λ j b. get_or-take (length x.arcs) t j 0 (omega arith) ∙ get_or-tab part_arcs (arc_at l i) j 0 (omega arith) ∙ arc-put j (omega arith) (s j (omega arith)))

  module _ (arcs : (j : ℕ) → j < length x.arcs → get_or x.arcs j 0 < most_arcs) where
    formed_arc-put : (j : ℕ) → j < part_arcs → formed_arc (with_record f i (record_of x)) i j ≡ true
    unfolding formed_arc
    formed_arc-put j b =
        ⊎_elim
        (λ w. rw (used-put, le-ltb j (length x.arcs) w) (eq-eqb _ _ (unused-put j w b)))
        (λ w. rw (used-put, lt-ltb j (length x.arcs) w, arc-put j w (omega (arith, arcs j w))) (lt-ltb _ _ (arcs j w)))
        (order (length x.arcs) j)

    formed_arcs-put : every (formed_arc (with_record f i (record_of x)) i) (up_from 0 part_arcs) ≡ true
    unfolding every up_from
    formed_arcs-put =
        rw (formed_arc-put 0 (omega arith), formed_arc-put 1 (omega arith), formed_arc-put 2 (omega arith), formed_arc-put 3 (omega arith), formed_arc-put 4 (omega arith), formed_arc-put 5 (omega arith))

    pub formed-put : x.plan ≢ 0 → x.plan < 4294967296 → x.rank < most_routes → 1 ≤ length x.arcs → formed (with_record f i (record_of x)) i ≡ true
    unfolding formed
    formed-put ne b r u =
        let l = with_record f i (record_of x) in
        rw (ne_eqb (plan_at l i) 0 (λ z. ne (sym (plan-put b) ∙ z)))
        (formed_use-is l i (omega (arith, rank-put)) (omega (arith, used-put)) (omega (arith, used-put)) ∙ formed_arcs-put)
