-- The bytes of the second table. It is made of whole records of 16 bytes, so its record j is record `number_at j` of the first, field by field; and four fields
-- of bytes below 256 are the 16 bytes, so records that agree field by field, as many as there are, make it.
use mathlib.Core.Path.{◌≡◌, refl, sym, ap, ap₂, subst, ◌∙◌}
use mathlib.Core.List.{List, [], ◌∷◌, ◌++◌, flat_map, append_assoc, Memᴰ}
use mathlib.Core.Bool.{Bool, true, false, not}
use Prim.Native.Nat.{ℕ, zero, suc, ◌+◌, ◌*◌, ◌≤◌, ◌<◌}
use native.Mathlib.Omega.{arith}
use lib.Dec.{T}
use lib.ListN.{length, take, drop, get_or, length-append, length-take, length-drop}
use lib.Seq.{take_at, drop_at, drop-length}
use borrow.Author.Tests.{not-false}
use Rattle.net.specs.Labels.{same}
use Rattle.net.proofs.Labels.{same-e, same-i}
use Rattle.words.specs.Number.{num, bytes_of}
use Rattle.words.specs.Part.{slot}
use Rattle.words.proofs.BytesLaws.{number-first}
use Rattle.words.proofs.RecordLaws.{num-take, num-drop, num-append-left}
use Rattle.table.specs.Table.{record_bytes, records, from_at, to_at, len_at, road_at}
use Rattle.table.specs.Fault.{table_fault, good}
use Rattle.table.proofs.FaultLaws.{good-size}
use Rattle.second.specs.Second.{by_end, second_of, wrong_second, number_at}
use Rattle.second.proofs.ByEndLaws.{at_mem, by_end-e, by_end-count}

-- ---- 20 as an equation

right-e : (nodes : ℕ) (t second : List ℕ) → wrong_second nodes t second ≡ false → second ≡ second_of nodes t
unfolding wrong_second
right-e nodes t second h = same-e second (second_of nodes t) (subst T (sym (not-false (same second (second_of nodes t)) h)) tt)

right-i : (nodes : ℕ) (t second : List ℕ) → second ≡ second_of nodes t → wrong_second nodes t second ≡ false
unfolding wrong_second
right-i nodes t second e = go (same second (second_of nodes t)) (subst (λ l. T (same second l)) e (same-i second))
  where
    go : (b : Bool) → T b → not b ≡ false
    go true h = refl
    go false h = absurd h

-- ---- records in a row

module _ (t : List ℕ) where
  abbrev records_of : List ℕ → List ℕ
  records_of ns = flat_map (λ a. slot record_bytes a t) ns

  length-slot : (a : ℕ) → a < records t → length (slot record_bytes a t) ≡ record_bytes
  unfolding slot
  length-slot a h = simp (length-take, length-drop) (omega arith)

  slot-field : (a o : ℕ) → o + 4 ≤ record_bytes → num 4 (slot record_bytes a t) o ≡ num 4 t (a * record_bytes + o)
  unfolding slot
  slot-field a o h = num-take 4 record_bytes (drop (a * record_bytes) t) o h ∙ num-drop 4 (a * record_bytes) t o

  length-records_of : (ns : List ℕ) → ((a : ℕ) → Memᴰ a ns → a < records t) → length (records_of ns) ≡ length ns * record_bytes
  unfolding flat_map
  length-records_of [] f = refl
  length-records_of (a ∷ ns) f = simp length-append (omega (arith, length-slot a (f a (Memᴰ.head refl)), length-records_of ns (λ b m. f b (Memᴰ.tail m))))

  records_of-field : (ns : List ℕ) → ((a : ℕ) → Memᴰ a ns → a < records t) → (j o : ℕ) → j < length ns → o + 4 ≤ record_bytes
      → num 4 (records_of ns) (j * record_bytes + o) ≡ num 4 t (get_or ns j 0 * record_bytes + o)
  unfolding flat_map
  records_of-field [] f j o h w = absurd (omega arith)
  records_of-field (a ∷ ns) f zero o h w =
      let e : 0 * record_bytes + o ≡ o = omega arith in
      rw e (num-append-left 4 (slot record_bytes a t) (records_of ns) o (omega (arith, length-slot a (f a (Memᴰ.head refl)))) ∙ slot-field a o w)
  records_of-field (a ∷ ns) f (suc j) o h w =
      let e : suc j * record_bytes + o ≡ record_bytes + (j * record_bytes + o) = omega arith in
      let k = drop_at (slot record_bytes a t) (records_of ns) record_bytes (length-slot a (f a (Memᴰ.head refl))) in
      rw e
      (sym (num-drop 4 record_bytes (slot record_bytes a t ++ records_of ns) (j * record_bytes + o)) ∙ ap (λ l. num 4 l (j * record_bytes + o)) k
      ∙ records_of-field ns (λ b m. f b (Memᴰ.tail m)) j o (omega arith) w)

-- ---- four fields are sixteen bytes

abbrev pub Bytes : List ℕ → Type 0
Bytes l = (k : ℕ) → get_or l k 0 < 256

-- record a of t is record j of s, field by field
pub record SameRecord (t : List ℕ) (a : ℕ) (s : List ℕ) (j : ℕ) : Type 0 where
  pub from : from_at s j ≡ from_at t a
  pub to : to_at s j ≡ to_at t a
  pub len : len_at s j ≡ len_at t a
  pub road : road_at s j ≡ road_at t a

abbrev packed : ℕ → ℕ → ℕ → ℕ → List ℕ
packed f g h k = bytes_of 4 f ++ (bytes_of 4 g ++ (bytes_of 4 h ++ bytes_of 4 k))

length-packed : (f g h k : ℕ) → length (packed f g h k) ≡ record_bytes
unfolding bytes_of
length-packed f g h k = refl

module _ (l : List ℕ) (bytes : Bytes l) (a : ℕ) (h : a < records l) where
  abbrev fields : List ℕ
  fields = packed (from_at l a) (to_at l a) (len_at l a) (road_at l a)

  drop-record : drop (a * record_bytes) l ≡ fields ++ drop (a * record_bytes + record_bytes) l
  drop-record =
      let b = a * record_bytes in
      let e : b + 0 ≡ b = omega arith in
      let one = number-first l bytes (b + 0) (b + 4) (omega arith) (omega arith) in
      let two = number-first l bytes (b + 4) (b + 8) (omega arith) (omega arith) in
      let three = number-first l bytes (b + 8) (b + 12) (omega arith) (omega arith) in
      let four = number-first l bytes (b + 12) (b + 16) (omega arith) (omega arith) in
      ap (λ x. drop x l) (sym e) ∙ one ∙ rw (two, three, four) (simp append_assoc)

  slot-fields : slot record_bytes a l ≡ fields
  unfolding slot
  slot-fields = ap (take record_bytes) drop-record ∙ take_at fields (drop (a * record_bytes + record_bytes) l) record_bytes (length-packed (from_at l a) (to_at l a) (len_at l a) (road_at l a))

-- the records from k on
rest-is : (t second : List ℕ) → Bytes t → Bytes second → (ns : List ℕ) (k : ℕ) → length second ≡ (k + length ns) * record_bytes
    → ((i : ℕ) → i < length ns → (get_or ns i 0 < records t) × SameRecord t (get_or ns i 0) second (k + i)) → drop (k * record_bytes) second ≡ records_of t ns
unfolding flat_map
rest-is t second b c [] k e f =
    let h : k * record_bytes ≡ length second = omega arith in
    rw h (drop-length second)
rest-is t second b c (a ∷ ns) k e f =
    let z : k + 0 ≡ k = omega arith in
    let first = f 0 (omega arith) in
    let r : SameRecord t a second k = subst (SameRecord t a second) z first.1 in
    let n : k * record_bytes + record_bytes ≡ suc k * record_bytes = omega arith in
    let again = rest-is t second b c ns (suc k) (omega arith) (λ i h. let w = f (suc i) (omega arith) in let y : k + suc i ≡ suc k + i = omega arith in (w.0, subst (SameRecord t (get_or ns i 0) second) y w.1)) in
    let g : packed (from_at second k) (to_at second k) (len_at second k) (road_at second k) ≡ slot record_bytes a t = cc (slot-fields t b a first.0) in
    drop-record second c k (omega arith) ∙ ap₂ ◌++◌ g (ap (λ x. drop x second) n ∙ again)

-- ---- the second table

module _ (nodes : ℕ) (t : List ℕ) (ok : table_fault nodes t ≡ good) where
  length-second_of : length (second_of nodes t) ≡ length t
  unfolding second_of
  length-second_of = omega (arith, length-records_of t (by_end nodes t) (by_end-e nodes t ok), by_end-count nodes t ok, (good-size nodes t ok).2)

  module _ (second : List ℕ) where
    pub right-length : wrong_second nodes t second ≡ false → length second ≡ length t
    right-length right = ap length (right-e nodes t second right) ∙ length-second_of

    second-field : wrong_second nodes t second ≡ false → (j o : ℕ) → j < records t → o + 4 ≤ record_bytes
        → num 4 second (j * record_bytes + o) ≡ num 4 t (number_at nodes t j * record_bytes + o)
    unfolding second_of
    second-field right j o h w =
        ap (λ l. num 4 l (j * record_bytes + o)) (right-e nodes t second right) ∙ records_of-field t (by_end nodes t) (by_end-e nodes t ok) j o (omega (arith, by_end-count nodes t ok)) w

    pub second-record : wrong_second nodes t second ≡ false → (j : ℕ) → j < records t → SameRecord t (number_at nodes t j) second j
    second-record right j h =
        record {
          from = second-field right j 0 h (omega arith);
          to = second-field right j 4 h (omega arith);
          len = second-field right j 8 h (omega arith);
          road = second-field right j 12 h (omega arith);
        }

    -- records that agree with those of `by_end` make it
    pub second-right : Bytes t → Bytes second → length second ≡ length t → ((j : ℕ) → j < length (by_end nodes t) → SameRecord t (number_at nodes t j) second j) → wrong_second nodes t second ≡ false
    unfolding second_of
    second-right b c e f =
        let count = by_end-count nodes t ok in
        right-i nodes t second
        (rest-is t second b c (by_end nodes t) 0 (omega (arith, (good-size nodes t ok).2))
        (λ i h.
        let z : i ≡ 0 + i = omega arith in
        (by_end-e nodes t ok (number_at nodes t i) (at_mem (by_end nodes t) i h), subst (SameRecord t (number_at nodes t i) second) z (f i h))))
