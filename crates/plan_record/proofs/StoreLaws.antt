-- What storing leaves. The fields before the arc numbers are four stores, each right behind the one before; the arc numbers are six more, those of the part and then
-- `no_number`; the two rows of bytes one behind the other are the record. A copy puts the bytes of one record over those of another.
use mathlib.Core.Path.{◌≡◌, refl, sym, ap, ◌∙◌}
use mathlib.Core.List.{List, [], ◌∷◌, ◌++◌, flat_map, append_assoc, append-nil}
use mathlib.Core.Logic.{⊎_elim}
use Prim.Native.Nat.{ℕ, zero, suc, ◌+◌, ◌-◌, ◌*◌, ◌≤◌, ◌<◌}
use native.Mathlib.Numerals.{add-one}
use native.Mathlib.Omega.{arith}
use lib.ListN.{length, get_or, set, take, drop, replicate, length-append, length-drop, length-replicate, get_or-replicate, get_or-append, get_or-eq_default}
use lib.Seq.{paste, length-take-le, take-suc, take_all, get_or-append-add}
use Rattle.words.specs.Number.{put, bytes_of}
use Rattle.words.specs.Part.{patch, slot}
use Rattle.words.proofs.BytesLaws.{length-bytes_of}
use Rattle.words.proofs.PartLaws.{length-patch}
use Rattle.lists.proofs.Cases.{order}
use Rattle.labels.specs.Field.{no_number}
use Rattle.plan_record.specs.Record.{Row, record_bytes, records, part_arcs, record_of, with_record}
use Rattle.plan_record.proofs.PatchLaws.{patch-none, put-patch, set-patch, patch-next}

-- ---- the fields before the arc numbers

abbrev pub head_of : ℕ → ℕ → ℕ → ℕ → List ℕ
head_of plan rank used part = bytes_of 4 plan ++ ((rank ∷ used ∷ []) ++ bytes_of 2 part)

pub length-head : (plan rank used part : ℕ) → length (head_of plan rank used part) ≡ 8
unfolding bytes_of
length-head plan rank used part = refl

module _ (f : List ℕ) (a plan rank used part : ℕ) (h : a + 8 ≤ length f) where
  head_first : put 4 f (a + 0) plan ≡ patch a (a + 4) f (bytes_of 4 plan)
  head_first =
      let z : a + 0 ≡ a = omega arith in
      ap (λ x. put 4 f x plan) z ∙ put-patch 4 f a plan (omega arith)

  head-second : set (put 4 f (a + 0) plan) (a + 4) rank ≡ patch a (a + 5) f (bytes_of 4 plan ++ (rank ∷ []))
  head-second =
      let y = bytes_of 4 plan in
      let n : length (patch a (a + 4) f y) ≡ length f = length-patch a (a + 4) f y (omega arith) (omega arith) (omega (arith, length-bytes_of 4 plan)) in
      let z : a + 4 + 1 ≡ a + 5 = omega arith in
      ap (λ l. set l (a + 4) rank) head_first ∙ set-patch (patch a (a + 4) f y) (a + 4) rank (omega arith) ∙ ap (λ x. patch (a + 4) x (patch a (a + 4) f y) (rank ∷ [])) z
      ∙ patch-next a (a + 4) f y (omega arith) (omega arith) (omega (arith, length-bytes_of 4 plan)) (a + 5) (rank ∷ []) (omega arith)

  head-third : set (set (put 4 f (a + 0) plan) (a + 4) rank) (a + 5) used ≡ patch a (a + 6) f (bytes_of 4 plan ++ (rank ∷ []) ++ (used ∷ []))
  head-third =
      let y = bytes_of 4 plan ++ (rank ∷ []) in
      let k : length y ≡ 5 = length-append (bytes_of 4 plan) (rank ∷ []) ∙ omega (arith, length-bytes_of 4 plan) in
      let n : length (patch a (a + 5) f y) ≡ length f = length-patch a (a + 5) f y (omega arith) (omega arith) (omega arith) in
      let z : a + 5 + 1 ≡ a + 6 = omega arith in
      ap (λ l. set l (a + 5) used) head-second ∙ set-patch (patch a (a + 5) f y) (a + 5) used (omega arith) ∙ ap (λ x. patch (a + 5) x (patch a (a + 5) f y) (used ∷ [])) z
      ∙ patch-next a (a + 5) f y (omega arith) (omega arith) (omega arith) (a + 6) (used ∷ []) (omega arith)

  pub head-put : put 2 (set (set (put 4 f (a + 0) plan) (a + 4) rank) (a + 5) used) (a + 6) part ≡ patch a (a + 8) f (head_of plan rank used part)
  unfolding bytes_of
  head-put =
      let y = bytes_of 4 plan ++ (rank ∷ []) ++ (used ∷ []) in
      let k : length y ≡ 6 = refl in
      let n : length (patch a (a + 6) f y) ≡ length f = length-patch a (a + 6) f y (omega arith) (omega arith) (omega arith) in
      let z : a + 6 + 2 ≡ a + 8 = omega arith in
      ap (λ l. put 2 l (a + 6) part) head-third ∙ put-patch 2 (patch a (a + 6) f y) (a + 6) part (omega arith) ∙ ap (λ x. patch (a + 6) x (patch a (a + 6) f y) (bytes_of 2 part)) z
      ∙ patch-next a (a + 6) f y (omega arith) (omega arith) (omega arith) (a + 8) (bytes_of 2 part) (omega arith)

-- ---- the arc numbers

-- within a list what is read past its end does not matter
pub get_or-within : (l : List ℕ) (i d e : ℕ) → i < length l → get_or l i d ≡ get_or l i e
get_or-within [] i d e h = absurd (omega arith)
get_or-within (x ∷ l) zero d e h = refl
get_or-within (x ∷ l) (suc i) d e h = get_or-within l i d e (omega arith)

-- those of a part, and then none
abbrev pub padded : List ℕ → List ℕ
padded arcs = arcs ++ replicate (part_arcs - length arcs) no_number

pub length-padded : (arcs : List ℕ) → length arcs ≤ part_arcs → length (padded arcs) ≡ part_arcs
length-padded arcs h = length-append arcs (replicate (part_arcs - length arcs) no_number) ∙ omega (arith, length-replicate (part_arcs - length arcs) no_number)

-- what stands at a place
pub padded-at : (arcs : List ℕ) (j : ℕ) → length arcs ≤ part_arcs → j < part_arcs → get_or (padded arcs) j 0 ≡ get_or arcs j no_number
padded-at arcs j h b =
    ⊎_elim
    (λ w.
    let e : length arcs + (j - length arcs) ≡ j = omega arith in
    ap (λ x. get_or (padded arcs) x 0) (sym e) ∙ get_or-append-add arcs (replicate (part_arcs - length arcs) no_number) (j - length arcs) 0
    ∙ get_or-replicate (part_arcs - length arcs) (j - length arcs) no_number 0 (omega arith) ∙ sym (get_or-eq_default arcs no_number w))
    (λ w. get_or-append arcs (replicate (part_arcs - length arcs) no_number) 0 j w ∙ get_or-within arcs j 0 no_number w)
    (order (length arcs) j)

pub length-numbers : (l : List ℕ) → length (flat_map (bytes_of 4) l) ≡ 4 * length l
unfolding flat_map
length-numbers [] = refl
length-numbers (x ∷ l) = length-append (bytes_of 4 x) (flat_map (bytes_of 4) l) ∙ omega (arith, length-bytes_of 4 x, length-numbers l)

numbers_more : (l : List ℕ) (x : ℕ) → flat_map (bytes_of 4) (l ++ (x ∷ [])) ≡ flat_map (bytes_of 4) l ++ bytes_of 4 x
unfolding flat_map
numbers_more [] x = append-nil (bytes_of 4 x)
numbers_more (y ∷ l) x = ap (λ m. bytes_of 4 y ++ m) (numbers_more l x) ∙ sym (append_assoc (bytes_of 4 y) (flat_map (bytes_of 4) l) (bytes_of 4 x))

-- the file with the first j of the arc numbers in a record at a
abbrev pub stored_to : List ℕ → ℕ → List ℕ → ℕ → List ℕ
stored_to f a arcs j = patch (a + 8) (a + (8 + 4 * j)) f (flat_map (bytes_of 4) (take j (padded arcs)))

module _ (f : List ℕ) (a : ℕ) (arcs : List ℕ) (h : a + record_bytes ≤ length f) (k : length arcs ≤ part_arcs) where
  length-first : (j : ℕ) → j ≤ part_arcs → length (flat_map (bytes_of 4) (take j (padded arcs))) ≡ 4 * j
  length-first j b = length-numbers (take j (padded arcs)) ∙ ap (λ n. 4 * n) (length-take-le j (padded arcs) (omega (arith, length-padded arcs k)))

  length-stored_to : (j : ℕ) → j ≤ part_arcs → length (stored_to f a arcs j) ≡ length f
  length-stored_to j b = length-patch (a + 8) (a + (8 + 4 * j)) f (flat_map (bytes_of 4) (take j (padded arcs))) (omega arith) (omega arith) (omega (arith, length-first j b))

  pub stored-none : stored_to f a arcs 0 ≡ f
  unfolding flat_map
  stored-none =
      let z : a + (8 + 4 * 0) ≡ a + 8 = omega arith in
      ap (λ x. patch (a + 8) x f []) z ∙ patch-none (a + 8) f

  pub stored_more : (j : ℕ) → j < part_arcs → put 4 (stored_to f a arcs j) (a + (8 + 4 * j)) (get_or arcs j no_number) ≡ stored_to f a arcs (j + 1)
  stored_more j b =
      let e = a + (8 + 4 * j) in
      let x = get_or arcs j no_number in
      let ys = flat_map (bytes_of 4) (take j (padded arcs)) in
      let n : length ys ≡ 4 * j = length-first j (omega arith) in
      let z : e + 4 ≡ a + (8 + 4 * (j + 1)) = omega arith in
      let next : take (j + 1) (padded arcs) ≡ take j (padded arcs) ++ (x ∷ []) =
      ap (λ i. take i (padded arcs)) (add-one j) ∙ take-suc (padded arcs) j 0 (omega (arith, length-padded arcs k)) ∙ ap (λ v. take j (padded arcs) ++ (v ∷ [])) (padded-at arcs j k b) in
      put-patch 4 (stored_to f a arcs j) e x (omega (arith, length-stored_to j (omega arith))) ∙ ap (λ y. patch e y (stored_to f a arcs j) (bytes_of 4 x)) z
      ∙ patch-next (a + 8) e f ys (omega arith) (omega arith) (omega arith) (a + (8 + 4 * (j + 1))) (bytes_of 4 x) (omega arith)
      ∙ ap (patch (a + 8) (a + (8 + 4 * (j + 1))) f) (sym (ap (flat_map (bytes_of 4)) next ∙ numbers_more (take j (padded arcs)) x))

  pub stored-all : (j : ℕ) → j ≡ part_arcs → stored_to f a arcs j ≡ patch (a + 8) (a + record_bytes) f (flat_map (bytes_of 4) (padded arcs))
  stored-all j e =
      let z : a + (8 + 4 * 6) ≡ a + record_bytes = omega arith in
      ap (stored_to f a arcs) e ∙ ap (λ y. patch (a + 8) y f (flat_map (bytes_of 4) (take 6 (padded arcs)))) z
      ∙ ap (λ l. patch (a + 8) (a + record_bytes) f (flat_map (bytes_of 4) l)) (take_all 6 (padded arcs) (omega (arith, length-padded arcs k)))

-- ---- a whole record

pub room : (f : List ℕ) (i : ℕ) → i < records f → i * record_bytes + record_bytes ≤ length f
room f i h = omega arith

pub head-and-arcs : (f : List ℕ) (i : ℕ) (x : Row) → i < records f
    → patch (i * record_bytes + 8) (i * record_bytes + record_bytes)
    (patch (i * record_bytes) (i * record_bytes + 8) f (head_of x.plan x.rank (length x.arcs) x.part)) (flat_map (bytes_of 4) (padded x.arcs))
    ≡ with_record f i (record_of x)
unfolding with_record record_of
head-and-arcs f i x h =
    let a = i * record_bytes in
    let r = room f i h in
    let ys = head_of x.plan x.rank (length x.arcs) x.part in
    let n = length-head x.plan x.rank (length x.arcs) x.part in
    let zs = flat_map (bytes_of 4) (padded x.arcs) in
    let whole : ys ++ zs ≡ record_of x = simp append_assoc in
    patch-next a (a + 8) f ys (omega arith) (omega arith) (omega arith) (a + record_bytes) zs (omega arith) ∙ ap (patch a (a + record_bytes) f) whole

-- ---- a record copied to another

module _ (f : List ℕ) (i j : ℕ) (h : i < records f) (g : j < records f) where
  pub length-slot : length (slot record_bytes j f) ≡ record_bytes
  unfolding slot
  length-slot = length-take-le record_bytes (drop (j * record_bytes) f) (omega (arith, room f j g, length-drop (j * record_bytes) f))

-- the bytes of record j over those of record i
pub copied : (f : List ℕ) (i j : ℕ) → paste f (i * record_bytes) (drop (j * record_bytes) f) (j * record_bytes + record_bytes - j * record_bytes) ≡ with_record f i (slot record_bytes j f)
unfolding with_record patch slot
copied f i j =
    let from = drop (j * record_bytes) f in
    let n : j * record_bytes + record_bytes - j * record_bytes ≡ record_bytes = omega arith in
    ap (paste f (i * record_bytes) from) n ∙ append_assoc (take (i * record_bytes) f) (take record_bytes from) (drop (i * record_bytes + record_bytes) f)
