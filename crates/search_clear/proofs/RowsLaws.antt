-- A row stored into two lists that differ in working bytes only: they still do. A store sets the same bytes to the same values in both, since the far ancestor
-- and the depth that it derives are read outside the working bytes.
use mathlib.Core.Path.{◌≡◌, refl, sym, ap, ◌∙◌}
use mathlib.Core.Logic.{◌⊎◌, inl, inr, ⊎_elim}
use mathlib.Core.Bool.{Bool, true, false, ◌||◌}
use mathlib.Core.List.{List, [], ◌∷◌}
use Prim.Native.Nat.{ℕ, zero, suc, ◌+◌, ◌*◌, ◌/◌, ◌%◌, ◌^◌, ◌≤◌, ◌<◌}
use native.Mathlib.Nat.{add_assoc, add-zero}
use native.Mathlib.Omega.{arith}
use native.Mathlib.Decide.{ℕ_discrete}
use lib.Dec.{leb}
use lib.ListN.{length, get_or, set, drop, length-set, get_or-eq_default}
use lib.Seq.{get_or-set_same, get_or-set_other, drop-drop}
use borrow.Author.Tests.{le-leb, leb-true}
use Rattle.lists.proofs.Cases.{order}
use Rattle.words.specs.Number.{num, put}
use Rattle.words.proofs.NumberLaws.{num-cong}
use Rattle.words.proofs.RecordLaws.{apart}
use Rattle.labels.specs.Field.{label_bytes, head_bytes, most_earlier, far_of, depth_of, puts, Row, put_row, put_head}
use Rattle.labels.proofs.StoreLaws.{length-put_row, drop-put_row}
use Rattle.search_queue.specs.Only.{Only}
use Rattle.search_queue.proofs.OnlyLaws.{far-of-only, depth-only}

-- ---- stores respect equal bytes

set_same : (l m : List ℕ) (at v i : ℕ) → length m ≡ length l → get_or m i 0 ≡ get_or l i 0 → get_or (set m at v) i 0 ≡ get_or (set l at v) i 0
set_same l m at v i e h = go (ℕ_discrete i at)
  where
    go : Dec (i ≡ at) → get_or (set m at v) i 0 ≡ get_or (set l at v) i 0
    go (no ne) = get_or-set_other m at i v 0 ne ∙ h ∙ sym (get_or-set_other l at i v 0 ne)
    go (yes z) = ⊎_elim outside inside (order (length l) i)
      where
        outside : length l ≤ i → get_or (set m at v) i 0 ≡ get_or (set l at v) i 0
        outside k =
            let a : length (set m at v) ≤ i = omega (arith, length-set m at v, e) in
            let b : length (set l at v) ≤ i = omega (arith, length-set l at v) in
            get_or-eq_default (set m at v) 0 {n = i} a ∙ sym (get_or-eq_default (set l at v) 0 {n = i} b)

        inside : i < length l → get_or (set m at v) i 0 ≡ get_or (set l at v) i 0
        inside k = rw z (get_or-set_same m at v 0 (omega (arith, e, z)) ∙ sym (get_or-set_same l at v 0 (omega (arith, z))))

-- lists of one length that agree at place i
record Agree (i : ℕ) (l m : List ℕ) : Type 0 where
  pub long : length m ≡ length l
  pub here : get_or m i 0 ≡ get_or l i 0

put-agree : (k : ℕ) {i : ℕ} {l m : List ℕ} (at v : ℕ) → Agree i l m → Agree i (put k l at v) (put k m at v)
unfolding put
put-agree zero at v h = h
put-agree (suc k) {i} {l} {m} at v h =
    let w = put-agree k at v h in
    let x = v / 2 ^ (8 * k) % 256 in
    record {
      long = length-set (put k m at v) (at + k) x ∙ w.long ∙ sym (length-set (put k l at v) (at + k) x);
      here = set_same (put k l at v) (put k m at v) (at + k) x i w.long w.here;
    }

puts-agree : (xs : List ℕ) {i : ℕ} {l m : List ℕ} (at : ℕ) → Agree i l m → Agree i (puts l at xs) (puts m at xs)
unfolding puts
puts-agree [] at h = h
puts-agree (x ∷ xs) at h = puts-agree xs (at + 8) (put-agree 8 at x h)

byte_of : (l : List ℕ) (at : ℕ) → num 1 l at ≡ get_or l at 0
unfolding num
byte_of l at = rw (add-zero at) (omega arith)

or_cases : (a b : Bool) → (a || b) ≡ true → (a ≡ true) ⊎ (b ≡ true)
or_cases true b h = inl refl
or_cases false b h = inr h

or_left : (a b : Bool) → a ≡ true → (a || b) ≡ true
or_left a b h = rw h

or_right : (a b : Bool) → b ≡ true → (a || b) ≡ true
or_right true b h = refl
or_right false b h = h

module _ {n : ℕ} {l m : List ℕ} (f : Only 20 20 n l m) (x : Row) where
  depth-of-only : (i e : ℕ) → depth_of m i e ≡ depth_of l i e
  unfolding depth_of
  depth-of-only zero e = refl
  depth-of-only (suc i) e = ap (λ d. d + 1) (depth-only f e)

  row-agree : {i : ℕ} → Agree i l m → Agree i (put_row l n x) (put_row m n x)
  unfolding put_row put_head
  row-agree {i} h =
      let at = n * label_bytes in
      let far = far_of l n x.extends in
      let depth = depth_of l n x.extends in
      rw (far-of-only f n x.extends, depth-of-only n x.extends)
      (puts-agree x.overlaps (at + head_bytes)
      (put-agree 2 (at + 18) depth (put-agree 2 (at + 16) x.end (put-agree 8 (at + 8) x.len (put-agree 2 (at + 6) far (put-agree 2 (at + 4) x.extends (put-agree 4 (at + 0) x.last-arc h)))))))

  pub only_row : length x.overlaps ≤ most_earlier → Only 20 20 (n + 1) (put_row l n x) (put_row m n x)
  only_row few =
      record {
        long = length-put_row m n x ∙ f.long ∙ sym (length-put_row l n x);
        field = λ j i p a b. num-cong j (put_row m n x) (put_row l n x) (i * label_bytes + p) (i * label_bytes + p)
            (λ d h. (row-agree (record { long = f.long; here = byte i j p d a b h })).here);
        past = drop-put_row m n x few ((n + 1) * label_bytes) (omega arith) ∙ later ∙ sym (drop-put_row l n x few ((n + 1) * label_bytes) (omega arith));
      }
    where
      byte : (i j p d : ℕ) → apart 20 20 p j ≡ true → leb (p + j) label_bytes ≡ true → d < j → get_or m (i * label_bytes + p + d) 0 ≡ get_or l (i * label_bytes + p + d) 0
      byte i j p d a b h =
          rw (add_assoc (i * label_bytes) p d)
          (sym (byte_of m (i * label_bytes + (p + d)))
          ∙ f.field 1 i (p + d)
          (⊎_elim (λ z. or_left (leb (p + d + 1) 20) (leb 40 (p + d)) (le-leb (p + d + 1) 20 (omega (arith, leb-true (p + j) 20 z))))
          (λ z. or_right (leb (p + d + 1) 20) (leb 40 (p + d)) (le-leb 40 (p + d) (omega (arith, leb-true 40 p z))))
          (or_cases (leb (p + j) 20) (leb 40 p) a)) (le-leb (p + d + 1) label_bytes (omega (arith, leb-true (p + j) label_bytes b)))
          ∙ byte_of l (i * label_bytes + (p + d)))

      later : drop ((n + 1) * label_bytes) m ≡ drop ((n + 1) * label_bytes) l
      later =
          let e : (n + 1) * label_bytes ≡ n * label_bytes + label_bytes = omega arith in
          rw e (sym (drop-drop label_bytes (n * label_bytes) m) ∙ ap (drop label_bytes) f.past ∙ drop-drop label_bytes (n * label_bytes) l)
