-- The bytes from record i on are its arc's three numbers (`number-first`), four bytes, and the rest; where a zero is stored over those four, the record is its
-- arc's `record_of`, and one record more is cleared.
use mathlib.Core.Path.{◌≡◌, refl, sym, ap, ◌∙◌}
use mathlib.Core.List.{List, [], ◌∷◌, ◌++◌, append_assoc, append-nil}
use Prim.Native.Nat.{ℕ, ◌+◌, ◌*◌, ◌≤◌, ◌<◌}
use native.Mathlib.Omega.{arith}
use lib.ListN.{length, get_or, take, drop, take-append-drop, length-append, length-drop}
use lib.Seq.{length-take-le, drop-drop}
use Rattle.lists.specs.Index.{tab}
use Rattle.lists.proofs.IndexLaws.{length-tab, tab-more}
use Rattle.words.specs.Number.{num, put, bytes_of}
use Rattle.words.proofs.BytesLaws.{length-bytes_of, put-bytes, number-first}
use Rattle.net.specs.Net.{Arc}
use Rattle.table.specs.Table.{arc_at, record_of, table_of}
use Rattle.table.proofs.TableLaws.{length-table_of}
use Rattle.road_fill.specs.Filled.{cleared}

-- the bytes from record i on
record-first : (i : ℕ) (t : List ℕ) → ((k : ℕ) → get_or t k 0 < 256) → i * 16 + 16 ≤ length t
    → drop (i * 16) t
    ≡ bytes_of 4 (arc_at t i).from ++ (bytes_of 4 (arc_at t i).to ++ (bytes_of 4 (arc_at t i).len ++ (take 4 (drop (i * 16 + 12) t) ++ drop ((i + 1) * 16) t)))
record-first i t bytes h =
    let o = i * 16 in
    let here : o ≡ o + 0 = omega arith in
    let next : o + 12 + 4 ≡ (i + 1) * 16 = omega arith in
    let e : drop (o + 0) t ≡ bytes_of 4 (num 4 t (o + 0)) ++ drop (o + 4) t = number-first t bytes (o + 0) (o + 4) (omega arith) (omega arith) in
    let f : drop (o + 4) t ≡ bytes_of 4 (num 4 t (o + 4)) ++ drop (o + 8) t = number-first t bytes (o + 4) (o + 8) (omega arith) (omega arith) in
    let g : drop (o + 8) t ≡ bytes_of 4 (num 4 t (o + 8)) ++ drop (o + 12) t = number-first t bytes (o + 8) (o + 12) (omega arith) (omega arith) in
    let k : drop (o + 12) t ≡ take 4 (drop (o + 12) t) ++ drop ((i + 1) * 16) t =
    sym (take-append-drop 4 (drop (o + 12) t)) ∙ ap (λ l. take 4 (drop (o + 12) t) ++ l) (drop-drop 4 (o + 12) t ∙ ap (λ m. drop m t) next) in
    let x = bytes_of 4 (num 4 t (o + 0)) in
    let y = bytes_of 4 (num 4 t (o + 4)) in
    let z = bytes_of 4 (num 4 t (o + 8)) in
    ap (λ m. drop m t) here ∙ e ∙ ap (λ l. x ++ l) (f ∙ ap (λ l. y ++ l) (g ∙ ap (λ l. z ++ l) k))

-- ---- the table

table_more : (xs : List Arc) (x : Arc) → table_of (xs ++ (x ∷ [])) ≡ table_of xs ++ record_of x
unfolding table_of
table_more [] x = append-nil (record_of x)
table_more (y ∷ xs) x = ap (λ l. record_of y ++ l) (table_more xs x) ∙ sym (append_assoc (record_of y) (table_of xs) (record_of x))

length-table : (n : ℕ) (t : List ℕ) → length (table_of (tab n (arc_at t))) ≡ n * 16
length-table n t = length-table_of (tab n (arc_at t)) ∙ ap (λ m. m * 16) (length-tab n (arc_at t))

-- ---- the records cleared

pub cleared-none : (t : List ℕ) → cleared 0 t ≡ t
unfolding cleared
cleared-none t = refl

pub length-cleared : (n : ℕ) (t : List ℕ) → n * 16 ≤ length t → length (cleared n t) ≡ length t
unfolding cleared
length-cleared n t h = simp length-append (omega (arith, length-table n t, length-drop (n * 16) t))

-- a zero over the last four of 16 bytes
put_last : (p u v w z r : List ℕ) (at : ℕ) → length p + length u + length v + length w ≡ at → length z ≡ 4
    → put 4 (p ++ (u ++ (v ++ (w ++ (z ++ r))))) at 0 ≡ p ++ (u ++ (v ++ (w ++ bytes_of 4 0))) ++ r
put_last p u v w z r at h k =
    let q = p ++ (u ++ (v ++ w)) in
    let e : p ++ (u ++ (v ++ (w ++ (z ++ r)))) ≡ q ++ (z ++ r) = simp append_assoc in
    let f : at ≡ length q = simp length-append (omega arith) in
    let g : q ++ (bytes_of 4 0 ++ r) ≡ p ++ (u ++ (v ++ (w ++ bytes_of 4 0))) ++ r = simp append_assoc in
    ap (λ l. put 4 l at 0) e ∙ put-bytes 4 q z r at 0 f k ∙ g

record-zero : (x : Arc) → bytes_of 4 x.from ++ (bytes_of 4 x.to ++ (bytes_of 4 x.len ++ bytes_of 4 0)) ≡ record_of x
unfolding record_of
record-zero x = refl

cleared-is : (n : ℕ) (t : List ℕ) → cleared n t ≡ table_of (tab n (arc_at t)) ++ drop (n * 16) t
unfolding cleared
cleared-is n t = refl

pub cleared-step : (i : ℕ) (t : List ℕ) → ((k : ℕ) → get_or t k 0 < 256) → i * 16 + 16 ≤ length t → put 4 (cleared i t) (i * 16 + 12) 0 ≡ cleared (i + 1) t
cleared-step i t bytes h =
    let x = arc_at t i in
    let p = table_of (tab i (arc_at t)) in
    let z = take 4 (drop (i * 16 + 12) t) in
    let r = drop ((i + 1) * 16) t in
    let at : length p + length (bytes_of 4 x.from) + length (bytes_of 4 x.to) + length (bytes_of 4 x.len) ≡ i * 16 + 12 =
    omega (arith, length-table i t, length-bytes_of 4 x.from, length-bytes_of 4 x.to, length-bytes_of 4 x.len) in
    let four : length z ≡ 4 = length-take-le 4 (drop (i * 16 + 12) t) (omega (arith, length-drop (i * 16 + 12) t)) in
    let whole : table_of (tab (i + 1) (arc_at t)) ≡ p ++ record_of x = ap table_of (tab-more i (arc_at t)) ∙ table_more (tab i (arc_at t)) x in
    ap (λ l. put 4 l (i * 16 + 12) 0) (cleared-is i t ∙ ap (λ l. p ++ l) (record-first i t bytes h))
    ∙ put_last p (bytes_of 4 x.from) (bytes_of 4 x.to) (bytes_of 4 x.len) z r (i * 16 + 12) at four
    ∙ ap (λ l. p ++ l ++ r) (record-zero x)
    ∙ ap (λ l. l ++ r) (sym whole)
    ∙ sym (cleared-is (i + 1) t)
