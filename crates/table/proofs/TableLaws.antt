-- The table of arcs, as it is put into zeros. Over a front of i records and then zeros, `put_arc` makes the next 16 bytes the record of its arc: its last
-- four are zeros that stood there. So arc by arc the front grows by a record, and in the end the bytes are the front, the table and the zeros that are left.
use mathlib.Core.Path.{◌≡◌, refl, sym, ap, ◌∙◌}
use mathlib.Core.List.{List, [], ◌∷◌, ◌++◌, append_assoc}
use Prim.Native.Nat.{ℕ, zero, suc, ◌+◌, ◌-◌, ◌*◌, ◌≤◌, ◌<◌}
use native.Mathlib.Nat.{zero-add}
use native.Mathlib.Omega.{arith}
use lib.ListN.{length, take, replicate, length-append, replicate-append-replicate}
use lib.Seq.{take_at, drop_at}
use Rattle.words.specs.Number.{num, put, bytes_of}
use Rattle.words.proofs.BytesLaws.{length-bytes_of, num-bytes, put-bytes}
use Rattle.words.proofs.RecordLaws.{num-drop}
use Rattle.net.specs.Net.{Arc}
use Rattle.table.specs.Table.{record_bytes, road_at, NoRoads, record_of, table_of, put_arc, put_arcs}

pub length-record_of : (x : Arc) → length (record_of x) ≡ record_bytes
unfolding record_of
length-record_of x = refl

pub length-table_of : (xs : List Arc) → length (table_of xs) ≡ length xs * record_bytes
unfolding table_of
length-table_of [] = refl
length-table_of (x ∷ xs) = simp length-append (omega (arith, length-record_of x, length-table_of xs))

-- a record further on is one of the rest
pub num-further : (x : Arc) (l : List ℕ) (i o : ℕ) → num 4 (record_of x ++ l) (suc i * record_bytes + o) ≡ num 4 l (i * record_bytes + o)
num-further x l i o =
    let e : suc i * record_bytes + o ≡ 16 + (i * record_bytes + o) = omega arith in
    rw e (sym (num-drop 4 16 (record_of x ++ l) (i * record_bytes + o)) ∙ ap (λ m. num 4 m (i * record_bytes + o)) (drop_at (record_of x) l 16 (length-record_of x)))

-- no arc of a table made of arcs has a road number
no-road : (xs : List Arc) (i : ℕ) → i < length xs → road_at (table_of xs) i ≡ 0
unfolding table_of record_of bytes_of
no-road [] i h = absurd (omega arith)
no-road (x ∷ xs) zero h = num-bytes 4 (bytes_of 4 x.from ++ (bytes_of 4 x.to ++ bytes_of 4 x.len)) (table_of xs) 12 0 refl (omega arith)
no-road (x ∷ xs) (suc i) h = num-further x (table_of xs) i 12 ∙ no-road xs i (omega arith)

pub made-no-roads : (xs : List Arc) → NoRoads (table_of xs)
made-no-roads xs i h = no-road xs i (omega (arith, length-table_of xs))

-- three stores over four times four bytes z
put_three : (p z r : List ℕ) (at u v w : ℕ) → length p ≡ at → length z ≡ 4
    → put 4 (put 4 (put 4 (p ++ (z ++ (z ++ (z ++ (z ++ r))))) (at + 0) u) (at + 4) v) (at + 8) w
    ≡ p ++ (bytes_of 4 u ++ (bytes_of 4 v ++ (bytes_of 4 w ++ z)) ++ r)
put_three p z r at u v w h k =
    let q = p ++ bytes_of 4 u in
    let s = q ++ bytes_of 4 v in
    let i : at + 4 ≡ length q = simp length-append (omega (arith, length-bytes_of 4 u)) in
    let j : at + 8 ≡ length s = simp length-append (omega (arith, length-bytes_of 4 u, length-bytes_of 4 v)) in
    rw (put-bytes 4 p z (z ++ (z ++ (z ++ r))) (at + 0) u (omega arith) k, ← append_assoc p (bytes_of 4 u) (z ++ (z ++ (z ++ r))))
    (rw (put-bytes 4 q z (z ++ (z ++ r)) (at + 4) v i k, ← append_assoc q (bytes_of 4 v) (z ++ (z ++ r)))
    (rw (put-bytes 4 s z (z ++ r) (at + 8) w j k) (simp append_assoc)))

put_record : (x : Arc) (p : List ℕ) (i n : ℕ) → length p ≡ i * record_bytes → put_arc (p ++ replicate (record_bytes + n) 0) i x ≡ p ++ (record_of x ++ replicate n 0)
unfolding put_arc record_of
put_record x p i n h =
    rw (← replicate-append-replicate {A = ℕ} record_bytes n 0)
    (put_three p (bytes_of 4 0) (replicate n 0) (i * record_bytes) x.from x.to x.len h refl)

put-records : (xs : List Arc) (p : List ℕ) (i n : ℕ) → length p ≡ i * record_bytes
    → put_arcs (p ++ replicate (length xs * record_bytes + n) 0) i xs ≡ p ++ (table_of xs ++ replicate n 0)
unfolding put_arcs table_of
put-records [] p i n h = rw zero-add
put-records (x ∷ xs) p i n h =
    let e : length (x ∷ xs) * record_bytes + n ≡ record_bytes + (length xs * record_bytes + n) = omega arith in
    let k : length (p ++ record_of x) ≡ (i + 1) * record_bytes = simp length-append (omega (arith, length-record_of x)) in
    rw (e, put_record x p i (length xs * record_bytes + n) h, ← append_assoc p (record_of x) (replicate (length xs * record_bytes + n) 0))
    (put-records xs (p ++ record_of x) (i + 1) n k ∙ simp append_assoc)

pub table-put : (xs : List Arc) (m : ℕ) → length xs * record_bytes ≤ m → take (length xs * record_bytes) (put_arcs (replicate m 0) 0 xs) ≡ table_of xs
table-put xs m h =
    let n = length xs * record_bytes in
    let e : n + (m - n) ≡ m = omega arith in
    rw (← e, put-records xs [] 0 (m - n) refl) (take_at (table_of xs) (replicate (m - n) 0) n (length-table_of xs))
