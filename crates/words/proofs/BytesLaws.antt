-- The bytes of a number, and a store as a whole. `bytes_of k v` has k bytes, and a store of v lays them where k bytes stood:
-- by induction on k, each byte more of the store takes the place of the first element that is still as it was. Each of them is
-- below 256; and four bytes that are below 256 are the bytes of the number that they hold.
use mathlib.Core.Path.{◌≡◌, refl, sym, ap, ◌∙◌}
use mathlib.Core.List.{List, [], ◌∷◌, ◌++◌, append_assoc}
use Prim.Native.Nat.{ℕ, zero, suc, ◌+◌, ◌*◌, ◌/◌, ◌%◌, ◌^◌, ◌≤◌, ◌<◌}
use native.Mathlib.Nat.{add-zero, add-suc}
use native.Mathlib.Omega.{arith}
use lib.ListN.{length, take, drop, get_or, take-append-drop, length-append}
use lib.Seq.{length-take-le, drop-cons, set_at, take_at, drop_at}
use Rattle.words.specs.Number.{num, put, bytes_of}
use Rattle.words.proofs.NumberLaws.{num-put-same}

pub length-bytes_of : (k v : ℕ) → length (bytes_of k v) ≡ k
unfolding bytes_of
length-bytes_of zero v = refl
length-bytes_of (suc k) v = simp length-append (omega (arith, length-bytes_of k v))

-- a store at any place, by what stands before and after it
pub put_is : (k : ℕ) (l : List ℕ) (at v : ℕ) → at + k ≤ length l → put k l at v ≡ take at l ++ (bytes_of k v ++ drop (at + k) l)
unfolding put bytes_of
put_is zero l at v h = rw (add-zero at) (sym (take-append-drop at l))
put_is (suc k) l at v h =
    let p = take at l ++ bytes_of k v in
    let rest = drop (suc (at + k)) l in
    let end : length p ≡ at + k = simp length-append (omega (arith, length-take-le at l (omega arith), length-bytes_of k v)) in
    rw (put_is k l at v (omega arith), drop-cons l (at + k) 0 (omega arith), ← append_assoc (take at l) (bytes_of k v) (get_or l (at + k) 0 ∷ rest))
    (rw (set_at p (get_or l (at + k) 0) rest (v / 2 ^ (8 * k) % 256) (at + k) end, add-suc at k) (simp append_assoc))

pub put-bytes : (k : ℕ) (xs zs ys : List ℕ) (at v : ℕ) → at ≡ length xs → length zs ≡ k → put k (xs ++ (zs ++ ys)) at v ≡ xs ++ (bytes_of k v ++ ys)
put-bytes k xs zs ys at v p q =
    let room : at + k ≤ length (xs ++ (zs ++ ys)) = simp length-append (omega arith) in
    let front : length (xs ++ zs) ≡ at + k = simp length-append (omega arith) in
    rw (put_is k (xs ++ (zs ++ ys)) at v room, take_at xs (zs ++ ys) at (sym p), ← append_assoc xs zs ys, drop_at (xs ++ zs) ys (at + k) front)

-- the number that its own bytes hold
pub num-bytes : (k : ℕ) (xs ys : List ℕ) (at v : ℕ) → at ≡ length xs → v < 2 ^ (8 * k) → num k (xs ++ (bytes_of k v ++ ys)) at ≡ v
num-bytes k xs ys at v e h =
    let room : at + k ≤ length (xs ++ (bytes_of k v ++ ys)) = simp length-append (omega (arith, length-bytes_of k v)) in
    ap (λ l. num k l at) (sym (put-bytes k xs (bytes_of k v) ys at v e (length-bytes_of k v))) ∙ num-put-same k (xs ++ (bytes_of k v ++ ys)) at v room h

-- ---- each is below 256

pub bytes-append : (l m : List ℕ) → ((j : ℕ) → get_or l j 0 < 256) → ((j : ℕ) → get_or m j 0 < 256) → (j : ℕ) → get_or (l ++ m) j 0 < 256
bytes-append [] m g h j = h j
bytes-append (x ∷ l) m g h zero = g zero
bytes-append (x ∷ l) m g h (suc j) = bytes-append l m (λ i. g (suc i)) h j

pub bytes-bytes_of : (k v j : ℕ) → get_or (bytes_of k v) j 0 < 256
unfolding bytes_of
bytes-bytes_of zero v j = omega arith
bytes-bytes_of (suc k) v j = bytes-append (bytes_of k v) (v / 2 ^ (8 * k) % 256 ∷ []) (bytes-bytes_of k v) last j
  where
    last : (i : ℕ) → get_or (v / 2 ^ (8 * k) % 256 ∷ []) i 0 < 256
    last zero = omega arith
    last (suc i) = omega arith

-- ---- four bytes

-- four bytes, lowest first, from their number
bytes-four : (a b c d : ℕ) → a < 256 → b < 256 → c < 256 → d < 256 → bytes_of 4 (a + b * 256 + c * 65536 + d * 16777216) ≡ a ∷ b ∷ c ∷ d ∷ []
unfolding bytes_of
bytes-four a b c d ha hb hc hd =
    let v : ℕ = a + b * 256 + c * 65536 + d * 16777216 in
    let f : v / 256 ≡ b + c * 256 + d * 65536 = omega arith in
    let g : v / 65536 ≡ c + d * 256 = omega arith in
    let h : v / 16777216 ≡ d = omega arith in
    let a-is : v / 1 % 256 ≡ a = omega arith in
    let b-is : (b + c * 256 + d * 65536) % 256 ≡ b = omega arith in
    let c-is : (c + d * 256) % 256 ≡ c = omega arith in
    let d-is : d % 256 ≡ d = omega arith in
    cc (f, g, h, a-is, b-is, c-is, d-is)

module _ (t : List ℕ) where
  num-four : (at : ℕ) → num 4 t at ≡ get_or t at 0 + get_or t (at + 1) 0 * 256 + get_or t (at + 2) 0 * 65536 + get_or t (at + 3) 0 * 16777216
  unfolding num
  num-four at = simp add-zero (omega arith)

  byte-first : (x y : ℕ) → suc x ≡ y → x < length t → drop x t ≡ get_or t x 0 ∷ drop y t
  byte-first x y e b = drop-cons t x 0 b ∙ ap (λ z. get_or t x 0 ∷ drop z t) e

  -- the bytes from x on, by the number there
  pub number-first : ((k : ℕ) → get_or t k 0 < 256) → (x y : ℕ) → x + 4 ≡ y → y ≤ length t → drop x t ≡ bytes_of 4 (num 4 t x) ++ drop y t
  number-first bytes x y e h =
      rw (num-four x, bytes-four (get_or t x 0) (get_or t (x + 1) 0) (get_or t (x + 2) 0) (get_or t (x + 3) 0) (bytes x) (bytes (x + 1)) (bytes (x + 2)) (bytes (x + 3)))
      (rw (byte-first x (x + 1) (omega arith) (omega arith), byte-first (x + 1) (x + 2) (omega arith) (omega arith))
      (rw (byte-first (x + 2) (x + 3) (omega arith) (omega arith), byte-first (x + 3) y (omega arith) (omega arith))))
