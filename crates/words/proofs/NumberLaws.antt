-- The laws of `num` and `put`, once for every width. A number is what its k bytes are, so all follow byte by byte, by
-- induction on k: a store changes its own k bytes and no others, and what it writes are the digits of v to the base 256.
use mathlib.Core.Path.{◌≡◌, refl, sym, ◌∙◌}
use mathlib.Core.List.{List}
use mathlib.Core.Logic.{◌⊎◌, inl, inr, ⊎_elim}
use Prim.Native.Nat.{ℕ, zero, suc, ◌+◌, ◌-◌, ◌*◌, ◌/◌, ◌%◌, ◌^◌, ◌≤◌, ◌<◌}
use native.Mathlib.Nat.{add-zero, add-suc, add_assoc, mod-one, mod-eq_of_lt}
use native.Mathlib.Omega.{arith}
use lib.Arith.{digits_lt}
use lib.ListN.{length, get_or, set, length-set}
use lib.Pow.{mod-pow-add, pow-add, shr-shr, field, mod-mod-pow}
use lib.Seq.{get_or-set_same, get_or-set_other}
use Rattle.words.specs.Number.{num, put}

-- what num reads is the bytes at its k places and no others
pub num-cong : (k : ℕ) (l m : List ℕ) (at bt : ℕ) → ((j : ℕ) → j < k → get_or l (at + j) 0 ≡ get_or m (bt + j) 0) → num k l at ≡ num k m bt
unfolding num
num-cong zero l m at bt h = refl
num-cong (suc k) l m at bt h = cc (num-cong k l m at bt (λ j i. h j (omega arith)), h k (omega arith))

pub length-put : (k : ℕ) (l : List ℕ) (at v : ℕ) → length (put k l at v) ≡ length l
unfolding put
length-put zero l at v = refl
length-put (suc k) l at v = length-set (put k l at v) (at + k) (v / 2 ^ (8 * k) % 256) ∙ length-put k l at v

-- ---- a read after a store

-- a byte outside is as it was
pub get_or-put-other : (k : ℕ) (l : List ℕ) (at v j : ℕ) → (j < at) ⊎ (at + k ≤ j) → get_or (put k l at v) j 0 ≡ get_or l j 0
unfolding put
get_or-put-other zero l at v j h = refl
get_or-put-other (suc k) l at v j h =
    get_or-set_other (put k l at v) (at + k) j (v / 2 ^ (8 * k) % 256) 0 (λ e. ⊎_elim (λ w. omega arith) (λ w. omega arith) h)
    ∙ get_or-put-other k l at v j (⊎_elim (λ w. inl w) (λ w. inr (omega arith)) h)

-- a number at a place apart is as it was
pub num-put-other : (k m : ℕ) (l : List ℕ) (at bt v : ℕ) → (bt + m ≤ at) ⊎ (at + k ≤ bt) → num m (put k l at v) bt ≡ num m l bt
num-put-other k m l at bt v h =
    num-cong m (put k l at v) l bt bt (λ j i. get_or-put-other k l at v (bt + j) (⊎_elim (λ w. inl (omega arith)) (λ w. inr (omega arith)) h))

-- the number at the place itself is what was put there, as far as k bytes hold it
pub num-put-mod : (k : ℕ) (l : List ℕ) (at v : ℕ) → at + k ≤ length l → num k (put k l at v) at ≡ v % 2 ^ (8 * k)
unfolding num put
num-put-mod zero l at v h = sym (mod-one v)
num-put-mod (suc k) l at v h =
    let b = v / 2 ^ (8 * k) % 256 in
    let low : num k (set (put k l at v) (at + k) b) at ≡ v % 2 ^ (8 * k) =
    num-cong k (set (put k l at v) (at + k) b) (put k l at v) at at (λ j i. get_or-set_other (put k l at v) (at + k) (at + j) b 0 (λ e. omega arith))
    ∙ num-put-mod k l at v (omega arith) in
    let top : get_or (set (put k l at v) (at + k) b) (at + k) 0 ≡ b =
    get_or-set_same (put k l at v) (at + k) b 0 (omega (arith, length-put k l at v)) in
    let e : 8 * suc k ≡ 8 + 8 * k = omega arith in
    rw (low, top, e, mod-pow-add v 8 (8 * k)) (omega arith)

-- the same, where k bytes hold it whole
pub num-put-same : (k : ℕ) (l : List ℕ) (at v : ℕ) → at + k ≤ length l → v < 2 ^ (8 * k) → num k (put k l at v) at ≡ v
num-put-same k l at v h s = num-put-mod k l at v h ∙ mod-eq_of_lt s

-- a number of k bytes stays below its limit
pub num-below : (k : ℕ) (l : List ℕ) (at : ℕ) → ((j : ℕ) → get_or l j 0 < 256) → num k l at < 2 ^ (8 * k)
unfolding num
num-below zero l at h = omega arith
num-below (suc k) l at h =
    let e : 8 * suc k ≡ 8 + 8 * k = omega arith in
    rw (e, pow-add 2 8 (8 * k)) (omega (arith, digits_lt (h (at + k)) (num-below k l at h)))

-- ---- in two parts, the lower j bytes first

pub num-add : (j k : ℕ) (l : List ℕ) (at : ℕ) → num (j + k) l at ≡ num j l at + num k l (at + j) * 2 ^ (8 * j)
unfolding num
num-add j zero l at = rw add-zero (omega arith)
num-add j (suc k) l at =
    let e : 8 * (j + k) ≡ 8 * j + 8 * k = omega arith in
    rw (add-suc j k, num-add j k l at, add_assoc at j k, e, pow-add 2 (8 * j) (8 * k)) (omega arith)

pub put-add : (j k : ℕ) (l : List ℕ) (at v : ℕ) → put (j + k) l at v ≡ put k (put j l at v) (at + j) (v / 2 ^ (8 * j))
unfolding put
put-add j zero l at v = rw add-zero
put-add j (suc k) l at v =
    let e : 8 * (j + k) ≡ 8 * j + 8 * k = omega arith in
    rw (add-suc j k, put-add j k l at v, add_assoc at j k, shr-shr v (8 * j) (8 * k), e)

-- only the lowest k bytes of v count
pub put-mod : (k m : ℕ) (l : List ℕ) (at v : ℕ) → k ≤ m → put k l at (v % 2 ^ (8 * m)) ≡ put k l at v
unfolding put
put-mod zero m l at v h = refl
put-mod (suc k) m l at v h =
    let e : 8 * m ≡ 8 * (m - suc k) + 8 + 8 * k = omega arith in
    let digit : v % 2 ^ (8 * m) / 2 ^ (8 * k) % 256 ≡ v / 2 ^ (8 * k) % 256 =
    rw (e, field v (8 * (m - suc k) + 8) (8 * k), mod-mod-pow (v / 2 ^ (8 * k)) (8 * (m - suc k)) 8) in
    rw (put-mod k m l at v (omega arith), digit)

-- as a caller writes the two: each gets only its own bytes of v
pub put_two : (j k : ℕ) (l : List ℕ) (at v : ℕ) → put (j + k) l at v ≡ put k (put j l at (v % 2 ^ (8 * j))) (at + j) (v / 2 ^ (8 * j))
put_two j k l at v = rw (put-mod j j l at v (omega arith)) (put-add j k l at v)
