-- A part changed, the rest of the whole unchanged; the same for slots. `back` and `lent` are what a call that lends a part leaves.
use mathlib.Core.Path.{◌≡◌, ap, sym, ◌∙◌}
use mathlib.Core.List.{List, ◌++◌, append_assoc}
use mathlib.Core.Logic.{◌≢◌, ⊎_elim}
use Prim.Native.Nat.{ℕ, suc, ◌+◌, ◌-◌, ◌*◌, ◌≤◌}
use native.Mathlib.Nat.{mul-le-mul_right}
use native.Mathlib.Omega.{arith}
use lib.ListN.{length, take, drop, take-append-drop, length-drop, length-append}
use lib.Seq.{drop-drop, length-take-le, take-append-le, drop-append-le, take_at, drop_at}
use borrow.Rule.Slice.PartMut.{put_mid, mid_of}
use Rattle.words.specs.Part.{patch, slot}
use Rattle.lists.proofs.Cases.{order}

-- what comes back from `f(&mut l[a..e])`, where f left ys
pub back : {X : Type 0} (a e : ℕ) (l ys : List X) → a ≤ e → put_mid a (e - a) l ys ≡ patch a e l ys
unfolding patch
back a e l ys h =
    let i : a + (e - a) ≡ e = omega arith in
    rw (drop-drop, i)

-- how many were lent
pub lent : {X : Type 0} (a e : ℕ) (l : List X) → a ≤ e → e ≤ length l → length (mid_of a (e - a) l) ≡ e - a
lent a e l h g = length-take-le (e - a) (drop a l) (simp length-drop (omega arith))

-- ---- laws of a patch of as many elements as it takes the place of

-- what lies in a front part does not see what lies after it
by_front : (p q r : List ℕ) (f n : ℕ) → f + n ≤ length p → take n (drop f (p ++ q)) ≡ take n (drop f (p ++ r))
by_front p q r f n h =
    let i : f ≤ length p = omega arith in
    let j : n ≤ length (drop f p) = simp length-drop (omega arith) in
    rw (drop-append-le f p q, drop-append-le f p r, take-append-le n (drop f p) q, take-append-le n (drop f p) r)

module _ (a e : ℕ) (l ys : List ℕ) (h : a ≤ e) (g : e ≤ length l) (n : length ys ≡ e - a) where
  front : length (take a l) ≡ a
  front = length-take-le a l (omega arith)

  pub length-patch : length (patch a e l ys) ≡ length l
  unfolding patch
  length-patch = simp (length-append, length-drop, front, n) (omega arith)

  pub part_same : take (e - a) (drop a (patch a e l ys)) ≡ ys
  unfolding patch
  part_same = rw (drop_at (take a l) (ys ++ drop e l) a front) (take_at ys (drop e l) (e - a) n)

  pub part-before : (f m : ℕ) → f + m ≤ a → take m (drop f (patch a e l ys)) ≡ take m (drop f l)
  unfolding patch
  part-before f m i = by_front (take a l) (ys ++ drop e l) (drop a l) f m (omega (arith, front)) ∙ ap (λ (x : List ℕ). take m (drop f x)) (take-append-drop a l)

  pub drop-after : (f : ℕ) → e ≤ f → drop f (patch a e l ys) ≡ drop f l
  unfolding patch
  drop-after f i =
      let k : e + (f - e) ≡ f = omega arith in
      let m : length (take a l ++ ys) ≡ e = simp (length-append, front, n) (omega arith) in
      rw (← k, ← append_assoc, ← drop-drop (f - e) e (take a l ++ ys ++ drop e l), drop_at (take a l ++ ys) (drop e l) e m) (drop-drop (f - e) e l)

-- ---- slots of w elements

pub slot_same : (w r : ℕ) (l ys : List ℕ) → r * w + w ≤ length l → length ys ≡ w → slot w r (patch (r * w) (r * w + w) l ys) ≡ ys
unfolding slot
slot_same w r l ys h n =
    let k : r * w + w - r * w ≡ w = omega arith in
    rw k at (part_same (r * w) (r * w + w) l ys (omega arith) h (n ∙ sym k))

pub slot-other : (w r j : ℕ) (l ys : List ℕ) → r * w + w ≤ length l → length ys ≡ w → r ≢ j → slot w j (patch (r * w) (r * w + w) l ys) ≡ slot w j l
unfolding slot
slot-other w r j l ys h n ne =
    ⊎_elim
    (λ o. ap (take w) (drop-after (r * w) (r * w + w) l ys (omega arith) h (omega arith) (j * w) (omega (arith, mul-le-mul_right {m = suc r} {n = j} w (omega arith)))))
    (λ o. part-before (r * w) (r * w + w) l ys (omega arith) h (omega arith) (j * w) w (omega (arith, mul-le-mul_right {m = suc j} {n = r} w o)))
    (order r j)
