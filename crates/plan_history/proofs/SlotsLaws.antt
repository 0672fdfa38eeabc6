-- A list made of pieces of one width: slot j of it is the piece of the j-th, and what follows the pieces has the slots after them.
use mathlib.Core.Path.{◌≡◌, sym, ap, ap₂, ◌∙◌}
use mathlib.Core.List.{List, [], ◌∷◌, ◌++◌, flat_map, append_assoc}
use Prim.Native.Nat.{ℕ, zero, suc, ◌+◌, ◌*◌, ◌<◌}
use native.Mathlib.Omega.{arith}
use lib.ListN.{length, get_or, take, drop, replicate, length-append, length-replicate, replicate-append-replicate}
use lib.Seq.{drop-drop, take_at, drop_at}
use Rattle.words.specs.Part.{slot}

-- the next slot is a slot of what is left
slot_next : (w j : ℕ) (x l : List ℕ) → length x ≡ w → slot w (suc j) (x ++ l) ≡ slot w j l
unfolding slot
slot_next w j x l n =
    let e : suc j * w ≡ w + j * w = omega arith in
    ap (take w) (ap (λ z. drop z (x ++ l)) e ∙ sym (drop-drop (j * w) w (x ++ l)) ∙ ap (drop (j * w)) (drop_at x l w n))

slot-first : (w : ℕ) (x l : List ℕ) → length x ≡ w → slot w 0 (x ++ l) ≡ x
unfolding slot
slot-first w x l n =
    let e : 0 * w ≡ 0 = omega arith in
    ap (λ z. take w (drop z (x ++ l))) e ∙ take_at x l w n

replicate_next : (w n a : ℕ) → replicate (suc n * w) a ≡ replicate w a ++ replicate (n * w) a
replicate_next w n a =
    let e : suc n * w ≡ w + n * w = omega arith in
    ap (λ m. replicate m a) e ∙ sym (replicate-append-replicate w (n * w) a)

-- slots of one element again and again
pub slot-replicate : (w j n a : ℕ) → j < n → slot w j (replicate (n * w) a) ≡ replicate w a
slot-replicate w j zero a h = absurd (omega arith)
slot-replicate w zero (suc n) a h = ap (slot w 0) (replicate_next w n a) ∙ slot-first w (replicate w a) (replicate (n * w) a) (length-replicate w a)
slot-replicate w (suc j) (suc n) a h =
    ap (slot w (suc j)) (replicate_next w n a) ∙ slot_next w j (replicate w a) (replicate (n * w) a) (length-replicate w a) ∙ slot-replicate w j n a (omega arith)

module _ (w : ℕ) (h : ℕ → List ℕ) where
  pub length-pieces : (l : List ℕ) → ((k : ℕ) → k < length l → length (h (get_or l k 0)) ≡ w) → length (flat_map h l) ≡ length l * w
  unfolding flat_map
  length-pieces [] n = omega arith
  length-pieces (x ∷ l) n = length-append (h x) (flat_map h l) ∙ omega (arith, n 0 (omega arith), length-pieces l (λ k b. n (suc k) (omega arith)))

  pub slot-piece : (l rest : List ℕ) (j : ℕ) → ((k : ℕ) → k < length l → length (h (get_or l k 0)) ≡ w) → j < length l → slot w j (flat_map h l ++ rest) ≡ h (get_or l j 0)
  unfolding flat_map
  slot-piece [] rest j n b = absurd (omega arith)
  slot-piece (x ∷ l) rest zero n b = ap (slot w 0) (append_assoc (h x) (flat_map h l) rest) ∙ slot-first w (h x) (flat_map h l ++ rest) (n 0 (omega arith))
  slot-piece (x ∷ l) rest (suc j) n b =
      ap (slot w (suc j)) (append_assoc (h x) (flat_map h l) rest) ∙ slot_next w j (h x) (flat_map h l ++ rest) (n 0 (omega arith))
      ∙ slot-piece l rest j (λ k c. n (suc k) (omega arith)) (omega arith)

  pub slot-rest : (l rest : List ℕ) (j : ℕ) → ((k : ℕ) → k < length l → length (h (get_or l k 0)) ≡ w) → slot w (length l + j) (flat_map h l ++ rest) ≡ slot w j rest
  unfolding flat_map
  slot-rest [] rest j n = ap (λ i. slot w i rest) (omega arith)
  slot-rest (x ∷ l) rest j n =
      let e : length (x ∷ l) + j ≡ suc (length l + j) = omega arith in
      ap₂ (slot w) e (append_assoc (h x) (flat_map h l) rest) ∙ slot_next w (length l + j) (h x) (flat_map h l ++ rest) (n 0 (omega arith))
      ∙ slot-rest l rest j (λ k c. n (suc k) (omega arith))
