-- Text put into a buffer piece by piece. The buffer up to a piece's place is not touched, and what follows a piece is what followed the place before, so
-- two pieces of which the second starts where the first ends are one piece: `appended-more`. A store of one byte is a piece of one.
use mathlib.Core.Path.{◌≡◌, refl, ap, sym, ◌∙◌}
use mathlib.Core.List.{List, [], ◌∷◌, ◌++◌, append_assoc}
use Prim.Native.Nat.{ℕ, ◌+◌, ◌≤◌, ◌<◌}
use native.Mathlib.Nat.{add-zero}
use native.Mathlib.Numerals.{add-one}
use native.Mathlib.Omega.{arith}
use lib.ListN.{length, set, take, drop, take-append-drop, length-append}
use lib.Seq.{length-take-le, take_at, drop_at, drop-drop, set_split}
use Rattle.words.specs.Part.{patch}
use Rattle.words.proofs.PartLaws.{length-patch}
use Rattle.text_put.specs.Put.{Appended}

-- the buffer is as long as before
pub appended-length : (l : List ℕ) (at : ℕ) (x m : List ℕ) (p : ℕ) → Appended l at x m p → at + length x ≤ length l → length m ≡ length l
appended-length l at x m p a h = ap length a.is ∙ length-patch at (at + length x) l x (omega arith) h (omega arith)

-- from the two facts
pub appended-by : (l : List ℕ) (at : ℕ) (x m : List ℕ) (p : ℕ) → (p ≡ at + length x) × (m ≡ patch at (at + length x) l x) → Appended l at x m p
appended-by l at x m p e = record { is = e.1; place = e.0 }

-- no text
pub appended-none : (l : List ℕ) (at : ℕ) → Appended l at [] l at
unfolding patch
appended-none l at = record { is = rw add-zero (sym (take-append-drop at l)); place = omega arith }

-- one byte
pub appended_one : (l : List ℕ) (at b : ℕ) → at < length l → Appended l at (b ∷ []) (set l at b) (at + 1)
unfolding patch
appended_one l at b h = record { is = rw add-one (set_split l at b h); place = refl }

patch-is : (a e : ℕ) (l ys : List ℕ) → patch a e l ys ≡ take a l ++ (ys ++ drop e l)
unfolding patch
patch-is a e l ys = refl

-- the buffer up to the end of a text, and from there on
module _ (l : List ℕ) (at : ℕ) (x : List ℕ) (h : at ≤ length l) where
  front : length (take at l ++ x) ≡ at + length x
  front = simp (length-append, length-take-le at l) refl

  take-patch : take (at + length x) (patch at (at + length x) l x) ≡ take at l ++ x
  unfolding patch
  take-patch = rw (← append_assoc) (take_at (take at l ++ x) (drop (at + length x) l) (at + length x) front)

  drop-patch : (k : ℕ) → drop (at + length x + k) (patch at (at + length x) l x) ≡ drop (at + length x + k) l
  unfolding patch
  drop-patch k =
      rw (← append_assoc, ← drop-drop k (at + length x) (take at l ++ x ++ drop (at + length x) l), drop_at (take at l ++ x) (drop (at + length x) l) (at + length x) front)
      (drop-drop k (at + length x) l)

  patch-more : (y : List ℕ) → patch (at + length x) (at + length x + length y) (patch at (at + length x) l x) y ≡ patch at (at + length (x ++ y)) l (x ++ y)
  patch-more y =
      let p = at + length x in
      let m = patch at p l x in
      let k : p + length y ≡ at + length (x ++ y) = omega (arith, length-append x y) in
      let d = drop (p + length y) l in
      cc (patch-is p (p + length y) m y, patch-is at (p + length y) l (x ++ y), take-patch, drop-patch (length y), append_assoc (take at l) x (y ++ d), append_assoc x y d)

-- a text after a text
pub appended-more : (l : List ℕ) (at : ℕ) (x m : List ℕ) (p : ℕ) (y n : List ℕ) (r : ℕ) → Appended l at x m p → Appended m p y n r → at ≤ length l → Appended l at (x ++ y) n r
appended-more l at x m p y n r a b h = record {
  is = cc (a.is, a.place, b.is, patch-more l at x h y);
  place = b.place ∙ omega (arith, a.place, length-append x y);
}
