-- Stores as patches. A store of one element, or of a number's bytes, is a patch; a patch right behind another makes it longer; and what lies outside a patch is as
-- it was. So a row of stores, each right behind the one before, is one patch of what they wrote.
use mathlib.Core.Path.{◌≡◌, sym, ap, ap₂, ◌∙◌}
use mathlib.Core.List.{List, [], ◌∷◌, ◌++◌, append_assoc}
use mathlib.Core.Logic.{◌⊎◌, ⊎_elim}
use Prim.Native.Nat.{ℕ, ◌+◌, ◌-◌, ◌≤◌, ◌<◌}
use native.Mathlib.Numerals.{add-one}
use native.Mathlib.Omega.{arith}
use lib.ListN.{length, get_or, set, take, drop, length-append, take-append-drop, get_or-append}
use lib.Seq.{length-take-le, set_split, take_at, get_or-take, get_or-drop}
use Rattle.words.specs.Number.{put, bytes_of}
use Rattle.words.specs.Part.{patch}
use Rattle.words.proofs.BytesLaws.{put_is}
use Rattle.words.proofs.PartLaws.{drop-after}

pub patch-none : (a : ℕ) (l : List ℕ) → patch a a l [] ≡ l
unfolding patch
patch-none a l = take-append-drop a l

pub put-patch : (k : ℕ) (l : List ℕ) (at v : ℕ) → at + k ≤ length l → put k l at v ≡ patch at (at + k) l (bytes_of k v)
unfolding patch
put-patch k l at v h = put_is k l at v h

pub set-patch : (l : List ℕ) (at v : ℕ) → at < length l → set l at v ≡ patch at (at + 1) l (v ∷ [])
unfolding patch
set-patch l at v h = rw add-one (set_split l at v h)

module _ (a e : ℕ) (l ys : List ℕ) (h : a ≤ e) (g : e ≤ length l) (n : length ys ≡ e - a) where
  pub patch-next : (f : ℕ) (zs : List ℕ) → e ≤ f → patch e f (patch a e l ys) zs ≡ patch a f l (ys ++ zs)
  unfolding patch
  patch-next f zs i =
      let front : length (take a l ++ ys) ≡ e = length-append (take a l) ys ∙ omega (arith, length-take-le a l (omega arith)) in
      let before : take e (take a l ++ (ys ++ drop e l)) ≡ take a l ++ ys = ap (take e) (sym (append_assoc (take a l) ys (drop e l))) ∙ take_at (take a l ++ ys) (drop e l) e front in
      ap₂ (λ x y. x ++ (zs ++ y)) before (drop-after a e l ys h g n f i) ∙ simp append_assoc

  pub get_or-patch-other : (x : ℕ) → (x < a) ⊎ (e ≤ x) → get_or (patch a e l ys) x 0 ≡ get_or l x 0
  unfolding patch
  get_or-patch-other x w =
      ⊎_elim
      (λ b. get_or-append (take a l) (ys ++ drop e l) 0 x (omega (arith, length-take-le a l (omega arith))) ∙ get_or-take a l x 0 b)
      (λ b.
      let k : e + (x - e) ≡ x = omega arith in
      ap (λ z. get_or (patch a e l ys) z 0) (sym k) ∙ sym (get_or-drop e (patch a e l ys) (x - e) 0) ∙ ap (λ m. get_or m (x - e) 0) (drop-after a e l ys h g n e (omega arith)) ∙ get_or-drop e l (x - e) 0
      ∙ ap (λ z. get_or l z 0) k)
      w
