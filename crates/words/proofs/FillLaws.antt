-- A fill, turn by turn: `fill_step` is a turn of the loop, `fill_done` the end, where nothing of the old list is left. `fill-part`: only a part was
-- lent to the fill.
use mathlib.Core.Path.{◌≡◌, refl, ap, ◌∙◌}
use mathlib.Core.List.{List, [], ◌∷◌, ◌++◌, append-nil}
use Prim.Native.Nat.{ℕ, zero, suc, ◌+◌, ◌-◌, ◌≤◌, ◌<◌}
use native.Mathlib.Numerals.{add-one}
use native.Mathlib.Omega.{arith}
use lib.ListN.{length, set, drop, replicate, drop_of_length-le}
use borrow.Rule.Slice.PartMut.{put_mid, mid_of}
use Rattle.words.specs.Part.{patch}
use Rattle.words.proofs.PartLaws.{back, lent}

turn : {X : Type 0} (v : X) (i : ℕ) (d : List X) → i < length d → set (replicate i v ++ drop i d) i v ≡ replicate (suc i) v ++ drop (suc i) d
turn v zero [] h = absurd (omega arith)
turn v zero (x ∷ d) h = refl
turn v (suc i) [] h = absurd (omega arith)
turn v (suc i) (x ∷ d) h = ap (λ ys. v ∷ ys) (turn v i d (omega arith))

pub fill_step : {X : Type 0} (b d : List X) (v : X) (i : ℕ) → b ≡ replicate i v ++ drop i d → i < length d → set b i v ≡ replicate (i + 1) v ++ drop (i + 1) d
fill_step b d v i e h = rw (e, add-one) (turn v i d h)

pub fill_done : {X : Type 0} (b d : List X) (v : X) (i : ℕ) → b ≡ replicate i v ++ drop i d → i ≡ length d → b ≡ replicate (length d) v
fill_done b d v i e h = e ∙ rw (drop_of_length-le d {i = i} (omega arith), append-nil, h)

-- the whole, once the part from a to e that was lent has come back filled
pub fill-part : {X : Type 0} (a e : ℕ) (v : X) (l ys : List X) → a ≤ e → e ≤ length l → ys ≡ replicate (length (mid_of a (e - a) l)) v → put_mid a (e - a) l ys ≡ patch a e l (replicate (e - a) v)
fill-part a e v l ys h g f = cc (back a e l ys h, lent a e l h g)
