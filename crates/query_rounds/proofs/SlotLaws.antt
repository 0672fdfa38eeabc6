-- A slot lent for a route, and the route lent again: its arcs are the first words of the slot.
use mathlib.Core.Path.{◌≡◌, sym, ap, ◌∙◌}
use mathlib.Core.List.{List, ◌++◌, append_assoc}
use Prim.Native.Nat.{ℕ, ◌+◌, ◌-◌, ◌*◌, ◌≤◌}
use native.Mathlib.Omega.{arith}
use borrow.Rule.Slice.PartMut.{mid_of, put_mid}
use lib.ListN.{length, take, drop, replicate}
use lib.Seq.{length-take-le, take_at, drop_at}
use Rattle.words.specs.Part.{patch}
use Rattle.words.proofs.PartLaws.{back, lent}
use Rattle.labels.specs.Field.{no_number}
use Rattle.labels.specs.Chain.{slot_of}

module _ (w r : ℕ) (area : List ℕ) (h : r * w + w ≤ length area) where
  pub slot_lent : length (mid_of (r * w) (r * w + w - r * w) area) ≡ w
  slot_lent = omega (arith, lent (r * w) (r * w + w) area (omega arith) h)

  pub slot-put : (ys p : List ℕ) → ys ≡ slot_of (length (mid_of (r * w) (r * w + w - r * w) area)) p
      → put_mid (r * w) (r * w + w - r * w) area ys ≡ patch (r * w) (r * w + w) area (slot_of w p)
  slot-put ys p e = back (r * w) (r * w + w) area ys (omega arith) ∙ ap (patch (r * w) (r * w + w) area) (e ∙ ap (λ n. slot_of n p) slot_lent)

  pub slot-again : (p : List ℕ) (m : ℕ) → m ≡ length p → take (r * w + m - r * w) (drop (r * w) (patch (r * w) (r * w + w) area (slot_of w p))) ≡ p
  unfolding patch
  slot-again p m e =
      let i : r * w + m - r * w ≡ m = omega arith in
      let rest = drop (r * w + w) area in
      ap (λ n. take n (drop (r * w) (take (r * w) area ++ (slot_of w p ++ rest)))) i
      ∙ ap (take m) (drop_at (take (r * w) area) (slot_of w p ++ rest) (r * w) (length-take-le (r * w) area (omega arith)) ∙ append_assoc p (replicate (w - length p) no_number) rest)
      ∙ take_at p (replicate (w - length p) no_number ++ rest) m (sym e)
