-- An arc that is read has no node 0, whatever the state: each way to another answer is no arc, and an arc is made only of nodes that are not 0.
use mathlib.Core.Path.{◌≡◌}
use mathlib.Core.Bool.{true, false, ◌&&◌}
use mathlib.Core.Logic.{◌⊎◌, inl, inr, ⊎_elim}
use Prim.Native.Nat.{ℕ, ◌≤◌}
use native.Mathlib.Omega.{arith}
use lib.Dec.{eqb}
use borrow.Author.Tests.{eqb-false}
use Rattle.lists.proofs.Cases.{cases, order}
use Rattle.road_line.specs.Line.{arc, arc_with}
use Rattle.road_line.specs.Scan.{whole_as, commented, read_of}
use Rattle.road_line.specs.declared.Kind.{Kind}
use Rattle.road_line.specs.declared.Kind.TheVariants as kinds
use Rattle.road_line.specs.declared.Scan.{Scan}

pub positive : (u : ℕ) → eqb u 0 ≡ false → 1 ≤ u
positive u e = ⊎_elim (λ g. absurd (eqb-false u 0 e (omega arith))) (λ g. g) (order u 0)

with-nodes : (u d m t h n : ℕ) → arc_with u d m ≡ arc t h n → (1 ≤ t) × (1 ≤ h)
unfolding arc_with
with-nodes u d m t h n e = go (cases (eqb u 0)) (cases (eqb d 0))
  where
    go : (eqb u 0 ≡ true) ⊎ (eqb u 0 ≡ false) → (eqb d 0 ≡ true) ⊎ (eqb d 0 ≡ false) → (1 ≤ t) × (1 ≤ h)
    go (inl z) w = absurd (let q = rw z at e in let y : ◌≡◌ {A = ℕ} 0 1 = cc in omega arith)
    go (inr z) (inl w) = absurd (let q = rw (z, w) at e in let y : ◌≡◌ {A = ℕ} 0 1 = cc in omega arith)
    go (inr z) (inr w) =
        let s = rw (z, w) at e in
        let a : u ≡ t = cc in
        let b : d ≡ h = cc in
        (omega (arith, positive u z), omega (arith, positive d w))

whole-nodes : (k : Kind) (x : Scan) (t h n : ℕ) → whole_as k x ≡ arc t h n → (1 ≤ t) × (1 ≤ h)
unfolding whole_as
whole-nodes kinds.Unknown x t h n e = absurd (let y : ◌≡◌ {A = ℕ} 0 1 = cc in omega arith)
whole-nodes kinds.Sizes x t h n e = absurd (let y : ◌≡◌ {A = ℕ} 0 1 = cc in omega arith)
whole-nodes kinds.Arc x t h n e = with-nodes x.first x.second x.value t h n e
whole-nodes kinds.Comment x t h n e = absurd (let y : ◌≡◌ {A = ℕ} 0 1 = cc in omega arith)
whole-nodes kinds.Other x t h n e = absurd (let y : ◌≡◌ {A = ℕ} 0 1 = cc in omega arith)

-- so the nodes of an arc that was read may be counted from 0
pub read-nodes : (x : Scan) (t h n : ℕ) → read_of x ≡ arc t h n → (1 ≤ t) × (1 ≤ h)
unfolding read_of
read-nodes x t h n e = go (cases (commented x.kind)) (cases (x.begun && eqb x.left 0))
  where
    go : (commented x.kind ≡ true) ⊎ (commented x.kind ≡ false) → ((x.begun && eqb x.left 0) ≡ true) ⊎ ((x.begun && eqb x.left 0) ≡ false) → (1 ≤ t) × (1 ≤ h)
    go (inl c) w = absurd (let q = rw c at e in let y : ◌≡◌ {A = ℕ} 0 1 = cc in omega arith)
    go (inr c) (inl w) = whole-nodes x.kind x t h n (rw (c, w) at e)
    go (inr c) (inr w) = absurd (let q = rw (c, w) at e in let y : ◌≡◌ {A = ℕ} 0 1 = cc in omega arith)
