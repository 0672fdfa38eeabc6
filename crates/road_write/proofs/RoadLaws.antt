-- The first road number of a table. The record that has it has one, and those before it have none (`road-found`, `road-below`): by these two it is the lowest. So a table
-- has none at all exactly where the first would stand past its records.
use mathlib.Core.Path.{◌≡◌, ap, ◌∙◌}
use mathlib.Core.Bool.{Bool, not}
use mathlib.Core.List.{List}
use mathlib.Core.Logic.{◌≢◌, ⊎_elim}
use Prim.Native.Nat.{ℕ, ◌≤◌, ◌<◌}
use native.Mathlib.Omega.{arith}
use lib.Dec.{eqb}
use borrow.Author.Tests.{eqb-true, eqb-false, not-true, not-false}
use Rattle.lists.proofs.Cases.{order}
use Rattle.lists.proofs.IndexLaws.{first-le, first_below, first-at}
use Rattle.table.specs.Table.{records, road_at, NoRoads}
use Rattle.road_write.specs.Written.{first_road}

module _ (t : List ℕ) where
  abbrev numbered : ℕ → Bool
  numbered i = not (eqb (road_at t i) 0)

  pub road-le : first_road t ≤ records t
  unfolding first_road
  road-le = omega (arith, first-le numbered (records t) 0)

  pub road-found : first_road t < records t → road_at t (first_road t) ≢ 0
  unfolding first_road
  road-found h = eqb-false _ 0 (not-true _ (first-at numbered (records t) 0 (omega arith)))

  pub road-below : (i : ℕ) → i < first_road t → road_at t i ≡ 0
  unfolding first_road
  road-below i h = eqb-true (road_at t i) 0 (not-false _ (first_below numbered (records t) 0 i (omega arith) h))

  -- ---- a loop that looks for it

  pub road-past : (i : ℕ) → i ≤ first_road t → i < records t → road_at t i ≡ 0 → i < first_road t
  road-past i h g z =
      ⊎_elim
      (λ w. let e : first_road t ≡ i = omega arith in absurd (road-found (omega arith) (ap (road_at t) e ∙ z)))
      (λ w. w)
      (order (first_road t) i)

  pub road-here : (i : ℕ) → i ≤ first_road t → road_at t i ≢ 0 → i ≡ first_road t
  road-here i h z = ⊎_elim (λ w. omega arith) (λ w. absurd (z (road-below i w))) (order (first_road t) i)

  -- ---- none

  pub first-none : first_road t ≡ records t → NoRoads t
  first-none e i h = road-below i (omega arith)

  pub none_first : NoRoads t → first_road t ≡ records t
  none_first none = ⊎_elim (λ w. omega (arith, road-le)) (λ w. absurd (road-found w (none (first_road t) w))) (order (records t) (first_road t))
