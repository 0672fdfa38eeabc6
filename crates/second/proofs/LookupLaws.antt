-- The run of a node by direction: the part, where neither table is refused and v is a node, and else nothing.
use mathlib.Core.Path.{◌≡◌, refl}
use mathlib.Core.Bool.{true, false}
use mathlib.Core.List.{List, []}
use Prim.Native.Nat.{ℕ, ◌≤◌, ◌<◌}
use lib.Dec.{ltb, eqb}
use borrow.Author.Tests.{lt-ltb, le-ltb, ne_eqb}
use native.Mathlib.Omega.{arith}
use Rattle.std.proofs.Common.{Result, Ok, Err, is_err, ◌≢◌}
use Rattle.outcome.specs.declared.Refusal.{Refusal}
use Rattle.outcome.specs.Outcome.{told_by}
use Rattle.outcome.proofs.OutcomeLaws.{refused_not_zero}
use Rattle.table.specs.Fault.{table_fault, good}
use Rattle.second.specs.declared.Direction.{Direction}
use Rattle.second.specs.Second.{wrong_second}
use Rattle.second.specs.Lookup.{part_by, run_by}
use Rattle.second.proofs.FindLaws.{and-false}

-- ---- what a check tells by being an Err or not

pub ok-good : {X : Type 0} (checked : Result X Refusal) → is_err checked ≡ false → told_by checked ≡ good
ok-good (Ok _) h = refl
ok-good (Err _) h = absurd (grind arith)

pub err-faulty : {X : Type 0} (checked : Result X Refusal) → is_err checked ≡ true → (told_by checked).outcome ≢ 0
err-faulty (Ok _) h = absurd (grind arith)
err-faulty (Err refusal) h = refused_not_zero refusal

module _ (nodes : ℕ) (t second : List ℕ) (direction : Direction) (v : ℕ) where
  pub run-part : table_fault nodes t ≡ good → wrong_second nodes t second ≡ false → v < nodes → run_by nodes t second direction v ≡ part_by direction t second v
  unfolding run_by
  run-part ok right h = rw (ok, right, lt-ltb v nodes h)

  -- 13 and 2 to 6
  pub run-faulty : ((table_fault nodes t).outcome ≡ 0 → ⊥) → run_by nodes t second direction v ≡ []
  unfolding run_by
  run-faulty ne = rw (ne_eqb (table_fault nodes t).outcome 0 ne)

  -- no node
  pub run_past : nodes ≤ v → run_by nodes t second direction v ≡ []
  unfolding run_by
  run_past h = rw (le-ltb v nodes h, and-false (eqb (table_fault nodes t).outcome 0) false refl)

  -- 20
  pub run-wrong : wrong_second nodes t second ≡ true → run_by nodes t second direction v ≡ []
  unfolding run_by
  run-wrong e = rw (e, and-false (ltb v nodes) false refl, and-false (eqb (table_fault nodes t).outcome 0) false refl)
