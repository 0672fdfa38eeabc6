-- The part of a table that is told by its place: the run of a node in a good table, an empty part where the table has a fault or v is no node.
-- The bytes that stand there are those that `arcs_from` hands out, since one test decides both. So too for the run by direction, of either table, and `run_by`.
use mathlib.Core.Path.{◌≡◌, refl}
use mathlib.Core.Bool.{true, false, not, ◌&&◌}
use mathlib.Core.List.{List}
use mathlib.Core.Logic.{⊎_elim}
use Prim.Native.Nat.{ℕ, ◌≤◌, ◌<◌}
use lib.Dec.{ltb, eqb}
use lib.ListN.{take, drop}
use borrow.Author.Tests.{lt-ltb, le-ltb, ne_eqb}
use Rattle.lists.proofs.Cases.{cases}
use Rattle.table.specs.Fault.{table_fault, good}
use Rattle.table.specs.Run.{run_of, arcs_from}
use Rattle.table.proofs.RunLaws.{run-le, run-mono}
use Rattle.second.specs.declared.Direction.TheVariants.{Leaving, Coming}
use Rattle.second.specs.Second.{wrong_second}
use Rattle.second.specs.Lookup.{part_by as bytesBy, coming_of, run_by}
use Rattle.second.proofs.FindLaws.{and-false}
use Rattle.table_part.specs.Part.{run_part, part_of, coming_part, part_by, run_part_by}

-- the bounds of a run
pub ruleset run_bounds = (run-le, run-mono)

module _ (nodes : ℕ) (t : List ℕ) (v : ℕ) where
  pub part-run : table_fault nodes t ≡ good → v < nodes → part_of nodes t v ≡ run_part t v
  unfolding part_of
  part-run ok h = rw (ok, lt-ltb v nodes h)

  -- an empty part for a table with a fault
  pub part-faulty : ((table_fault nodes t).outcome ≡ 0 → ⊥) → part_of nodes t v ≡ record { place = 0; bytes = 0 }
  unfolding part_of
  part-faulty h = rw (ne_eqb (table_fault nodes t).outcome 0 h)

  -- and for what is no node
  pub part-past : nodes ≤ v → part_of nodes t v ≡ record { place = 0; bytes = 0 }
  unfolding part_of
  part-past h = rw (le-ltb v nodes h) (⊎_elim (λ e. rw e) (λ e. rw e) (cases (eqb (table_fault nodes t).outcome 0)))

-- the bytes of the part that is told are those of the part that is handed out
pub part-is : (nodes : ℕ) (t : List ℕ) (v : ℕ) → take (part_of nodes t v).bytes (drop (part_of nodes t v).place t) ≡ arcs_from nodes t v
unfolding part_of run_part arcs_from run_of
part-is nodes t v = ⊎_elim (λ e. rw e) (λ e. rw e) (cases (eqb (table_fault nodes t).outcome 0 && ltb v nodes))

module _ (nodes : ℕ) (t second : List ℕ) (direction v : ℕ) where
  pub lookup-part : table_fault nodes t ≡ good → wrong_second nodes t second ≡ false → v < nodes → run_part_by nodes t second direction v ≡ part_by direction t second v
  unfolding run_part_by
  lookup-part ok right h = rw (ok, right, lt-ltb v nodes h)

  -- 13 and 2 to 6
  pub lookup-faulty : ((table_fault nodes t).outcome ≡ 0 → ⊥) → run_part_by nodes t second direction v ≡ record { place = 0; bytes = 0 }
  unfolding run_part_by
  lookup-faulty ne = rw (ne_eqb (table_fault nodes t).outcome 0 ne)

  -- no node
  pub lookup-past : nodes ≤ v → run_part_by nodes t second direction v ≡ record { place = 0; bytes = 0 }
  unfolding run_part_by
  lookup-past h = rw (le-ltb v nodes h, and-false (eqb (table_fault nodes t).outcome 0) false refl)

  -- 20
  pub lookup-wrong : wrong_second nodes t second ≡ true → run_part_by nodes t second direction v ≡ record { place = 0; bytes = 0 }
  unfolding run_part_by
  lookup-wrong e = rw (e, and-false (ltb v nodes) false refl, and-false (eqb (table_fault nodes t).outcome 0) false refl)

-- the bytes of the part told by direction are those of the part that the lookup hands out, of the first table
pub lookup-leaving : (nodes : ℕ) (t second : List ℕ) (v : ℕ) → take (run_part_by nodes t second 0 v).bytes (drop (run_part_by nodes t second 0 v).place t) ≡ run_by nodes t second Leaving v
unfolding run_part_by part_by run_part run_by bytesBy run_of
lookup-leaving nodes t second v = ⊎_elim (λ e. rw e) (λ e. rw e) (cases (eqb (table_fault nodes t).outcome 0 && (ltb v nodes && not (wrong_second nodes t second))))

-- and of the second
pub lookup-coming : (nodes : ℕ) (t second : List ℕ) (v : ℕ) → take (run_part_by nodes t second 1 v).bytes (drop (run_part_by nodes t second 1 v).place second) ≡ run_by nodes t second Coming v
unfolding run_part_by part_by coming_part run_by bytesBy coming_of
lookup-coming nodes t second v = ⊎_elim (λ e. rw e) (λ e. rw e) (cases (eqb (table_fault nodes t).outcome 0 && (ltb v nodes && not (wrong_second nodes t second))))
