-- An arc told by its two nodes and its length. The arcs of a start node stand in its run, so where none of them up to the run's end fits, none does.
use mathlib.Core.Path.{◌≡◌}
use mathlib.Core.Logic.{⊎_elim}
use mathlib.Core.Bool.{true, false, ◌&&◌}
use mathlib.Core.List.{List}
use Prim.Native.Nat.{ℕ, ◌≤◌, ◌<◌}
use native.Mathlib.Omega.{arith}
use lib.Dec.{eqb}
use borrow.Author.Tests.{eqb-true, eq-eqb, ne_eqb}
use Rattle.lists.proofs.Cases.{order}
use Rattle.table.specs.Table.{records, from_at, to_at, len_at, is_open_at}
use Rattle.table.specs.Fault.{table_fault, good}
use Rattle.table.specs.Run.{run_start}
use Rattle.table.proofs.RunLaws.{run_is, run-has}
use Rattle.second.proofs.FindLaws.{and-true}
use Rattle.reach.specs.Choice.{fits, NoFitting}

module _ (t closed : List ℕ) (v len a : ℕ) where
  pub other-end : (to_at t a ≡ v → ⊥) → fits t closed v len a ≡ false
  unfolding fits
  other-end ne = rw (ne_eqb (to_at t a) v ne)

  pub other_length : to_at t a ≡ v → (len_at t a ≡ len → ⊥) → fits t closed v len a ≡ false
  unfolding fits
  other_length e ne = rw (eq-eqb (to_at t a) v e) (rw (ne_eqb (len_at t a) len ne))

  pub fits-open : to_at t a ≡ v → len_at t a ≡ len → fits t closed v len a ≡ is_open_at closed a
  unfolding fits
  fits-open e h = rw (eq-eqb (to_at t a) v e) (rw (eq-eqb (len_at t a) len h))

  pub fits-e : fits t closed v len a ≡ true → (to_at t a ≡ v) × (len_at t a ≡ len) × (is_open_at closed a ≡ true)
  unfolding fits
  fits-e h =
      let p = and-true (eqb (to_at t a) v) (eqb (len_at t a) len && is_open_at closed a) h in
      let q = and-true (eqb (len_at t a) len) (is_open_at closed a) p.1 in
      (eqb-true _ _ p.0, eqb-true _ _ q.0, q.1)

-- none of w's run before a fits, and the run is over
module _ (nodes : ℕ) (t closed : List ℕ) (ok : table_fault nodes t ≡ good) (w v len a : ℕ) (low : run_start t w ≤ a)
    (behind : (i : ℕ) → run_start t w ≤ i → i < a → fits t closed v len i ≡ false) where
  pub none_left : records t ≤ a → NoFitting t closed w v len
  none_left h i k e = behind i (run-has nodes t ok w i k e).0 (omega arith)

  pub none_more : (from_at t a ≡ w → ⊥) → NoFitting t closed w v len
  none_more ne i k e =
      let p = run-has nodes t ok w i k e in
      behind i p.0 (⊎_elim (λ z. absurd (ne (run_is nodes t ok w a low (omega (arith, p.1))))) (λ z. z) (order a i))
