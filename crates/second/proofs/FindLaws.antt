-- The first arc that goes from u to v, from a number on. Before the run of u no arc starts at u, nor from the first one on after it that starts elsewhere, so a walk
-- of the run finds it. What is found is such an arc; and an arc before which none comes to its end is found where it is looked for by its own two nodes.
use mathlib.Core.Path.{◌≡◌, refl, sym, ap, ◌∙◌}
use mathlib.Core.Bool.{Bool, true, false, ◌&&◌}
use mathlib.Core.List.{List}
use mathlib.Core.Logic.{⊎_elim}
use Prim.Native.Nat.{ℕ, ◌+◌, ◌-◌, ◌≤◌, ◌<◌, max}
use native.Mathlib.Omega.{arith}
use lib.Dec.{eqb}
use borrow.Author.Tests.{eqb-true, eq-eqb, ne_eqb}
use Rattle.lists.specs.Index.{first_at}
use Rattle.lists.proofs.Cases.{order}
use Rattle.lists.proofs.IndexLaws.{first_done, first_step, first-stop, first-ge, first-le, first-is, first_below, first-at}
use Rattle.table.specs.Table.{records, from_at, to_at}
use Rattle.table.specs.Fault.{table_fault, good}
use Rattle.table.specs.Run.{run_start}
use Rattle.table.proofs.RunLaws.{run-le, run-to, run_is, run-has}
use Rattle.second.specs.Find.{goes, next_from}

pub and-true : (x y : Bool) → (x && y) ≡ true → (x ≡ true) × (y ≡ true)
and-true true y h = (refl, h)
and-true false y h = let z : ◌≡◌ {A = ℕ} 0 1 = cc in absurd (omega arith)

pub and-false : (x y : Bool) → y ≡ false → (x && y) ≡ false
and-false true y h = h
and-false false y h = refl

module _ (t : List ℕ) (u v : ℕ) where
  goes-i : (a : ℕ) → from_at t a ≡ u → to_at t a ≡ v → goes t u v a ≡ true
  goes-i a p q = rw (eq-eqb (from_at t a) u p) (eq-eqb (to_at t a) v q)

  goes-e : (a : ℕ) → goes t u v a ≡ true → (from_at t a ≡ u) × (to_at t a ≡ v)
  goes-e a h = let k = and-true (eqb (from_at t a) u) (eqb (to_at t a) v) h in (eqb-true _ _ k.0, eqb-true _ _ k.1)

  other-start : (a : ℕ) → (from_at t a ≡ u → ⊥) → goes t u v a ≡ false
  other-start a ne = rw (ne_eqb (from_at t a) u ne)

  other-end : (a : ℕ) → (to_at t a ≡ v → ⊥) → goes t u v a ≡ false
  other-end a ne = and-false (eqb (from_at t a) u) (eqb (to_at t a) v) (ne_eqb (to_at t a) v ne)

  -- ---- a walk from a on

  pub next-done : (a : ℕ) → a ≡ records t → next_from t u v a ≡ records t
  unfolding next_from
  next-done a h = first_done (goes t u v) (records t) a h

  pub next_here : (a : ℕ) → a < records t → from_at t a ≡ u → to_at t a ≡ v → next_from t u v a ≡ a
  unfolding next_from
  next_here a h p q = first-stop (goes t u v) (records t) a h (goes-i a p q)

  pub next-on : (a : ℕ) → a < records t → (to_at t a ≡ v → ⊥) → next_from t u v a ≡ next_from t u v (a + 1)
  unfolding next_from
  next-on a h ne = first_step (goes t u v) (records t) a h (other-end a ne)

  -- ---- what is found

  pub next_le : (lo : ℕ) → lo ≤ records t → next_from t u v lo ≤ records t
  unfolding next_from
  next_le lo h = omega (arith, first-le (goes t u v) (records t - lo) lo)

  pub next-e : (lo : ℕ) → lo ≤ records t → next_from t u v lo < records t → (from_at t (next_from t u v lo) ≡ u) × (to_at t (next_from t u v lo) ≡ v) × (lo ≤ next_from t u v lo)
  unfolding next_from
  next-e lo h k =
      let w = goes-e (next_from t u v lo) (first-at (goes t u v) (records t - lo) lo (omega arith)) in
      (w.0, w.1, first-ge (goes t u v) (records t - lo) lo)

  -- an arc before which none comes to v
  pub next-is : (lo a : ℕ) → lo ≤ a → a < records t → from_at t a ≡ u → to_at t a ≡ v → ((i : ℕ) → lo ≤ i → i < a → to_at t i ≡ v → ⊥) → next_from t u v lo ≡ a
  unfolding next_from
  next-is lo a h k p q none = first-is (goes t u v) (records t - lo) lo a h (omega arith) (λ i x y. other-end i (none i x y)) (λ x. goes-i a p q)

  -- ---- only the run of u is walked

  -- nothing before it
  pub next-run : (lo : ℕ) → lo < run_start t u → next_from t u v lo ≡ next_from t u v (run_start t u)
  unfolding next_from
  next-run lo h =
      let s = run_start t u in
      let p = goes t u v in
      let n = records t in
      let r = first_at p (n - s) s in
      let e : lo + (n - lo) ≡ s + (n - s) = omega (arith, run-le t u) in
      first-is p (n - lo) lo r (omega (arith, first-ge p (n - s) s)) (omega (arith, first-le p (n - s) s))
      (λ i x y. ⊎_elim (λ w. first_below p (n - s) s i w y) (λ w. other-start i (λ z. omega (arith, run-to t u i (omega arith)))) (order s i))
      (λ x. first-at p (n - s) s (omega arith))

  -- so it may begin there
  pub next-max : (lo : ℕ) → next_from t u v (max lo (run_start t u)) ≡ next_from t u v lo
  next-max lo =
      let m = max lo (run_start t u) in
      ⊎_elim
      (λ w. let e : m ≡ lo = omega arith in ap (next_from t u v) e)
      (λ w. let e : m ≡ run_start t u = omega arith in ap (next_from t u v) e ∙ sym (next-run lo w))
      (order (run_start t u) lo)

  -- nothing from the first on that starts elsewhere
  pub next-left : (nodes : ℕ) → table_fault nodes t ≡ good → (a : ℕ) → run_start t u ≤ a → a < records t → (from_at t a ≡ u → ⊥) → next_from t u v a ≡ records t
  unfolding next_from
  next-left nodes ok a h k ne =
      first-is (goes t u v) (records t - a) a (records t) (omega arith) (omega arith)
      (λ i x y. other-start i (λ z. ne (run_is nodes t ok u a h (omega (arith, (run-has nodes t ok u i y z).1)))))
      (λ x. absurd (omega arith))
