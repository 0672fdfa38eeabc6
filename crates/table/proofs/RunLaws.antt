-- Runs. `run_start t v` is the first record that starts at v or above, so one search serves both ends of a run. In a good table start nodes never fall, so
-- all before it start below v and all from it on at v or above: v's run has the records that start at v, and no others. `next_arc` is the same search
-- for an arc that is usable.
use mathlib.Core.Path.{◌≡◌, ap, ◌∙◌}
use mathlib.Core.Bool.{Bool, true, false}
use mathlib.Core.List.{List, []}
use mathlib.Core.Logic.{◌↔◌, ⊎_elim}
use Prim.Native.Nat.{ℕ, zero, suc, ◌+◌, ◌-◌, ◌*◌, ◌≤◌, ◌<◌}
use native.Mathlib.Nat.{add-zero}
use native.Mathlib.Omega.{arith}
use lib.Dec.{T, leb, eqb}
use lib.ListN.{length, drop, length-take, length-drop}
use borrow.Author.Tests.{leb-true, leb-false, le-leb, lt-ltb, le-ltb, ne_eqb}
use Rattle.lists.proofs.Cases.{cases, order}
use Rattle.lists.proofs.IndexLaws.{first-ge, first-le, first_below, first-at, first-mono}
use Rattle.words.specs.Number.{num}
use Rattle.words.proofs.RecordLaws.{num-take, num-drop}
use Rattle.net.specs.Route.{leaves}
use Rattle.net.proofs.Chains.{Leaves, leaves-e, leaves-i}
use Rattle.table.specs.Table.{records, from_at, arc_at, net_of}
use Rattle.table.specs.Fault.{prev_of, table_fault, good}
use Rattle.table.specs.Run.{run_start, run_of, arcs_from, next_arc}
use Rattle.table.proofs.FaultLaws.{all-good, prev-step}
use Rattle.table.proofs.NetLaws.{arcs-length, arc-is}

-- record i starts at v or above
abbrev starts_from : List ℕ → ℕ → ℕ → Bool
starts_from t v i = leb v (from_at t i)

module _ (t : List ℕ) (v : ℕ) where
  pub run-le : run_start t v ≤ records t
  unfolding run_start
  run-le = omega (arith, first-le (starts_from t v) (records t) 0)

  pub run-mono : run_start t v ≤ run_start t (v + 1)
  unfolding run_start
  run-mono =
      first-mono (starts_from t v) (starts_from t (v + 1)) (records t) 0
      (λ j e. le-leb v (from_at t j) (omega (arith, leb-true (v + 1) (from_at t j) e)))

  -- the run starts no later than a record that starts at v or above
  pub run-to : (i : ℕ) → v ≤ from_at t i → run_start t v ≤ i
  unfolding run_start
  run-to i h =
      ⊎_elim (λ w. w)
      (λ w. absurd (omega (arith, leb-false v (from_at t i) (first_below (starts_from t v) (records t) 0 i (omega arith) w))))
      (order (run_start t v) i)

module _ (nodes : ℕ) (t : List ℕ) (ok : table_fault nodes t ≡ good) where
  -- records stand in order of start node, at any distance
  in_order : (d i : ℕ) → i + d < records t → from_at t i ≤ from_at t (i + d)
  in_order zero i h = rw (add-zero i) (omega arith)
  in_order (suc d) i h =
      let e : i + suc d ≡ i + d + 1 = omega arith in
      let g : prev_of t (i + d + 1) ≤ from_at t (i + d + 1) = (all-good nodes t ok (i + d + 1) (omega arith)).sorted in
      rw e (omega (arith, in_order d i (omega arith), prev-step t (i + d), g))

  -- from a run's start on, records start at v or above
  run-from : (v i : ℕ) → i < records t → run_start t v ≤ i → v ≤ from_at t i
  unfolding run_start
  run-from v i h w =
      let m = run_start t v in
      let k : m + (i - m) ≡ i = omega arith in
      let up : from_at t m ≤ from_at t (m + (i - m)) = in_order (i - m) m (omega arith) in
      omega (arith, rw k at up, leb-true v (from_at t m) (first-at (starts_from t v) (records t) 0 (omega arith)))

  -- the run starts after each record that starts below v
  pub run_past : (v i : ℕ) → i < records t → from_at t i < v → i < run_start t v
  run_past v i h g = ⊎_elim (λ w. absurd (omega (arith, run-from v i h w))) (λ w. w) (order (run_start t v) i)

  -- a record of the run of v starts at v
  pub run_is : (v i : ℕ) → run_start t v ≤ i → i < run_start t (v + 1) → from_at t i ≡ v
  unfolding run_start
  run_is v i a b =
      let h : i < records t = omega (arith, run-le t (v + 1)) in
      omega (arith, run-from v i h a, leb-false (v + 1) (from_at t i) (first_below (starts_from t (v + 1)) (records t) 0 i (omega arith) b))

  -- a record that starts at v is one of the run of v
  pub run-has : (v i : ℕ) → i < records t → from_at t i ≡ v → (run_start t v ≤ i) × (i < run_start t (v + 1))
  run-has v i h e = (run-to t v i (omega arith), run_past (v + 1) i h (omega arith))

  pub leaves_run : (v a : ℕ) → T (leaves (net_of nodes t []) v a) ↔ ((run_start t v ≤ a) × (a < run_start t (v + 1)))
  leaves_run v a = (λ h. inside (leaves-e (net_of nodes t []) v a h), λ w. leaves-i (net_of nodes t []) v a (outside w.0 w.1))
    where
      inside : Leaves (net_of nodes t []) v a → (run_start t v ≤ a) × (a < run_start t (v + 1))
      inside l =
          let h : a < records t = omega (arith, arcs-length t, l.is-arc) in
          run-has v a h (rw (arc-is t a h) at l.starts)

      outside : run_start t v ≤ a → a < run_start t (v + 1) → Leaves (net_of nodes t []) v a
      outside p q =
          let h : a < records t = omega (arith, run-le t (v + 1)) in
          record { is-arc = omega (arith, arcs-length t); is-usable = tt; starts = rw (arc-is t a h) (run_is v a p q) }

-- ---- the part that is handed out

module _ (t : List ℕ) (v : ℕ) where
  -- it has as many records as the run
  pub run-records : records (run_of t v) ≡ run_start t (v + 1) - run_start t v
  unfolding run_of
  run-records =
      let h : run_start t (v + 1) * 16 ≤ length t = omega (arith, run-le t (v + 1)) in
      simp (length-take, length-drop) (omega (arith, run-mono t v))

  -- a field of its record j is that of the table's record j after the run's start
  run-field : (o j : ℕ) → o + 4 ≤ 16 → j < records (run_of t v) → num 4 (run_of t v) (j * 16 + o) ≡ num 4 t ((run_start t v + j) * 16 + o)
  unfolding run_of
  run-field o j w h =
      let n = run_start t (v + 1) * 16 - run_start t v * 16 in
      let m = run_start t v * 16 in
      let at : m + (j * 16 + o) ≡ (run_start t v + j) * 16 + o = omega arith in
      num-take 4 n (drop m t) (j * 16 + o) (omega (arith, run-records)) ∙ num-drop 4 m t (j * 16 + o) ∙ ap (num 4 t) at

  pub run-arc : (j : ℕ) → j < records (run_of t v) → arc_at (run_of t v) j ≡ arc_at t (run_start t v + j)
  run-arc j h = cc (run-field 0 j (omega arith) h, run-field 4 j (omega arith) h, run-field 8 j (omega arith) h)

module _ (nodes : ℕ) (t : List ℕ) (v : ℕ) where
  pub arcs-run : table_fault nodes t ≡ good → v < nodes → arcs_from nodes t v ≡ run_of t v
  unfolding arcs_from
  arcs-run ok h = rw (ok, lt-ltb v nodes h)

  -- an empty part for a table with a fault
  pub arcs-faulty : ((table_fault nodes t).outcome ≡ 0 → ⊥) → arcs_from nodes t v ≡ []
  unfolding arcs_from
  arcs-faulty h = rw (ne_eqb (table_fault nodes t).outcome 0 h)

  -- and for what is no node
  pub arcs-past : nodes ≤ v → arcs_from nodes t v ≡ []
  unfolding arcs_from
  arcs-past h = rw (le-ltb v nodes h) (⊎_elim (λ e. rw e) (λ e. rw e) (cases (eqb (table_fault nodes t).outcome 0)))

-- ---- the next arc of a run

module _ (usable : ℕ → Bool) (a e : ℕ) (h : a ≤ e) where
  pub next-ge : a ≤ next_arc usable a e
  unfolding next_arc
  next-ge = first-ge usable (e - a) a

  pub next_le : next_arc usable a e ≤ e
  unfolding next_arc
  next_le = omega (arith, first-le usable (e - a) a)

  pub next-passes : next_arc usable a e < e → usable (next_arc usable a e) ≡ true
  unfolding next_arc
  next-passes w = first-at usable (e - a) a (omega arith)

  pub next-skips : (j : ℕ) → a ≤ j → j < next_arc usable a e → usable j ≡ false
  unfolding next_arc
  next-skips j p q = first_below usable (e - a) a j p q
