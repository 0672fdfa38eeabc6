-- The parts of a route, part after part. That n parts are enough is settled by the number of arcs that are left (`enough`); so a turn takes the first six arcs, and what is
-- left has the parts from the next on (`left_step`). A route of m arcs has (m + 5) / 6 parts.
use mathlib.Core.Path.{◌≡◌, refl, ap, ap₂, ◌∙◌}
use mathlib.Core.List.{List, [], ◌∷◌, ◌++◌}
use Prim.Native.Nat.{ℕ, zero, suc, ◌+◌, ◌-◌, ◌≤◌, ◌<◌}
use native.Mathlib.Omega.{arith}
use lib.ListN.{length, take, drop, length-append, length-take, length-drop}
use Rattle.plan_record.specs.Record.{part_arcs, Row}
use Rattle.plan_store.specs.Store.{parts_from, parts_of}
use Rattle.plan_store.specs.Placing.{parts_left, part_count, needed_for}

module _ (plan rank : ℕ) where
  enough : (m n part : ℕ) (arcs : List ℕ) → length arcs ≤ m → length arcs ≤ n → parts_from m plan rank part arcs ≡ parts_from n plan rank part arcs
  unfolding parts_from
  enough zero zero part arcs h k = refl
  enough zero (suc n) part [] h k = refl
  enough zero (suc n) part (a ∷ arcs) h k = absurd (omega arith)
  enough (suc m) zero part [] h k = refl
  enough (suc m) zero part (a ∷ arcs) h k = absurd (omega arith)
  enough (suc m) (suc n) part [] h k = refl
  enough (suc m) (suc n) part (a ∷ arcs) h k =
      let less : length (drop part_arcs (a ∷ arcs)) ≡ length (a ∷ arcs) - part_arcs = length-drop part_arcs (a ∷ arcs) in
      ap {B = List Row} (λ l. record { plan = plan; rank = rank; part = part; arcs = take part_arcs (a ∷ arcs) } ∷ l)
      (enough m n (part + 1) (drop part_arcs (a ∷ arcs)) (omega arith) (omega arith))

  pub left-done : (part : ℕ) (arcs : List ℕ) → length arcs ≤ 0 → parts_left plan rank part arcs ≡ []
  unfolding parts_from
  left-done part [] h = refl
  left-done part (a ∷ arcs) h = absurd (omega arith)

  pub left_step : (part : ℕ) (arcs : List ℕ) → 0 < length arcs
      → parts_left plan rank part arcs ≡ record { plan = plan; rank = rank; part = part; arcs = take part_arcs arcs } ∷ parts_left plan rank (part + 1) (drop part_arcs arcs)
  unfolding parts_from
  left_step part [] h = absurd (omega arith)
  left_step part (a ∷ arcs) h =
      let less : length (drop part_arcs (a ∷ arcs)) ≡ length (a ∷ arcs) - part_arcs = length-drop part_arcs (a ∷ arcs) in
      ap {B = List Row} (λ l. record { plan = plan; rank = rank; part = part; arcs = take part_arcs (a ∷ arcs) } ∷ l)
      (enough (length arcs) (length (drop part_arcs (a ∷ arcs))) (part + 1) (drop part_arcs (a ∷ arcs)) (omega arith) (omega arith))

  -- ---- how many there are

  length_from : (n part : ℕ) (arcs : List ℕ) → length arcs ≤ n → length (parts_from n plan rank part arcs) ≡ part_count arcs
  unfolding parts_from
  length_from zero part [] h = refl
  length_from zero part (a ∷ arcs) h = absurd (omega arith)
  length_from (suc n) part [] h = refl
  length_from (suc n) part (a ∷ arcs) h =
      let less : length (drop part_arcs (a ∷ arcs)) ≡ length (a ∷ arcs) - part_arcs = length-drop part_arcs (a ∷ arcs) in
      omega (arith, length_from n (part + 1) (drop part_arcs (a ∷ arcs)) (omega arith))

pub length-parts : (plan rank : ℕ) (ps : List (List ℕ)) → length (parts_of plan rank ps) ≡ needed_for ps
unfolding parts_of needed_for
length-parts plan rank [] = refl
length-parts plan rank (p ∷ ps) =
    length-append (parts_left plan rank 0 p) (parts_of plan (rank + 1) ps)
    ∙ ap₂ ◌+◌ (length_from plan rank (length p) 0 p (omega arith)) (length-parts plan (rank + 1) ps)

-- ---- each is of the plan, and has six arcs at most

abbrev pub Fit : ℕ → List Row → Type 0
Fit plan [] = Unit
Fit plan (x ∷ xs) = (x.plan ≡ plan) × (length x.arcs ≤ part_arcs) × Fit plan xs

fit_append : (plan : ℕ) (xs ys : List Row) → Fit plan xs → Fit plan ys → Fit plan (xs ++ ys)
fit_append plan [] ys h k = k
fit_append plan (x ∷ xs) ys h k = (h.0, h.1, fit_append plan xs ys h.2 k)

pub take_part : (arcs : List ℕ) → length (take part_arcs arcs) ≤ part_arcs
take_part arcs = omega (arith, length-take part_arcs arcs)

pub fit-from : (plan rank n part : ℕ) (arcs : List ℕ) → Fit plan (parts_from n plan rank part arcs)
unfolding parts_from
fit-from plan rank zero part arcs = tt
fit-from plan rank (suc n) part [] = tt
fit-from plan rank (suc n) part (a ∷ arcs) = (refl, take_part (a ∷ arcs), fit-from plan rank n (part + 1) (drop part_arcs (a ∷ arcs)))

pub fit_parts : (plan rank : ℕ) (ps : List (List ℕ)) → Fit plan (parts_of plan rank ps)
unfolding parts_of
fit_parts plan rank [] = tt
fit_parts plan rank (p ∷ ps) = fit_append plan (parts_left plan rank 0 p) (parts_of plan (rank + 1) ps) (fit-from plan rank (length p) 0 p) (fit_parts plan (rank + 1) ps)
