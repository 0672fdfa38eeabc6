-- A plan stands in a sound file exactly if it has a route. A record that is not the first part of the first rank comes after one of the part before it, or after
-- one of the rank before it: so by the parts and then by the ranks there is a way down to that first part, and with it a first route. And a route needs a part.
use mathlib.Core.Path.{◌≡◌, refl, sym, ◌∙◌}
use mathlib.Core.Bool.{true, false, ◌&&◌, cond}
use mathlib.Core.List.{List, [], ◌∷◌}
use mathlib.Core.Logic.{◌≢◌, ◌⊎◌, inl, inr, ⊎_elim, ◌↔◌}
use Prim.Native.Nat.{ℕ, zero, suc, ◌+◌, ◌-◌, ◌<◌}
use native.Mathlib.Omega.{arith}
use lib.Dec.{eqb}
use borrow.Author.Tests.{eqb-true, eqb-false, eq-eqb, ne_eqb}
use Rattle.lists.proofs.Cases.{cases}
use Rattle.net.specs.Limits.{most_routes}
use Rattle.plan_record.specs.Record.{records, plan_at, rank_at, used_at, part_at, part_arcs}
use Rattle.plan_file.specs.File.{follows}
use Rattle.plan_file.specs.Meaning.{has_part, place_of, route_of, routes_from, plan_in, has_plan}
use Rattle.plan_file.proofs.EachLaws.{clash, untrue, and-true, any-one, one-any}
use Rattle.plan_file.proofs.SoundLaws.{is-part-e, is-part-i, Sound}
use Rattle.plan_file.proofs.SameLaws.{place_in, place_is, part-there, routes-step, routes-stop}

-- ---- what it is to come after a record

module _ (f : List ℕ) (i j : ℕ) where
  -- of its own rank and the part before, or of the rank before
  abbrev pub After : Type 0
  After =
      ((part_at f i ≡ 0) × (rank_at f j + 1 ≡ rank_at f i))
      ⊎ ((part_at f i ≢ 0) × (rank_at f j ≡ rank_at f i) × (part_at f j + 1 ≡ part_at f i) × (used_at f j ≡ part_arcs))

  pub follows-e : follows f i j ≡ true → (plan_at f j ≡ plan_at f i) × After
  follows-e h =
      let before = eqb (rank_at f j + 1) (rank_at f i) in
      let here = eqb (rank_at f j) (rank_at f i) && (eqb (part_at f j + 1) (part_at f i) && eqb (used_at f j) part_arcs) in
      let w = and-true (eqb (plan_at f j) (plan_at f i)) (cond (eqb (part_at f i) 0) before here) h in (
        eqb-true (plan_at f j) (plan_at f i) w.0,
        ⊎_elim
            (λ e. inl (eqb-true (part_at f i) 0 e, eqb-true (rank_at f j + 1) (rank_at f i) (rw e at w.1)))
            (λ e.
            let u = and-true (eqb (rank_at f j) (rank_at f i)) (eqb (part_at f j + 1) (part_at f i) && eqb (used_at f j) part_arcs) (rw e at w.1) in
            let v = and-true (eqb (part_at f j + 1) (part_at f i)) (eqb (used_at f j) part_arcs) u.1 in
            inr
            (eqb-false (part_at f i) 0 e, eqb-true (rank_at f j) (rank_at f i) u.0, eqb-true (part_at f j + 1) (part_at f i) v.0, eqb-true (used_at f j) part_arcs v.1))
            (cases (eqb (part_at f i) 0)),
      )

  pub follows-i : plan_at f j ≡ plan_at f i → After → follows f i j ≡ true
  follows-i e (inl w) = rw (eq-eqb (plan_at f j) (plan_at f i) e, eq-eqb (part_at f i) 0 w.0, eq-eqb (rank_at f j + 1) (rank_at f i) w.1)
  follows-i e (inr w) =
      rw (eq-eqb (plan_at f j) (plan_at f i) e, ne_eqb (part_at f i) 0 w.0)
      (rw (eq-eqb (rank_at f j) (rank_at f i) w.1, eq-eqb (part_at f j + 1) (part_at f i) w.2, eq-eqb (used_at f j) part_arcs w.3))

-- ---- the way down

-- some record is this part of this rank of the plan
abbrev pub Stands : List ℕ → ℕ → ℕ → ℕ → Type 0
Stands f plan rank part = (i : ℕ) × (i < records f) × (plan_at f i ≡ plan) × (rank_at f i ≡ rank) × (part_at f i ≡ part)

module _ (f : List ℕ) (plan rank part : ℕ) where
  pub stands-e : Stands f plan rank part → has_part f plan rank part ≡ true
  stands-e w = part-there f plan rank part w.0 w.1 (is-part-i f plan rank part w.0 w.2 w.3 w.4)

  abbrev pub stands-i : has_part f plan rank part ≡ true → Stands f plan rank part
  stands-i h =
      let i = place_of f plan rank part in
      let w = is-part-e f plan rank part i (place_is f plan rank part h) in
      (i, place_in f plan rank part h, w.0, w.1, w.2)

module _ (f : List ℕ) (s : Sound f) (plan : ℕ) (some : plan ≢ 0) where
  comes-after : (rank part : ℕ) (w : Stands f plan rank part) → (rank ≡ 0 → part ≡ 0 → ⊥) → (j : ℕ) × (j < records f) × (plan_at f j ≡ plan) × After f w.0 j
  comes-after rank part w other =
      ⊎_elim
      (λ e. absurd (other (sym w.3 ∙ e.0) (sym w.4 ∙ e.1)))
      (λ v. let u = follows-e f w.0 v.0 v.2 in (v.0, v.1, u.0 ∙ w.2, u.1))
      (s.linked w.0 w.1 (λ z. some (sym w.2 ∙ z)))

  before-part : (rank part : ℕ) → Stands f plan rank (suc part) → Stands f plan rank part
  before-part rank part w =
      let v = comes-after rank (suc part) w (λ a b. omega arith) in
      ⊎_elim
      (λ a. absurd (omega (arith, w.4, a.0)))
      (λ a. (v.0, v.1, v.2, a.1 ∙ w.3, omega (arith, w.4, a.2)))
      v.3

  before-rank : (rank : ℕ) → Stands f plan (suc rank) 0 → (part : ℕ) × Stands f plan rank part
  before-rank rank w =
      let v = comes-after (suc rank) 0 w (λ a b. omega arith) in
      ⊎_elim
      (λ a. (part_at f v.0, (v.0, v.1, v.2, omega (arith, w.3, a.1), refl)))
      (λ a. absurd (a.0 w.4))
      v.3

  down-part : (rank part : ℕ) → Stands f plan rank part → Stands f plan rank 0
  down-part rank zero w = w
  down-part rank (suc part) w = down-part rank part (before-part rank part w)

  down-rank : (rank : ℕ) → Stands f plan rank 0 → Stands f plan 0 0
  down-rank zero w = w
  down-rank (suc rank) w = let v = before-rank rank w in down-rank rank (down-part rank v.0 v.1)

  -- any record of the plan leads to the first part of its first rank
  pub first-there : (i : ℕ) → i < records f → plan_at f i ≡ plan → Stands f plan 0 0
  first-there i b e = down-rank (rank_at f i) (down-part (rank_at f i) (part_at f i) (i, b, e, refl, refl))

-- ---- a plan in the file

module _ (f : List ℕ) (plan : ℕ) where
  pub has-plan-e : has_plan f plan ≡ true → (i : ℕ) × (i < records f) × (plan_at f i ≡ plan)
  unfolding has_plan
  has-plan-e h =
      let w = any-one (λ i. eqb (plan_at f i) plan) 0 (records f) h in
      (w.0, omega (arith, w.2), eqb-true (plan_at f w.0) plan w.3)

  pub has-plan-i : (i : ℕ) → i < records f → plan_at f i ≡ plan → has_plan f plan ≡ true
  unfolding has_plan
  has-plan-i i b e = one-any (λ i. eqb (plan_at f i) plan) 0 (records f) i (omega arith) (omega arith) (eq-eqb (plan_at f i) plan e)

  -- absent: no record is of the plan, and it has no route
  pub absent-e : has_plan f plan ≡ false → (i : ℕ) → i < records f → plan_at f i ≢ plan
  absent-e h i b e = clash (has_plan f plan) (has-plan-i i b e) h

  pub absent-i : ((i : ℕ) → i < records f → plan_at f i ≢ plan) → has_plan f plan ≡ false
  absent-i h = untrue (has_plan f plan) (λ t. let w = has-plan-e t in h w.0 w.1 w.2)

  pub absent_none : has_plan f plan ≡ false → plan_in f plan ≡ []
  unfolding plan_in
  absent_none h = routes-stop f plan most_routes 0 (untrue (has_part f plan 0 0) (λ t. let w = stands-i f plan 0 0 t in absent-e h w.0 w.1 w.2))

  pub there-some : Sound f → plan ≢ 0 → has_plan f plan ≡ true → (p : List ℕ) × (ps : List (List ℕ)) × (plan_in f plan ≡ p ∷ ps)
  unfolding plan_in
  there-some s some h =
      let w = has-plan-e h in
      (route_of f plan 0, routes_from (most_routes - 1) f plan 1, routes-step f plan (most_routes - 1) 0 (stands-e f plan 0 0 (first-there f s plan some w.0 w.1 w.2)))

  pub there-exactly : Sound f → plan ≢ 0 → (has_plan f plan ≡ true) ↔ (plan_in f plan ≢ [])
  there-exactly s some = (
    λ h z.
        let w = there-some s some h in
        let e : ◌≡◌ {A = ℕ} 0 1 = cc w.2 in
        omega arith,
    λ ne. ⊎_elim (λ t. t) (λ e. absurd (ne (absent_none e))) (cases (has_plan f plan)),
  )
