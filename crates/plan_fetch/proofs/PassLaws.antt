-- The two passes before anything is written. A plan's ranks have no gap, so one more than the greatest is their number (`counted_step`, `counted-all`). A route
-- ends with the last arc of its last part, so a route is longer than a width where a record of the plan reaches past it (`narrow-is`).
use mathlib.Core.Path.{◌≡◌, refl, sym, ap, ap₂, ◌∙◌}
use mathlib.Core.Bool.{Bool, true, false, ◌&&◌, cond}
use mathlib.Core.List.{List, []}
use mathlib.Core.Logic.{◌≢◌, ⊎_elim}
use Prim.Native.Nat.{ℕ, ◌+◌, ◌-◌, ◌*◌, ◌/◌, ◌%◌, ◌≤◌, ◌<◌}
use native.Mathlib.Omega.{arith}
use lib.Dec.{ltb, leb, eqb}
use lib.ListN.{length}
use borrow.Author.Tests.{ltb-true, ltb-false, leb-true, leb-false, eqb-true, lt-ltb, le-ltb, eq-eqb}
use Rattle.lists.specs.Tests.{up_from, any}
use Rattle.lists.specs.Index.{tab}
use Rattle.lists.proofs.Cases.{cases, order}
use Rattle.lists.proofs.IndexLaws.{length-tab, get_or-tab}
use Rattle.lists.proofs.LoopLaws.{any_at}
use Rattle.plan_record.specs.Record.{records, plan_at, rank_at, used_at, part_at, part_arcs, arcs_at}
use Rattle.plan_file.specs.Meaning.{place_of, has_part, route_of, plan_in}
use Rattle.plan_file.proofs.EachLaws.{and-true, or-false, same_test, any-one, one-any, any_none}
use Rattle.plan_file.proofs.SoundLaws.{Sound}
use Rattle.plan_file.proofs.MeaningLaws.{has-part-e, rank-there, place-of, used-least, used-most, arcs-length, part_of, absent, route-length, ranked-length, ranked-is, plan-ranked}
use Rattle.plan_fetch.specs.Fetch.{too_small}

-- ---- the number of ranks

-- of the records below i the plan has the ranks below n
pub record Counted (f : List ℕ) (plan i n : ℕ) : Type 0 where
  pub there : (q : ℕ) → q < n → has_part f plan q 0 ≡ true
  pub below : (j : ℕ) → j < i → plan_at f j ≡ plan → rank_at f j < n

pub counted_none : (f : List ℕ) (plan : ℕ) → Counted f plan 0 0
counted_none f plan = record { there = λ q l. absurd (omega arith); below = λ j l e. absurd (omega arith) }

module _ (f : List ℕ) (s : Sound f) (plan : ℕ) (some : plan ≢ 0) where
  pub counted_step : (i n : ℕ) → i < records f → Counted f plan i n → Counted f plan (i + 1) (cond (eqb (plan_at f i) plan && leb n (rank_at f i)) (rank_at f i + 1) n)
  counted_step i n h c =
      ⊎_elim
      (λ e.
      let w = and-true (eqb (plan_at f i) plan) (leb n (rank_at f i)) e in
      rw e (more (eqb-true (plan_at f i) plan w.0) (leb-true n (rank_at f i) w.1)))
      (λ e. rw e (same (λ p. leb-false n (rank_at f i) (rw (eq-eqb (plan_at f i) plan p) at e))))
      (cases (eqb (plan_at f i) plan && leb n (rank_at f i)))
    where
      more : plan_at f i ≡ plan → n ≤ rank_at f i → Counted f plan (i + 1) (rank_at f i + 1)
      more p l =
          record {
            there = λ q k. rank-there f s plan some i q h p (omega arith);
            below = λ j k e. ⊎_elim (λ w. let d : j ≡ i = omega arith in omega (arith, ap (rank_at f) d)) (λ w. omega (arith, c.below j w e)) (order i j);
          }

      same : (plan_at f i ≡ plan → rank_at f i < n) → Counted f plan (i + 1) n
      same l =
          record {
            there = c.there;
            below = λ j k e. ⊎_elim (λ w. let d : j ≡ i = omega arith in omega (arith, ap (rank_at f) d, l (ap (plan_at f) (sym d) ∙ e))) (λ w. c.below j w e) (order i j);
          }

  pub counted-all : (i n : ℕ) → records f ≤ i → Counted f plan i n → n ≡ length (plan_in f plan)
  counted-all i n h c = sym (ranked-length f s plan some n (record { there = c.there; below = λ j l e. c.below j (omega arith) e }))

-- ---- the longest route

-- record i is of the plan, and its arcs reach past so many words
abbrev pub reaches_at : List ℕ → ℕ → ℕ → ℕ → Bool
reaches_at f plan width i = eqb (plan_at f i) plan && ltb width (part_at f i * part_arcs + used_at f i)

any-tab : {A : Type 0} (p : A → Bool) (d : A) (n : ℕ) (g : ℕ → A) → any p (tab n g) ≡ any (λ q. p (g q)) (up_from 0 n)
any-tab p d n g =
    sym (any_at p (λ q. p (g q)) d (tab n g) 0 (λ j l. let e : 0 + j ≡ j = omega arith in ap (λ k. p (g k)) e ∙ ap p (sym (get_or-tab n g j d (omega (arith, length-tab n g))))))
    ∙ ap (λ k. any (λ q. p (g q)) (up_from 0 k)) (length-tab n g)

module _ (f : List ℕ) (s : Sound f) (plan : ℕ) (some : plan ≢ 0) (width : ℕ) where
  -- what a record reaches its route reaches
  record-reaches : (i : ℕ) → i < records f → plan_at f i ≡ plan → width < part_at f i * part_arcs + used_at f i → width < length (route_of f plan (rank_at f i))
  record-reaches i h p l =
      let taken : plan_at f i ≢ 0 = λ z. some (sym p ∙ z) in
      let low = used-least f s i h taken in
      let few = used-most f s i h taken in
      let last = part_at f i * part_arcs + (used_at f i - 1) in
      let a : last / part_arcs ≡ part_at f i = omega arith in
      let b : last % part_arcs ≡ used_at f i - 1 = omega arith in
      let at = place-of f s plan some (record { within = h; of-plan = p; of-rank = refl; of_part = refl }) in
      let e : ltb last (length (route_of f plan (rank_at f i))) ≡ ltb (used_at f i - 1) (length (arcs_at f i)) =
      route-length f s plan some (rank_at f i) last ∙ ap₂ (λ q j. ltb j (length (part_of f plan (rank_at f i) q))) a b ∙ ap (λ k. ltb (used_at f i - 1) (length (arcs_at f k))) at in
      let t = ltb-true last (length (route_of f plan (rank_at f i))) (e ∙ lt-ltb (used_at f i - 1) (length (arcs_at f i)) (omega (arith, arcs-length f i few))) in
      omega arith

  -- what a route reaches a record of it reaches
  route-reaches : (q : ℕ) → width < length (route_of f plan q) → (i : ℕ) × (i < records f) × (plan_at f i ≡ plan) × (width < part_at f i * part_arcs + used_at f i)
  route-reaches q l =
      let arcs = part_of f plan q (width / part_arcs) in
      let t : width % part_arcs < length arcs = ltb-true (width % part_arcs) (length arcs) (sym (route-length f s plan some q width) ∙ lt-ltb width (length (route_of f plan q)) l) in
      let i = place_of f plan q (width / part_arcs) in
      ⊎_elim
      (λ e.
      let w = has-part-e f plan q (width / part_arcs) e in
      let few = used-most f s i w.within (λ z. some (sym w.of-plan ∙ z)) in
      (i, w.within, w.of-plan, omega (arith, arcs-length f i few, w.of_part)))
      (λ e. absurd (omega (arith, ap length (absent f s plan some q (width / part_arcs) e))))
      (cases (has_part f plan q (width / part_arcs)))

  abbrev long : List ℕ → Bool
  long p = ltb width (length p)

  -- by rank
  ranks-long : any long (plan_in f plan) ≡ any (λ q. long (route_of f plan q)) (up_from 0 (length (plan_in f plan)))
  ranks-long = ap (any long) (ranked-is f s plan some (length (plan_in f plan)) (plan-ranked f s plan some)) ∙ any-tab long [] (length (plan_in f plan)) (route_of f plan)

  pub narrow-is : any (reaches_at f plan width) (up_from 0 (records f)) ≡ any long (plan_in f plan)
  narrow-is = same_test (any (reaches_at f plan width) (up_from 0 (records f))) (any (λ q. long (route_of f plan q)) (up_from 0 (length (plan_in f plan)))) there back ∙ sym ranks-long
    where
      there : any (reaches_at f plan width) (up_from 0 (records f)) ≡ true → any (λ q. long (route_of f plan q)) (up_from 0 (length (plan_in f plan))) ≡ true
      there h =
          let w = any-one (reaches_at f plan width) 0 (records f) h in
          let i = w.0 in
          let v = and-true (eqb (plan_at f i) plan) (ltb width (part_at f i * part_arcs + used_at f i)) w.3 in
          let l : i < records f = omega (arith, w.2) in
          let p = eqb-true (plan_at f i) plan v.0 in
          let b = (plan-ranked f s plan some).below i l p in
          one-any (λ q. long (route_of f plan q)) 0 (length (plan_in f plan)) (rank_at f i) (omega arith) (omega arith)
          (lt-ltb width (length (route_of f plan (rank_at f i))) (record-reaches i l p (ltb-true width (part_at f i * part_arcs + used_at f i) v.1)))

      back : any (λ q. long (route_of f plan q)) (up_from 0 (length (plan_in f plan))) ≡ true → any (reaches_at f plan width) (up_from 0 (records f)) ≡ true
      back h =
          let w = any-one (λ q. long (route_of f plan q)) 0 (length (plan_in f plan)) h in
          let v = route-reaches w.0 (ltb-true width (length (route_of f plan w.0)) w.3) in
          one-any (reaches_at f plan width) 0 (records f) v.0 (omega arith) (omega (arith, v.1))
          (rw (eq-eqb (plan_at f v.0) plan v.2, lt-ltb width (part_at f v.0 * part_arcs + used_at f v.0) v.3))

  -- ---- slots that are not too small

  module _ (slots : List ℕ) (h : too_small (plan_in f plan) slots width ≡ false) where
    neither : (any long (plan_in f plan) ≡ false) × (ltb (length slots) (length (plan_in f plan) * width) ≡ false)
    unfolding too_small
    neither = or-false (any long (plan_in f plan)) (ltb (length slots) (length (plan_in f plan) * width)) h

    pub room : length (plan_in f plan) * width ≤ length slots
    room = ltb-false (length slots) (length (plan_in f plan) * width) neither.1

    pub record-fits : (i : ℕ) → i < records f → plan_at f i ≡ plan → part_at f i * part_arcs + used_at f i ≤ width
    record-fits i l p =
        ltb-false width (part_at f i * part_arcs + used_at f i)
        (rw (eq-eqb (plan_at f i) plan p) at (any_none (reaches_at f plan width) 0 (records f) i (narrow-is ∙ neither.0) (omega arith) (omega arith)))

    pub route-fits : (q : ℕ) → q < length (plan_in f plan) → length (route_of f plan q) ≤ width
    route-fits q l =
        ltb-false width (length (route_of f plan q))
        (any_none (λ r. long (route_of f plan r)) 0 (length (plan_in f plan)) q (sym ranks-long ∙ neither.0) (omega arith) (omega arith))

-- ---- whether slots are too small, from the two tests
module _ (routes : List (List ℕ)) (slots : List ℕ) (width : ℕ) where
  pub too-narrow : any (λ p. ltb width (length p)) routes ≡ true → too_small routes slots width ≡ true
  unfolding too_small
  too-narrow h = rw h

  pub too_few : any (λ p. ltb width (length p)) routes ≡ false → length slots < length routes * width → too_small routes slots width ≡ true
  unfolding too_small
  too_few h l = rw (h, lt-ltb (length slots) (length routes * width) l)

  pub large-enough : any (λ p. ltb width (length p)) routes ≡ false → length routes * width ≤ length slots → too_small routes slots width ≡ false
  unfolding too_small
  large-enough h l = rw (h, le-ltb (length slots) (length routes * width) l)
