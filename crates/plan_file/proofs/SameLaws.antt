-- What a file means is told by its parts: `plan_in` asks which parts of a plan stand in the file and reads their arcs, and nothing else, so two files that agree
-- in that mean the same plan. A part stands in the file where some record is that part; in a sound file that one record is its place.
use mathlib.Core.Path.{◌≡◌, refl, sym, ap, ap₂, ◌∙◌}
use mathlib.Core.Bool.{true, false, cond}
use mathlib.Core.List.{List, [], ◌∷◌, ◌++◌}
use mathlib.Core.Logic.{◌≢◌, ⊎_elim}
use Prim.Native.Nat.{ℕ, zero, suc, ◌+◌, ◌<◌}
use native.Mathlib.Omega.{arith}
use borrow.Author.Tests.{lt-ltb, ltb-true}
use Rattle.lists.proofs.Cases.{cases, order}
use Rattle.lists.proofs.IndexLaws.{first-at, first_below}
use Rattle.net.specs.Limits.{most_routes}
use Rattle.plan_record.specs.Record.{records, plan_at, rank_at, part_at, arcs_at}
use Rattle.plan_file.specs.File.{is_part}
use Rattle.plan_file.specs.Meaning.{place_of, has_part, route_from, route_of, routes_from, plan_in}
use Rattle.plan_file.proofs.EachLaws.{clash}
use Rattle.plan_file.proofs.SoundLaws.{is-part-e, is-part-i, Sound}

-- ---- the place of a part

module _ (f : List ℕ) (plan rank part : ℕ) where
  pub place_in : has_part f plan rank part ≡ true → place_of f plan rank part < records f
  unfolding has_part
  place_in h = ltb-true (place_of f plan rank part) (records f) h

  pub place_is : has_part f plan rank part ≡ true → is_part f plan rank part (place_of f plan rank part) ≡ true
  unfolding place_of
  place_is h = first-at (is_part f plan rank part) (records f) 0 (omega (arith, place_in h))

  pub part-there : (i : ℕ) → i < records f → is_part f plan rank part i ≡ true → has_part f plan rank part ≡ true
  unfolding has_part place_of
  part-there i b t =
      let p = is_part f plan rank part in
      lt-ltb (place_of f plan rank part) (records f)
      (⊎_elim (λ h. absurd (clash (p i) t (first_below p (records f) 0 i (omega arith) (omega arith)))) (λ h. h) (order (records f) (place_of f plan rank part)))

  pub place-one : Sound f → plan ≢ 0 → (i : ℕ) → i < records f → is_part f plan rank part i ≡ true → place_of f plan rank part ≡ i
  place-one s some i b t =
      let j = place_of f plan rank part in
      let h = part-there i b t in
      let v = is-part-e f plan rank part i t in
      let w = is-part-e f plan rank part j (place_is h) in
      s.single j i (place_in h) b (λ z. some (sym w.0 ∙ z))
      (is-part-i f (plan_at f j) (rank_at f j) (part_at f j) i (v.0 ∙ sym w.0) (v.1 ∙ sym w.1) (v.2 ∙ sym w.2))

-- ---- turn by turn

module _ (f : List ℕ) (plan : ℕ) where
  pub route-none : (rank part : ℕ) → route_from 0 f plan rank part ≡ []
  unfolding route_from
  route-none rank part = refl

  pub routes-none : (rank : ℕ) → routes_from 0 f plan rank ≡ []
  unfolding routes_from
  routes-none rank = refl

  pub route-step : (n rank part : ℕ) → has_part f plan rank part ≡ true
      → route_from (suc n) f plan rank part ≡ arcs_at f (place_of f plan rank part) ++ route_from n f plan rank (part + 1)
  unfolding route_from
  route-step n rank part h = ap (λ b. cond b (arcs_at f (place_of f plan rank part) ++ route_from n f plan rank (part + 1)) []) h

  pub route-stop : (n rank part : ℕ) → has_part f plan rank part ≡ false → route_from n f plan rank part ≡ []
  unfolding route_from
  route-stop zero rank part h = route-none rank part
  route-stop (suc n) rank part h = ap (λ b. cond b (arcs_at f (place_of f plan rank part) ++ route_from n f plan rank (part + 1)) []) h

  pub routes-step : (n rank : ℕ) → has_part f plan rank 0 ≡ true → routes_from (suc n) f plan rank ≡ route_of f plan rank ∷ routes_from n f plan (rank + 1)
  unfolding routes_from
  routes-step n rank h = ap (λ b. cond b (route_of f plan rank ∷ routes_from n f plan (rank + 1)) []) h

  pub routes-stop : (n rank : ℕ) → has_part f plan rank 0 ≡ false → routes_from n f plan rank ≡ []
  unfolding routes_from
  routes-stop zero rank h = routes-none rank
  routes-stop (suc n) rank h = ap (λ b. cond b (route_of f plan rank ∷ routes_from n f plan (rank + 1)) []) h

-- ---- the same parts

pub record SameParts (f g : List ℕ) (plan : ℕ) : Type 0 where
  pub count : records f ≡ records g
  pub has : (rank part : ℕ) → has_part f plan rank part ≡ has_part g plan rank part
  pub arcs : (rank part : ℕ) → has_part f plan rank part ≡ true → arcs_at f (place_of f plan rank part) ≡ arcs_at g (place_of g plan rank part)

module _ (f g : List ℕ) (plan : ℕ) (s : SameParts f g plan) where
  route-from-same : (n rank part : ℕ) → route_from n f plan rank part ≡ route_from n g plan rank part
  route-from-same zero rank part = route-none f plan rank part ∙ sym (route-none g plan rank part)
  route-from-same (suc n) rank part =
      ⊎_elim
      (λ h.
      route-step f plan n rank part h
      ∙ ap₂ ◌++◌ (s.arcs rank part h) (route-from-same n rank (part + 1))
      ∙ sym (route-step g plan n rank part (sym (s.has rank part) ∙ h)))
      (λ h. route-stop f plan (suc n) rank part h ∙ sym (route-stop g plan (suc n) rank part (sym (s.has rank part) ∙ h)))
      (cases (has_part f plan rank part))

  route-same : (rank : ℕ) → route_of f plan rank ≡ route_of g plan rank
  unfolding route_of
  route-same rank = ap (λ n. route_from n f plan rank 0) s.count ∙ route-from-same (records g) rank 0

  routes-from-same : (n rank : ℕ) → routes_from n f plan rank ≡ routes_from n g plan rank
  routes-from-same zero rank = routes-none f plan rank ∙ sym (routes-none g plan rank)
  routes-from-same (suc n) rank =
      ⊎_elim
      (λ h.
      routes-step f plan n rank h ∙ ap₂ ◌∷◌ (route-same rank) (routes-from-same n (rank + 1))
      ∙ sym (routes-step g plan n rank (sym (s.has rank 0) ∙ h)))
      (λ h. routes-stop f plan (suc n) rank h ∙ sym (routes-stop g plan (suc n) rank (sym (s.has rank 0) ∙ h)))
      (cases (has_part f plan rank 0))

  pub plan-same : plan_in f plan ≡ plan_in g plan
  unfolding plan_in
  plan-same = routes-from-same most_routes 0
