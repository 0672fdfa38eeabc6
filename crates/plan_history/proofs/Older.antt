-- A test with a lower limit passes only what the test with a higher one passes, so what was in form under lower limits is in form (`right_kept`). A file in form has no
-- rank at the limit, so a plan's routes end before it, and looking further finds no more (`plan-kept`).
use mathlib.Core.Path.{◌≡◌, refl, sym, ap, ◌∙◌}
use mathlib.Core.Bool.{Bool, true, false, not, ◌&&◌, ◌||◌, cond}
use mathlib.Core.List.{List, [], ◌∷◌}
use mathlib.Core.Logic.{◌≢◌, ◌⊎◌, ⊎_elim}
use Prim.Native.Nat.{ℕ, zero, suc, ◌+◌, ◌%◌, ◌≤◌, ◌<◌}
use native.Mathlib.Omega.{arith}
use lib.Dec.{ltb, leb, eqb}
use lib.ListN.{length}
use borrow.Author.Tests.{ltb-true, lt-ltb, ne_eqb, not-false}
use Rattle.lists.specs.Tests.{up_from, every, any}
use Rattle.lists.proofs.Cases.{cases}
use Rattle.net.specs.Limits.{most_routes, most_arcs}
use Rattle.labels.specs.Field.{no_number}
use Rattle.plan_record.specs.Record.{record_bytes, records, plan_at, rank_at, used_at, arc_at, part_arcs, blank, formed_arc, formed_use, formed}
use Rattle.plan_file.specs.File.{is_double, has_gap, wrong_at, wrong_file}
use Rattle.plan_file.specs.Meaning.{place_of, has_part, route_of, routes_from, plan_in}
use Rattle.plan_file.proofs.EachLaws.{and-true, or-false, untrue, any_none, none_any}
use Rattle.plan_file.proofs.SameLaws.{routes-step, routes-stop}
use Rattle.plan_file.proofs.MeaningLaws.{has-part-e}
use Rattle.plan_history.specs.Older.{formed_arc_to, formed_use_to, formed_to, wrong_at_to, wrong_file_to, plan_to, older_routes, older_arcs, ReadsAsItDid}

-- ---- the limits of today

pub today-wrong : (f : List ℕ) → wrong_file_to most_routes most_arcs f ≡ wrong_file f
unfolding wrong_file_to wrong_file
today-wrong f = refl

pub today-plan : (f : List ℕ) (plan : ℕ) → plan_to most_routes f plan ≡ plan_in f plan
unfolding plan_to plan_in
today-plan f plan = refl

-- ---- a test that passes where another does

every-raised : (p q : ℕ → Bool) → ((x : ℕ) → p x ≡ true → q x ≡ true) → (xs : List ℕ) → every p xs ≡ true → every q xs ≡ true
unfolding every
every-raised p q k [] h = refl
every-raised p q k (x ∷ xs) h =
    let w = and-true (p x) (every p xs) h in
    rw (k x w.0, every-raised p q k xs w.1)

below_raised : (x n m : ℕ) → n ≤ m → ltb x n ≡ true → ltb x m ≡ true
below_raised x n m h e = lt-ltb x m (omega (arith, ltb-true x n e))

cond-raised : (b x y z : Bool) → (x ≡ true → y ≡ true) → cond b x z ≡ true → cond b y z ≡ true
cond-raised true x y z k h = k h
cond-raised false x y z k h = h

other-raised : (b x y z : Bool) → (x ≡ true → y ≡ true) → cond b z x ≡ true → cond b z y ≡ true
other-raised true x y z k h = h
other-raised false x y z k h = k h

-- ---- a file of lower limits

module _ (routes arcs : ℕ) (fewer : routes ≤ most_routes) (lower : arcs ≤ most_arcs) (f : List ℕ) where
  arc-kept : (i j : ℕ) → formed_arc_to arcs f i j ≡ true → formed_arc f i j ≡ true
  unfolding formed_arc_to formed_arc
  arc-kept i j h =
      cond-raised (ltb j (used_at f i)) (ltb (arc_at f i j) arcs) (ltb (arc_at f i j) most_arcs) (eqb (arc_at f i j) no_number)
      (below_raised (arc_at f i j) arcs most_arcs lower) h

  use-e : (i : ℕ) → formed_use_to routes arcs f i ≡ true
      → (ltb (rank_at f i) routes ≡ true) × ((leb 1 (used_at f i) && leb (used_at f i) part_arcs) ≡ true) × (every (formed_arc_to arcs f i) (up_from 0 part_arcs) ≡ true)
  unfolding formed_use_to
  use-e i h =
      let used = leb 1 (used_at f i) && leb (used_at f i) part_arcs in
      let w = and-true (ltb (rank_at f i) routes && used) (every (formed_arc_to arcs f i) (up_from 0 part_arcs)) h in
      let v = and-true (ltb (rank_at f i) routes) used w.0 in
      (v.0, v.1, w.1)

  use_kept : (i : ℕ) → formed_use_to routes arcs f i ≡ true → formed_use f i ≡ true
  unfolding formed_use
  use_kept i h =
      let w = use-e i h in
      rw (below_raised (rank_at f i) routes most_routes fewer w.0, w.1, every-raised (formed_arc_to arcs f i) (formed_arc f i) (arc-kept i) (up_from 0 part_arcs) w.2)

  formed-kept : (i : ℕ) → formed_to routes arcs f i ≡ true → formed f i ≡ true
  unfolding formed_to formed
  formed-kept i h = other-raised (eqb (plan_at f i) 0) (formed_use_to routes arcs f i) (formed_use f i) (blank f i) (use_kept i) h

  wrong-e : (i : ℕ) → wrong_at_to routes arcs f i ≡ false
      → (formed_to routes arcs f i ≡ true) × ((not (eqb (plan_at f i) 0) && (is_double f i || has_gap f i)) ≡ false)
  unfolding wrong_at_to
  wrong-e i h =
      let w = or-false (not (formed_to routes arcs f i)) (not (eqb (plan_at f i) 0) && (is_double f i || has_gap f i)) h in
      (not-false (formed_to routes arcs f i) w.0, w.1)

  wrong-kept : (i : ℕ) → wrong_at_to routes arcs f i ≡ false → wrong_at f i ≡ false
  unfolding wrong_at
  wrong-kept i h =
      let w = wrong-e i h in
      rw (formed-kept i w.0, w.1)

  file-e : wrong_file_to routes arcs f ≡ false → (not (eqb (length f % record_bytes) 0) ≡ false) × ((i : ℕ) → i < records f → wrong_at_to routes arcs f i ≡ false)
  unfolding wrong_file_to
  file-e h =
      let w = or-false (not (eqb (length f % record_bytes) 0)) (any (wrong_at_to routes arcs f) (up_from 0 (records f))) h in
      (w.0, λ i b. any_none (wrong_at_to routes arcs f) 0 (records f) i w.1 (omega arith) (omega arith))

  pub right_kept : wrong_file_to routes arcs f ≡ false → wrong_file f ≡ false
  unfolding wrong_file
  right_kept h =
      let w = file-e h in
      rw w.0 (none_any (wrong_at f) 0 (records f) (λ i a b. wrong-kept i (w.1 i (omega arith))))

  -- no record in use has a rank at the limit
  module _ (h : wrong_file_to routes arcs f ≡ false) (plan : ℕ) (some : plan ≢ 0) where
    in_use : (i : ℕ) → i < records f → plan_at f i ≢ 0 → formed_use_to routes arcs f i ≡ true
    unfolding formed_to
    in_use i b ne = rw (ne_eqb (plan_at f i) 0 ne) at (wrong-e i ((file-e h).1 i b)).0

    rank_below : (rank : ℕ) → has_part f plan rank 0 ≡ true → rank < routes
    rank_below rank t =
        let w = has-part-e f plan rank 0 t in
        let i = place_of f plan rank 0 in
        omega (arith, ltb-true (rank_at f i) routes (use-e i (in_use i w.within (λ z. some (sym w.of-plan ∙ z)))).0, w.of-rank)

    -- looking further finds no more
    routes-kept : (m n rank : ℕ) → n ≤ m → has_part f plan (rank + n) 0 ≡ false → routes_from m f plan rank ≡ routes_from n f plan rank
    routes-kept m zero rank le stop =
        let e : rank + 0 ≡ rank = omega arith in
        let s : has_part f plan rank 0 ≡ false = rw e at stop in
        routes-stop f plan m rank s ∙ sym (routes-stop f plan 0 rank s)
    routes-kept zero (suc n) rank le stop = absurd (omega arith)
    routes-kept (suc m) (suc n) rank le stop =
        let e : rank + suc n ≡ rank + 1 + n = omega arith in
        let rest = routes-kept m n (rank + 1) (omega arith) (rw e at stop) in
        ⊎_elim (λ t. routes-step f plan m rank t ∙ ap (λ rs. route_of f plan rank ∷ rs) rest ∙ sym (routes-step f plan n rank t))
        (λ s. routes-stop f plan (suc m) rank s ∙ sym (routes-stop f plan (suc n) rank s)) (cases (has_part f plan rank 0))

    pub plan-kept : plan_in f plan ≡ plan_to routes f plan
    unfolding plan_in plan_to
    plan-kept = routes-kept most_routes routes 0 fewer (untrue (has_part f plan (0 + routes) 0) (λ t. omega (arith, rank_below (0 + routes) t)))

-- ---- files of the limits before

-- "older files read as they did"
pub older-reads : (f : List ℕ) → wrong_file_to older_routes older_arcs f ≡ false → ReadsAsItDid f
older-reads f h = record {
  right = right_kept older_routes older_arcs (omega arith) (omega arith) f h;
  plans = λ plan some. plan-kept older_routes older_arcs (omega arith) (omega arith) f h plan some;
}
