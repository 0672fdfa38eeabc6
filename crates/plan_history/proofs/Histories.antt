-- Over any sequence of calls the file is right and means what a caller expects: an empty file holds no plan, a store, a withdrawal and a collection that answer 0
-- change the meaning as a caller expects, and a call with another answer changes nothing. So a fetch gives the plan last stored and not withdrawn since, or none.
use mathlib.Core.Path.{◌≡◌, refl, sym, ap, subst, ◌∙◌}
use mathlib.Core.Bool.{true, false, not, cond}
use mathlib.Core.List.{List, []}
use mathlib.Core.Logic.{◌≢◌, ◌⊎◌, inl, inr, ⊎_elim}
use Prim.Native.Nat.{ℕ, ◌*◌, ◌<◌}
use native.Mathlib.Omega.{arith}
use native.Mathlib.Decide.{ℕ_discrete}
use lib.Dec.{eqb}
use lib.ListN.{length, replicate, length-replicate}
use borrow.Author.Tests.{eqb-true, eq-eqb, ne_eqb}
use Rattle.lists.proofs.Cases.{cases}
use Rattle.words.specs.Part.{slot}
use Rattle.outcome.specs.declared.Told.{Told}
use Rattle.outcome.specs.Outcome.{found, plan_file, plan_request, plan_there, buffers, plain, beside}
use Rattle.plan_record.specs.Record.{record_bytes, records, plan_at, free}
use Rattle.plan_file.specs.File.{wrong_file}
use Rattle.plan_file.specs.Meaning.{plan_in, has_plan}
use Rattle.plan_file.proofs.SoundLaws.{Sound, sound-e, sound-i}
use Rattle.plan_file.proofs.ThereLaws.{absent-i, absent_none, there-some}
use Rattle.plan_file.proofs.KeptLaws.{sound-plans, sound-absent}
use Rattle.plan_store.specs.Slots.{routes_in}
use Rattle.plan_store.specs.Store.{store_outcome, stored_in, Stored}
use Rattle.plan_fetch.specs.Fetch.{too_small, fetch_outcome, slots_with, Fetched}
use Rattle.plan_change.specs.Change.{withdrawn_in, withdraw_outcome, Withdrawn, collected_in, collect_outcome, Collected}
use Rattle.plan_history.specs.History.{Call, store, withdraw, collect, Fits, Done, after, History, empty, next}
use Rattle.plan_history.proofs.SlotsLaws.{slot-replicate}
use Rattle.plan_history.proofs.RowLaws.{plan-free, formed-free}
use Rattle.plan_history.proofs.Stores.{stores}
use Rattle.plan_history.proofs.Withdraws.{withdraws}
use Rattle.plan_history.proofs.Collects.{collects}

-- the file is right, and each plan in it is the one that the caller expects
pub record Holds (n : ℕ) (f : List ℕ) (plans : ℕ → List (List ℕ)) : Type 0 where
  pub right : wrong_file f ≡ false
  pub long : length f ≡ n * record_bytes
  pub means : (plan : ℕ) → plan ≢ 0 → plan_in f plan ≡ plans plan

-- ---- an empty file

module _ (n : ℕ) where
  nothing : List ℕ
  nothing = replicate (n * record_bytes) 0

  nothing-long : length nothing ≡ n * record_bytes
  unfolding nothing
  nothing-long = length-replicate (n * record_bytes) 0

  nothing-free : (i : ℕ) → i < records nothing → slot record_bytes i nothing ≡ free
  unfolding nothing
  nothing-free i b = slot-replicate record_bytes i n 0 (omega (arith, nothing-long))

  nothing-of : (plan : ℕ) → plan ≢ 0 → (i : ℕ) → i < records nothing → plan_at nothing i ≢ plan
  nothing-of plan some i b e = some (sym e ∙ plan-free nothing i b (nothing-free i b))

  nothing-sound : Sound nothing
  nothing-sound =
      sound-plans nothing (omega (arith, nothing-long)) (λ i b e. formed-free nothing i b (nothing-free i b)) (λ plan some. sound-absent nothing plan (nothing-of plan some))

  empty_holds : Holds n (replicate (n * record_bytes) 0) (λ plan. [])
  unfolding nothing
  empty_holds =
      record {
        right = sound-i nothing nothing-sound;
        long = nothing-long;
        means = λ plan some. absent_none nothing plan (absent-i nothing plan (nothing-of plan some));
      }

-- ---- a call

-- where the answer is 0 the file is the new one, and where it is not, the old one
answered : (o : ℕ) (r : Told) (f g f' : List ℕ) → r ≡ plain o → f' ≡ cond (eqb o found) g f
    → ((o ≡ found) × (f' ≡ g) × (eqb r.outcome found ≡ true)) ⊎ ((f' ≡ f) × (eqb r.outcome found ≡ false))
answered o r f g f' told file =
    let same : eqb r.outcome found ≡ eqb o found = ap (λ t. eqb t.outcome found) told in
    ⊎_elim
    (λ t. inl (eqb-true o found t, file ∙ ap (λ b. cond b g f) t, same ∙ t))
    (λ t. inr (file ∙ ap (λ b. cond b g f) t, same ∙ t))
    (cases (eqb o found))

module _ (n : ℕ) (f f' : List ℕ) (plans : ℕ → List (List ℕ)) (r : Told) (h : Holds n f plans) where
  -- a call that changes nothing
  unchanged : (x : Call) → f' ≡ f → eqb r.outcome found ≡ false → Holds n f' (after x (eqb r.outcome found) plans)
  unchanged x e d =
      record {
        right = ap wrong_file e ∙ h.right;
        long = ap length e ∙ h.long;
        means = λ q some. ap (λ l. plan_in l q) e ∙ h.means q some ∙ sym (kept x q);
      }
    where
      kept : (x : Call) (q : ℕ) → after x (eqb r.outcome found) plans q ≡ plans q
      kept (store plan slots routes width) q = ap (λ b. cond b (cond (eqb q plan) (routes_in slots routes width) (plans q)) (plans q)) d
      kept (withdraw plan) q = ap (λ b. cond b (cond (eqb q plan) [] (plans q)) (plans q)) d
      kept collect q = refl

  -- a call that gives one plan new routes
  changed : (g : List ℕ) (plan : ℕ) (ps : List (List ℕ)) → f' ≡ g → eqb r.outcome found ≡ true → wrong_file g ≡ false → length g ≡ length f → plan_in g plan ≡ ps
      → ((q : ℕ) → q ≢ plan → q ≢ 0 → plan_in g q ≡ plan_in f q) → Holds n f' (λ q. cond (eqb r.outcome found) (cond (eqb q plan) ps (plans q)) (plans q))
  changed g plan ps file done right long given others =
      record {
        right = ap wrong_file file ∙ right;
        long = ap length file ∙ long ∙ h.long;
        means = λ q nz. ap (λ l. plan_in l q) file ∙ go q nz (ℕ_discrete q plan) ∙ sym (ap (λ b. cond b (cond (eqb q plan) ps (plans q)) (plans q)) done);
      }
    where
      go : (q : ℕ) → q ≢ 0 → Dec (q ≡ plan) → plan_in g q ≡ cond (eqb q plan) ps (plans q)
      go q nz (yes e) = ap (plan_in g) e ∙ given ∙ sym (ap (λ b. cond b ps (plans q)) (eq-eqb q plan e))
      go q nz (no e) = others q e nz ∙ h.means q nz ∙ sym (ap (λ b. cond b ps (plans q)) (ne_eqb q plan e))

  store-holds : (plan : ℕ) (slots : List ℕ) (routes width : ℕ) → plan < 4294967296 → Stored f plan slots routes width r f'
      → Holds n f' (after (store plan slots routes width) (eqb r.outcome found) plans)
  store-holds plan slots routes width fits d =
      let ps = routes_in slots routes width in
      let g = stored_in f plan ps in
      ⊎_elim
      (λ w.
      let s = stores f plan slots routes width fits w.0 in
      changed g plan ps w.1 w.2 s.right s.long s.given s.others)
      (λ w. unchanged (store plan slots routes width) w.0 w.1)
      (answered (store_outcome f plan slots routes width) r f g f' d.told d.file)

  withdraw-holds : (plan : ℕ) → Withdrawn f plan r f' → Holds n f' (after (withdraw plan) (eqb r.outcome found) plans)
  withdraw-holds plan d =
      let g = withdrawn_in f plan in
      ⊎_elim
      (λ w.
      let s = withdraws f plan w.0 in
      changed g plan [] w.1 w.2 s.right s.long s.none s.others)
      (λ w. unchanged (withdraw plan) w.0 w.1)
      (answered (withdraw_outcome f plan) r f g f' d.told d.file)

  collect-holds : Collected f r f' → Holds n f' (after collect (eqb r.outcome found) plans)
  collect-holds d =
      ⊎_elim
      (λ w.
      let s = collects f h.right in
      record {
        right = ap wrong_file w.1 ∙ s.right;
        long = ap length w.1 ∙ s.long ∙ h.long;
        means = λ q nz. ap (λ l. plan_in l q) w.1 ∙ s.plans q nz ∙ h.means q nz;
      })
      (λ w. unchanged collect w.0 w.1)
      (answered (collect_outcome f) r f (collected_in f) f' d.told d.file)

  call-holds : (x : Call) → Fits x → Done x f r f' → Holds n f' (after x (eqb r.outcome found) plans)
  call-holds (store plan slots routes width) fits d = store-holds plan slots routes width fits d
  call-holds (withdraw plan) fits d = withdraw-holds plan d
  call-holds collect fits d = collect-holds d

-- ---- any sequence of calls

pub history-holds : {n : ℕ} {f : List ℕ} {plans : ℕ → List (List ℕ)} → History n f plans → Holds n f plans
history-holds {n} empty = empty_holds n
history-holds {n} (next {f = f} {f' = f'} {plans = plans} x r fits h d) = call-holds n f f' plans r (history-holds h) x fits d

-- ---- a fetch

-- what a fetch answers and leaves in the slots, where these are the routes of the plan
abbrev pub Gives : List (List ℕ) → List ℕ → ℕ → Told → List ℕ → Type 0
Gives routes slots width r slots' =
    ((routes ≡ []) × (r ≡ plain plan_there) × (slots' ≡ slots))
    ⊎ ((routes ≢ [])
    × (too_small routes slots width ≡ false → (r ≡ beside found (length routes)) × (slots' ≡ slots_with width routes slots))
    × (too_small routes slots width ≡ true → (r ≡ plain buffers) × (slots' ≡ slots)))

module _ (f : List ℕ) (plan : ℕ) (slots : List ℕ) (width : ℕ) (right : wrong_file f ≡ false) (some : plan ≢ 0) where
  fetch-is : fetch_outcome f plan slots width ≡ cond (not (has_plan f plan)) plan_there (cond (too_small (plan_in f plan) slots width) buffers found)
  unfolding fetch_outcome
  fetch-is =
      let last = cond (not (has_plan f plan)) plan_there (cond (too_small (plan_in f plan) slots width) buffers found) in
      ap (λ b. cond b plan_file (cond (eqb plan 0) plan_request last)) right ∙ ap (λ b. cond b plan_request last) (ne_eqb plan 0 some)

  fetch-answer : (o : ℕ) (r : Told) (slots' : List ℕ) → fetch_outcome f plan slots width ≡ o → Fetched f plan slots width r slots'
      → (r ≡ cond (eqb o found) (beside found (length (plan_in f plan))) (plain o)) × (slots' ≡ cond (eqb o found) (slots_with width (plan_in f plan) slots) slots)
  fetch-answer o r slots' e d = (
    d.told ∙ ap (λ x. cond (eqb x found) (beside found (length (plan_in f plan))) (plain x)) e,
    d.area ∙ ap (λ x. cond (eqb x found) (slots_with width (plan_in f plan) slots) slots) e,
  )

  pub fetched-is : (r : Told) (slots' : List ℕ) → Fetched f plan slots width r slots' → Gives (plan_in f plan) slots width r slots'
  fetched-is r slots' d =
      ⊎_elim
      (λ t.
      let there = there-some f plan (sound-e f right) some t in
      let o : fetch_outcome f plan slots width ≡ cond (too_small (plan_in f plan) slots width) buffers found =
      fetch-is ∙ ap (λ b. cond (not b) plan_there (cond (too_small (plan_in f plan) slots width) buffers found)) t in
      inr (
        λ z.
            let e : ◌≡◌ {A = ℕ} 0 1 = cc there.2 in
            omega arith,
        λ fit. fetch-answer found r slots' (o ∙ ap (λ b. cond b buffers found) fit) d,
        λ fit. fetch-answer buffers r slots' (o ∙ ap (λ b. cond b buffers found) fit) d,
      ))
      (λ t.
      let w = fetch-answer plan_there r slots' (fetch-is ∙ ap (λ b. cond (not b) plan_there (cond (too_small (plan_in f plan) slots width) buffers found)) t) d in
      inl (absent_none f plan t, w.0, w.1))
      (cases (has_plan f plan))

-- "Fetching gives the plan last stored under that number and not withdrawn since; collection changes no fetch"
pub fetched-last : {n : ℕ} {f : List ℕ} {plans : ℕ → List (List ℕ)} → History n f plans → (plan : ℕ) (slots : List ℕ) (width : ℕ) (r : Told) (slots' : List ℕ) → plan ≢ 0
    → Fetched f plan slots width r slots' → Gives (plans plan) slots width r slots'
fetched-last {f = f} {plans = plans} h plan slots width r slots' some d =
    let w = history-holds h in
    subst (λ routes. Gives routes slots width r slots') (w.means plan some) (fetched-is f plan slots width w.right some r slots' d)
