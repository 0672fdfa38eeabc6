-- The refusals, test after test, and what is known where none was met: the request is in form, and there is a free record for each part.
use mathlib.Core.Path.{◌≡◌, refl, sym, ap, ◌∙◌}
use mathlib.Core.Bool.{Bool, true, false, not, ◌&&◌, ◌||◌, cond}
use mathlib.Core.List.{List}
use mathlib.Core.Logic.{◌≢◌}
use Prim.Native.Nat.{ℕ, ◌*◌, ◌≤◌, ◌<◌}
use native.Mathlib.Omega.{arith}
use lib.Dec.{ltb, leb, eqb}
use lib.ListN.{length}
use borrow.Author.Tests.{lt-ltb, le-ltb, eq-eqb, ltb-false, leb-true, eqb-true, eqb-false, not-false}
use Rattle.lists.specs.Tests.{up_from, any}
use Rattle.words.specs.Part.{slot}
use Rattle.net.specs.Limits.{most_routes}
use Rattle.outcome.specs.declared.Told.{Told}
use Rattle.outcome.specs.Outcome.{found, plan_file, plan_request, plan_there, plan_room, plain}
use Rattle.plan_file.specs.File.{wrong_file}
use Rattle.plan_file.specs.Meaning.{has_plan, free_in}
use Rattle.plan_file.proofs.FileLaws.{and_both}
use Rattle.plan_store.specs.Slots.{most_width, wrong_slot, wrong_request, routes_in}
use Rattle.plan_store.specs.Store.{parts_of, stored_in, store_outcome, Stored}
use Rattle.plan_store.specs.Placing.{needed_for}
use Rattle.plan_store.proofs.PartLaws.{length-parts}

or-false : (a b : Bool) → (a || b) ≡ false → (a ≡ false) × (b ≡ false)
or-false true b e = (e, cc)
or-false false b e = (refl, e)

-- a request in form
pub record Good (plan : ℕ) (slots : List ℕ) (routes width : ℕ) : Type 0 where
  pub some : plan ≢ 0
  pub few : routes ≤ most_routes
  pub narrow : width ≤ most_width
  pub sized : length slots ≡ routes * width

pub request-good : (plan : ℕ) (slots : List ℕ) (routes width : ℕ) → wrong_request plan slots routes width ≡ false → Good plan slots routes width
unfolding wrong_request
request-good plan slots routes width e =
    let a = eqb plan 0 in
    let b = leb 1 routes && leb routes most_routes in
    let w = ltb most_width width in
    let n = eqb (length slots) (routes * width) in
    let p = or-false (a || not b || w || not n) (any (λ r. wrong_slot (slot width r slots)) (up_from 0 routes)) e in
    let q = or-false (a || not b || w) (not n) p.0 in
    let s = or-false (a || not b) w q.0 in
    let t = or-false a (not b) s.0 in
    record {
      some = eqb-false plan 0 t.0;
      few = leb-true routes most_routes (and_both (leb 1 routes) (leb routes most_routes) (not-false b t.1)).1;
      narrow = ltb-false most_width width s.1;
      sized = eqb-true (length slots) (routes * width) (not-false n q.1);
    }

module _ (f : List ℕ) (plan : ℕ) (slots : List ℕ) (routes width : ℕ) where
  abbrev told : ℕ
  told = store_outcome f plan slots routes width

  abbrev taken : ℕ
  taken = needed_for (routes_in slots routes width)

  pub told-file : wrong_file f ≡ true → told ≡ plan_file
  unfolding store_outcome
  told-file e = rw e

  pub told-request : wrong_file f ≡ false → wrong_request plan slots routes width ≡ true → told ≡ plan_request
  unfolding store_outcome
  told-request e g = rw (e, g)

  pub told-there : wrong_file f ≡ false → wrong_request plan slots routes width ≡ false → has_plan f plan ≡ true → told ≡ plan_there
  unfolding store_outcome
  told-there e g h = rw (e, g, h)

  module _ (e : wrong_file f ≡ false) (g : wrong_request plan slots routes width ≡ false) (h : has_plan f plan ≡ false) where
    pub told-room : length (free_in f) < taken → told ≡ plan_room
    unfolding store_outcome
    told-room k = rw (e, g, h, length-parts plan 0 (routes_in slots routes width), lt-ltb (length (free_in f)) taken k)

    pub told-found : taken ≤ length (free_in f) → told ≡ found
    unfolding store_outcome
    told-found k = rw (e, g, h, length-parts plan 0 (routes_in slots routes width), le-ltb (length (free_in f)) taken k)

  -- ---- no refusal

  pub accepted : told ≡ found → (wrong_request plan slots routes width ≡ false) × (length (parts_of plan 0 (routes_in slots routes width)) ≤ length (free_in f))
  unfolding store_outcome
  accepted e = go (wrong_file f) (wrong_request plan slots routes width) refl (has_plan f plan) (ltb (length (free_in f)) n) refl e
    where
      n : ℕ
      n = length (parts_of plan 0 (routes_in slots routes width))

      never : {A : Type 0} → ◌≡◌ {A = ℕ} 0 1 → A
      never z = absurd (omega arith)

      go : (a b : Bool) → wrong_request plan slots routes width ≡ b → (c d : Bool) → ltb (length (free_in f)) n ≡ d
          → cond a plan_file (cond b plan_request (cond c plan_there (cond d plan_room found))) ≡ found
          → (wrong_request plan slots routes width ≡ false) × (n ≤ length (free_in f))
      go true b p c d q z = never (cc)
      go false true p c d q z = never (cc)
      go false false p true d q z = never (cc)
      go false false p false true q z = never (cc)
      go false false p false false q z = (p, ltb-false (length (free_in f)) n q)

  -- ---- the call as a whole

  module _ (answer : Told) (f' : List ℕ) where
    pub stored-so : told ≡ found → answer ≡ plain found → f' ≡ stored_in f plan (routes_in slots routes width) → Stored f plan slots routes width answer f'
    stored-so e a g = record { told = a ∙ ap plain (sym e); file = rw (eq-eqb told found e) g }
