-- What a store leaves where it answers 0: nothing was wrong, the plan was not there and there was room, so its parts stand in the lowest free records, by rank and
-- part, and every other record is as it was. Then the plan read from the file is the one given, every other plan is kept, and nothing is wrong with the file.
use mathlib.Core.Path.{◌≡◌}
use mathlib.Core.Bool.{false, cond}
use mathlib.Core.List.{List}
use mathlib.Core.Logic.{◌≢◌}
use Prim.Native.Nat.{ℕ, ◌≤◌, ◌<◌}
use lib.Dec.{ltb}
use lib.ListN.{length}
use borrow.Author.Tests.{ltb-false}
use Rattle.outcome.specs.Outcome.{found, plan_request, plan_there, plan_room}
use Rattle.plan_file.specs.File.{wrong_file}
use Rattle.plan_file.specs.Meaning.{plan_in, has_plan, free_in}
use Rattle.plan_file.proofs.SoundLaws.{sound-e, sound-i}
use Rattle.plan_store.specs.Slots.{wrong_request, routes_in}
use Rattle.plan_store.specs.Store.{parts_of, stored_in, store_outcome}
use Rattle.plan_history.proofs.PlacedLaws.{Placed, placed-is}
use Rattle.plan_history.proofs.RequestLaws.{asked}
use Rattle.plan_history.proofs.AnswerLaws.{passed}
use Rattle.plan_history.proofs.StoredLaws.{proper, stored-sound, stored-plan, stored-others}

pub record Stores (f : List ℕ) (plan : ℕ) (routes : List (List ℕ)) (f' : List ℕ) : Type 0 where
  pub right : wrong_file f' ≡ false
  pub long : length f' ≡ length f
  pub given : plan_in f' plan ≡ routes
  pub others : (q : ℕ) → q ≢ plan → q ≢ 0 → plan_in f' q ≡ plan_in f q
  pub places : Placed f (parts_of plan 0 routes) f'

pub store_found : (f : List ℕ) (plan : ℕ) (slots : List ℕ) (routes width : ℕ) → store_outcome f plan slots routes width ≡ found
    → (wrong_file f ≡ false) × (wrong_request plan slots routes width ≡ false) × (has_plan f plan ≡ false)
    × (length (parts_of plan 0 (routes_in slots routes width)) ≤ length (free_in f))
unfolding store_outcome
store_found f plan slots routes width h =
    let room = ltb (length (free_in f)) (length (parts_of plan 0 (routes_in slots routes width))) in
    let a = passed (wrong_file f) 15 (cond (wrong_request plan slots routes width) plan_request (cond (has_plan f plan) plan_there (cond room plan_room found))) h in
    let b = passed (wrong_request plan slots routes width) 16 (cond (has_plan f plan) plan_there (cond room plan_room found)) a.1 in
    let c = passed (has_plan f plan) 17 (cond room plan_room found) b.1 in
    let d = passed room 18 found c.1 in
    (a.0, b.0, c.0, ltb-false (length (free_in f)) (length (parts_of plan 0 (routes_in slots routes width))) d.0)

-- the parts in their places
pub stored-places : (f : List ℕ) (plan : ℕ) (slots : List ℕ) (routes width : ℕ) → plan < 4294967296 → store_outcome f plan slots routes width ≡ found
    → Placed f (parts_of plan 0 (routes_in slots routes width)) (stored_in f plan (routes_in slots routes width))
unfolding stored_in
stored-places f plan slots routes width fits h =
    let w = store_found f plan slots routes width h in
    let ps = routes_in slots routes width in
    placed-is f (parts_of plan 0 ps) w.3 (proper plan ps (asked plan slots routes width w.1) fits)

pub stores : (f : List ℕ) (plan : ℕ) (slots : List ℕ) (routes width : ℕ) → plan < 4294967296 → store_outcome f plan slots routes width ≡ found
    → Stores f plan (routes_in slots routes width) (stored_in f plan (routes_in slots routes width))
stores f plan slots routes width fits h =
    let w = store_found f plan slots routes width h in
    let ps = routes_in slots routes width in
    let g = stored_in f plan ps in
    let s = sound-e f w.0 in
    let a = asked plan slots routes width w.1 in
    let p = stored-places f plan slots routes width fits h in
    record {
      right = sound-i g (stored-sound f plan ps g s a fits w.2 w.3 p);
      long = p.long;
      given = stored-plan f plan ps g s a fits w.2 w.3 p;
      others = stored-others f plan ps g s a fits w.2 w.3 p;
      places = p;
    }
