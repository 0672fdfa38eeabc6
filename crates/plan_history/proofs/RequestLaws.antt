-- What a request to store asks of its routes, in propositions: there are 1 to 12, each has an arc and at most 65,535, and each arc number is below 262,144. The routes
-- are read from the slots, each up to the first word that is no arc number.
use mathlib.Core.Path.{◌≡◌, sym, ap, subst, ◌∙◌}
use mathlib.Core.Bool.{Bool, true, false, not, ◌&&◌, ◌||◌}
use mathlib.Core.List.{List, [], ◌∷◌}
use mathlib.Core.Logic.{◌≢◌}
use Prim.Native.Nat.{ℕ, zero, suc, ◌+◌, ◌*◌, ◌≤◌, ◌<◌}
use native.Mathlib.Omega.{arith}
use lib.Dec.{ltb, leb, eqb}
use lib.ListN.{length, get_or, drop, length-take}
use lib.Seq.{length-take-le}
use borrow.Author.Tests.{eqb-false, leb-true, ltb-true, ltb-false, not-false}
use Rattle.lists.specs.Tests.{up_from, every, any}
use Rattle.lists.proofs.IndexLaws.{first-le}
use Rattle.lists.proofs.LoopLaws.{length-map-up_from, get_or-map-up_from}
use Rattle.words.specs.Part.{slot}
use Rattle.net.specs.Limits.{most_routes, most_arcs}
use Rattle.labels.specs.Field.{no_number}
use Rattle.plan_file.proofs.EachLaws.{and-true, or-false, any_none}
use Rattle.plan_store.specs.Slots.{most_width, arcs_in, route_in, wrong_slot, wrong_request, routes_in}

-- a route that can be stored
pub record Storable (p : List ℕ) : Type 0 where
  pub least : 1 ≤ length p
  pub most : length p ≤ most_width
  pub low : (k : ℕ) → k < length p → get_or p k 0 < most_arcs

every-at : (p : ℕ → Bool) (l : List ℕ) (k : ℕ) → every p l ≡ true → k < length l → p (get_or l k 0) ≡ true
unfolding every
every-at p [] k h b = absurd (omega arith)
every-at p (x ∷ l) zero h b = (and-true (p x) (every p l) h).0
every-at p (x ∷ l) (suc k) h b = every-at p l k (and-true (p x) (every p l) h).1 (omega arith)

length-route : (words : List ℕ) → length (route_in words) ≡ arcs_in words
unfolding arcs_in
length-route words = length-take-le (arcs_in words) words (omega (arith, first-le (λ m. eqb (get_or words m 0) no_number) (length words) 0))

right-slot : (words : List ℕ) → wrong_slot words ≡ false → length words ≤ most_width → Storable (route_in words)
unfolding wrong_slot
right-slot words h n =
    let a = eqb (arcs_in words) 0 in
    let b = not (every (λ x. ltb x most_arcs) (route_in words)) in
    let c = not (every (λ x. eqb x no_number) (drop (arcs_in words) words)) in
    let u = or-false (a || b) c h in
    let v = or-false a b u.0 in
    let ne = eqb-false (arcs_in words) 0 v.0 in
    let l = length-route words in
    record {
      least = omega arith;
      most = omega (arith, length-take (arcs_in words) words);
      low = λ k d. ltb-true (get_or (route_in words) k 0) most_arcs (every-at (λ x. ltb x most_arcs) (route_in words) k (not-false _ v.1) d);
    }

length-slot-most : (width r : ℕ) (slots : List ℕ) → length (slot width r slots) ≤ width
unfolding slot
length-slot-most width r slots = omega (arith, length-take width (drop (r * width) slots))

-- a request that can be stored
pub record Asked (plan : ℕ) (ps : List (List ℕ)) : Type 0 where
  pub some : plan ≢ 0
  pub least : 1 ≤ length ps
  pub most : length ps ≤ most_routes
  pub each : (r : ℕ) → r < length ps → Storable (get_or ps r [])

pub asked : (plan : ℕ) (slots : List ℕ) (routes width : ℕ) → wrong_request plan slots routes width ≡ false → Asked plan (routes_in slots routes width)
unfolding wrong_request routes_in
asked plan slots routes width h =
    let a = eqb plan 0 in
    let b = not (leb 1 routes && leb routes most_routes) in
    let c = ltb most_width width in
    let d = not (eqb (length slots) (routes * width)) in
    let e = any (λ r. wrong_slot (slot width r slots)) (up_from 0 routes) in
    let u = or-false (a || b || c || d) e h in
    let v = or-false (a || b || c) d u.0 in
    let w = or-false (a || b) c v.0 in
    let x = or-false a b w.0 in
    let y = and-true (leb 1 routes) (leb routes most_routes) (not-false (leb 1 routes && leb routes most_routes) x.1) in
    let f : ℕ → List ℕ = λ r. route_in (slot width r slots) in
    let n = length-map-up_from f 0 routes in
    record {
      some = eqb-false plan 0 x.0;
      least = omega (arith, leb-true 1 routes y.0);
      most = omega (arith, leb-true routes most_routes y.1);
      each = λ r g.
          let i : r < routes = omega arith in
          let z : 0 + r ≡ r = omega arith in
          subst Storable (sym (get_or-map-up_from f 0 routes r [] i ∙ ap f z))
          (right-slot (slot width r slots) (any_none (λ j. wrong_slot (slot width j slots)) 0 routes r u.1 (omega arith) (omega arith))
          (omega (arith, length-slot-most width r slots, ltb-false most_width width w.1)));
    }
