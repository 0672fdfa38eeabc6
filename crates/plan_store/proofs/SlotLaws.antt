-- Slots and the routes in them. In a slot the arcs stand first, so that a route is a front part; and slot r of `routes` slots lies within them.
use mathlib.Core.Path.{◌≡◌, ◌∙◌}
use mathlib.Core.Bool.{Bool, true, false, not, cond}
use mathlib.Core.List.{List}
use Prim.Native.Nat.{ℕ, suc, ◌+◌, ◌-◌, ◌*◌, ◌≤◌, ◌<◌}
use native.Mathlib.Nat.{mul-le-mul_right}
use native.Mathlib.Omega.{arith}
use mathlib.Core.Logic.{◌≢◌, ⊎_elim}
use lib.Dec.{ltb, eqb}
use lib.ListN.{length, get_or, take, drop, length-drop}
use lib.Seq.{length-take-le, take_all}
use borrow.Author.Tests.{le-ltb, lt-ltb, eq-eqb, ne_eqb}
use Rattle.lists.specs.Tests.{every}
use Rattle.std.proofs.Common.{Some, None}
use Rattle.std.specs.List.{position_or_len}
use Rattle.std.specs.Option.{unwrap_or}
use Rattle.std.proofs.lemmas.List.Sums.{position_or_len_is}
use Rattle.lists.specs.Index.{first_at}
use Rattle.lists.proofs.Cases.{order}
use Rattle.lists.proofs.IndexLaws.{first-le, first_below, first-at}
use Rattle.words.specs.Part.{slot}
use Rattle.labels.specs.Field.{no_number}
use Rattle.net.specs.Limits.{most_arcs}
use Rattle.plan_store.specs.Slots.{arcs_in, route_in, wrong_slot}

-- a part that goes to the end
pub from-there : (l : List ℕ) (n : ℕ) → take (length l - n) (drop n l) ≡ drop n l
from-there l n = take_all (length l - n) (drop n l) (omega (arith, length-drop n l))

pub arcs-le : (words : List ℕ) → arcs_in words ≤ length words
unfolding arcs_in
arcs-le words = omega (arith, first-le (λ m. eqb (get_or words m 0) no_number) (length words) 0)

pub length-route_in : (words : List ℕ) → length (route_in words) ≡ arcs_in words
length-route_in words = length-take-le (arcs_in words) words (arcs-le words)

-- the route in slot r
abbrev pub route_at : List ℕ → ℕ → ℕ → List ℕ
route_at slots width r = route_in (slot width r slots)

module _ (slots : List ℕ) (routes width : ℕ) (h : length slots ≡ routes * width) (r : ℕ) (b : r < routes) where
  pub slot-within : r * width + width ≤ length slots
  slot-within = omega (arith, mul-le-mul_right {m = suc r} {n = routes} width (omega arith))

  pub length-slot : length (slot width r slots) ≡ width
  unfolding slot
  length-slot = length-take-le width (drop (r * width) slots) (omega (arith, length-drop (r * width) slots, slot-within))

-- ---- 17, test after test

module _ (words : List ℕ) where
  pub wrong-empty : arcs_in words ≡ 0 → wrong_slot words ≡ true
  unfolding wrong_slot
  wrong-empty e = rw (eq-eqb (arcs_in words) 0 e)

  pub wrong-arc : arcs_in words ≢ 0 → every (λ a. ltb a most_arcs) (route_in words) ≡ false → wrong_slot words ≡ true
  unfolding wrong_slot
  wrong-arc ne e = rw (ne_eqb (arcs_in words) 0 ne, e)

  pub wrong-rest : arcs_in words ≢ 0 → every (λ a. ltb a most_arcs) (route_in words) ≡ true
      → wrong_slot words ≡ not (every (λ a. eqb a no_number) (drop (arcs_in words) words))
  unfolding wrong_slot
  wrong-rest ne e = rw (ne_eqb (arcs_in words) 0 ne, e)

-- ---- the first place at which a test passes, or the end

position-first : (p : ℕ → Bool) (l : List ℕ) → position_or_len p l ≡ first_at (λ m. p (get_or l m 0)) (length l) 0
position-first p l =
    let q = λ (m : ℕ). p (get_or l m 0) in
    let n = length l in
    position_or_len_is p l (first_at q n 0) 0 (omega (arith, first-le q n 0)) (λ k h. first_below q n 0 k (omega arith) h) (λ h. first-at q n 0 (omega arith))

or-end : (x n : ℕ) → x ≤ n → unwrap_or (cond (ltb x n) (Some x) None) n ≡ x
or-end x n h = ⊎_elim (λ e. rw (le-ltb x n e) (omega arith)) (λ b. rw (lt-ltb x n b)) (order n x)

pub place-or-end : (p : ℕ → Bool) (l : List ℕ)
    → unwrap_or (cond (ltb (position_or_len p l) (length l)) (Some (position_or_len p l)) None) (length l) ≡ first_at (λ m. p (get_or l m 0)) (length l) 0
place-or-end p l =
    or-end (position_or_len p l) (length l) (omega (arith, position-first p l, first-le (λ m. p (get_or l m 0)) (length l) 0)) ∙ position-first p l
