-- The chosen ranks are of the list, and as many as are wanted: so the routes that they name are those that stand in their slots.
use mathlib.Core.Path.{◌≡◌, refl, sym, ap, ap₂, subst, ◌∙◌}
use mathlib.Core.Logic.{⊎_elim}
use mathlib.Core.Option.{Option, none, some}
use mathlib.Core.List.Memᴰ
use mathlib.Core.List.{List, [], ◌∷◌, map, Memᴰ}
use Prim.Native.Nat.{ℕ, zero, suc, ◌+◌, ◌-◌, ◌*◌, ◌≤◌, ◌<◌}
use native.Mathlib.Omega.{arith}
use native.Mathlib.Nat.{mul-le-mul_right}
use lib.ListN.{length, get_or, replicate}
use borrow.Rule.Slice.PartMut.{mid_of}
use Rattle.lists.specs.Tests.{up_from}
use Rattle.lists.proofs.LoopLaws.{get_or-map-up_from}
use Rattle.lists.proofs.MemberLaws.{up_from-e}
use Rattle.words.specs.Part.{slot}
use Rattle.words.proofs.PartLaws.{lent}
use Rattle.net.specs.Limits.{most_routes}
use Rattle.table.specs.Table.{arcs_of}
use Rattle.search_ask.specs.Earlier.{route_in, earlier_in}
use Rattle.search_ask.proofs.EarlierLaws.{length-earlier_in}
use Rattle.variety.specs.Variety.{no_route, picked, chosen}
use Rattle.variety.proofs.Best.{Of, done, take, pass, choices-e, chosen-best}
use Rattle.near_choice.specs.Choosing.{Routes, Below}
use Rattle.near_pick.specs.Pick.{routes_at, Fits}

-- ---- the ranks

of-member : {A : Type 0} (x : A) {c rs : List A} → Of c rs → Memᴰ x c → Memᴰ x rs
of-member x done m = absurd (Memᴰ.not-nil m)
of-member x (take o) m = ⊎_elim (λ e. Memᴰ.head e) (λ i. Memᴰ.tail (of-member x o i)) (Memᴰ.cases_cons m)
of-member x (pass o) m = Memᴰ.tail (of-member x o m)

member-at : (l : List ℕ) (j : ℕ) → j < length l → Memᴰ (get_or l j 0) l
member-at [] j h = absurd (omega arith)
member-at (x ∷ l) zero h = Memᴰ.head refl
member-at (x ∷ l) (suc j) h = Memᴰ.tail (member-at l j (omega arith))

value : Option (List ℕ) → List ℕ → List ℕ
value none d = d
value (some b) d = b

module _ (t : List ℕ) (nodes w n : ℕ) (list : List ℕ) (r : Routes t nodes w n list) (k : ℕ) (enough : k ≤ n) (b : List ℕ) (is : some b ≡ chosen (arcs_of t) (earlier_in w n list) k) where
  abbrev rs : List (List ℕ)
  rs = earlier_in w n list

  choice : Of b (up_from 0 (length rs)) × (length b ≡ k)
  unfolding value
  choice =
      let w = chosen-best (arcs_of t) rs r.long k (omega (arith, length-earlier_in w n list)) in
      let e : b ≡ w.0 = ap (λ o. value o []) (is ∙ w.1) in
      choices-e (up_from 0 (length rs)) k b
      (subst (Memᴰ b) (sym w.2.stands) (Memᴰ.append_right w.2.before (Memᴰ.head e)))

  pub chosen-many : length b ≡ k
  chosen-many = choice.1

  pub chosen-below : Below n b
  chosen-below j h = let m = up_from-e 0 (length rs) (get_or b j 0) (of-member (get_or b j 0) choice.0 (member-at b j h)) in omega (arith, length-earlier_in w n list)

  pub chosen-fits : (area : List ℕ) → k * w ≤ length area → Fits w list b area
  chosen-fits area h =
      record {
        ranked = λ j i. let next : get_or b j 0 + 1 ≤ n = omega (arith, chosen-below j i) in omega (arith, mul-le-mul_right w next, r.listed.slots);
        formed = λ j i. (r.listed.words (get_or b j 0) (chosen-below j i)).formed;
        words = omega (arith, ap (λ z. z * w) chosen-many);
      }

  pub chosen-routes : picked rs (chosen (arcs_of t) rs k) ≡ routes_at w list b
  unfolding picked earlier_in
  chosen-routes = ap (picked rs) (sym is) ∙ each b chosen-below
    where
      at : (i : ℕ) → i < n → get_or rs i no_route ≡ route_in (slot w i list)
      at i h = let e : 0 + i ≡ i = omega arith in get_or-map-up_from (λ j. route_in (slot w j list)) 0 n i no_route h ∙ ap (λ j. route_in (slot w j list)) e

      each : (c : List ℕ) → Below n c → map (λ i. get_or rs i no_route) c ≡ routes_at w list c
      each [] h = refl
      each (x ∷ c) h = ap₂ ◌∷◌ (at x (h 0 (omega arith))) (each c (λ j i. h (suc j) (omega arith)))

-- as many places of a row as are wanted
pub places : (k : ℕ) → k ≤ most_routes → length {A = ℕ} (mid_of 0 (k - 0) (replicate most_routes 0)) ≡ k
places k h = let e : k - 0 ≡ k = omega arith in lent 0 k (replicate most_routes 0) (omega arith) h ∙ e
