-- The rank's route is marked, so what the code finds of each other route is their dissimilarity (`aparts-same`); the lowest of these and the fraction so far tells how
-- varied the ranks are with one more (`rank-tells`). Both parts of each have at most 40 bits (`apart-few`).
use mathlib.Core.Path.{◌≡◌, refl, sym, ap, ap₂, subst, ◌∙◌}
use mathlib.Core.List.{List, [], ◌∷◌, ◌++◌}
use mathlib.Core.Bool.{true, false}
use Prim.Native.Nat.{ℕ, suc, ◌+◌, ◌*◌, ◌≤◌, ◌<◌}
use native.Mathlib.Omega.{arith}
use lib.ListN.{length, get_or, drop, drop_of_length-le}
use lib.Seq.{drop-cons}
use Rattle.lists.proofs.LoopLaws.{get_or-map-up_from}
use Rattle.words.specs.Part.{slot}
use Rattle.net.specs.Limits.{most_nodes, most_length}
use Rattle.net.specs.Route.{length_of}
use Rattle.table.specs.Table.{arcs_of}
use Rattle.table.specs.Fault.{table_fault, good}
use Rattle.search_ask.specs.Earlier.{route_in, earlier_in}
use Rattle.search_ask.proofs.EarlierLaws.{slot-end}
use Rattle.remaining.specs.Standing.{Roomy}
use Rattle.route_list.specs.Listed.{Words}
use Rattle.route_list.proofs.PlaceLaws.{length-slot}
use Rattle.route_apart.specs.Marks.{Marked, Unmarked, put_marks, apart_by}
use Rattle.route_apart.proofs.PutLaws.{put_marks-long, marked_by, unmarked-by}
use Rattle.route_apart.proofs.ApartLaws.{route-most, members-below, apart_by_lem, marked-most}
use Rattle.products.specs.declared.Fraction.{Fraction}
use Rattle.variety.specs.Variety.{less, apart, lower, variety, no_route}
use Rattle.variety.proofs.Steps.{Same}
use Rattle.variety.proofs.Fractions.{Proper}
use Rattle.near_choice.specs.Choosing.{Routes, Blank, Few, Tells, Below, lowest, aparts_by, Shares}
use Rattle.near_choice.proofs.LeastLaws.{lowest-proper, aparts_of, aparts-proper, lowest-same}

-- ---- one by one

pub lower-new : (x y : Fraction) → less y x ≡ true → lower x y ≡ y
unfolding lower
lower-new x y e = rw e

pub lower-old : (x y : Fraction) → less y x ≡ false → lower x y ≡ x
unfolding lower
lower-old x y e = rw e

module _ (t : List ℕ) (w : ℕ) (list room : List ℕ) (size : ℕ) (ranks : List ℕ) (x : Fraction) (j : ℕ) where
  pub lowest_step : j < length ranks
      → lowest x (aparts_by t w list room size (drop j ranks)) ≡ lowest (lower x (apart_by t room (slot w (get_or ranks j 0) list) size)) (aparts_by t w list room size (drop (j + 1) ranks))
  unfolding lowest
  lowest_step h =
      let e : suc j ≡ j + 1 = omega arith in
      ap (λ l. lowest x (aparts_by t w list room size l)) (drop-cons ranks j 0 h)
      ∙ ap (λ k. lowest (lower x (apart_by t room (slot w (get_or ranks j 0) list) size)) (aparts_by t w list room size (drop k ranks))) e

  pub lowest-done : length ranks ≤ j → lowest x (aparts_by t w list room size (drop j ranks)) ≡ x
  unfolding lowest
  lowest-done h = ap (λ l. lowest x (aparts_by t w list room size l)) (drop_of_length-le ranks h)

-- ---- the slots

module _ (t : List ℕ) (nodes w n : ℕ) (list : List ℕ) (g : Routes t nodes w n list) where
  module _ (i : ℕ) (h : i < n) where
    pub slot-in : i * w + w ≤ length list
    slot-in = slot-end w n (length list) i h g.listed.slots

    pub slot-few : length (slot w i list) ≤ most_nodes
    slot-few = omega (arith, length-slot w i list slot-in, g.few)

    pub slot-words : Words t (slot w i list)
    slot-words = g.listed.words i h

    pub apart-few : (room : List ℕ) (size : ℕ) → size ≤ most_nodes * most_length → Few (apart_by t room (slot w i list) size)
    apart-few room size k = let m = route-most t nodes (slot w i list) g.fine slot-few in (omega arith, omega arith)

    route-at : get_or (earlier_in w n list) i no_route ≡ route_in (slot w i list)
    unfolding earlier_in
    route-at =
        let e : 0 + i ≡ i = omega arith in
        rw e at (get_or-map-up_from (λ j. route_in (slot w j list)) 0 n i no_route h)

  -- ---- with rank r marked

  module _ (room : List ℕ) (k : Blank nodes room) (r : ℕ) (h : r < n) where
    abbrev p : List ℕ
    p = route_in (slot w r list)

    abbrev marked : List ℕ
    marked = put_marks t true (route_in (slot w r list)) room

    abbrev long : ℕ
    long = length_of (arcs_of t) (route_in (slot w r list))

    is-marked : Marked t p marked
    is-marked = marked_by t nodes p room g.fine k.roomy (members-below t (slot w r list) (slot-words r h)) (g.starts r h) k.unmarked

    marked-roomy : Roomy nodes marked
    marked-roomy = omega (arith, put_marks-long t true p room, k.roomy)

    marked-back : (length (put_marks t false p marked) ≡ length room) × Unmarked (put_marks t false p marked)
    marked-back = (
      put_marks-long t false p marked ∙ put_marks-long t true p room,
      unmarked-by t nodes p room g.fine k.roomy (members-below t (slot w r list) (slot-words r h)) k.unmarked,
    )

    size-most : long ≤ most_nodes * most_length
    size-most = route-most t nodes (slot w r list) g.fine (slot-few r h)

    shares : (ranks : List ℕ) → Below n ranks → Shares t w list marked long ranks
    shares ranks b j i =
        marked-most t p marked (slot w (get_or ranks j 0) list) is-marked (members-below t (slot w (get_or ranks j 0) list) (slot-words (get_or ranks j 0) (b j i))) (g.once r h) (g.once (get_or ranks j 0) (b j i))

    aparts-same : (ranks : List ℕ) → Below n ranks → aparts_by t w list marked long ranks ≡ aparts_of (arcs_of t) (earlier_in w n list) g.long ranks r
    aparts-same [] b = refl
    aparts-same (i ∷ ranks) b =
        let l : i < n = b 0 (omega arith) in
        ap₂ ◌∷◌
        (apart_by_lem t p marked (slot w i list) is-marked (members-below t (slot w i list) (slot-words i l)) (g.once r h) (g.once i l)
        ∙ ap₂ (apart (arcs_of t)) (sym (route-at i l)) (sym (route-at r h)))
        (aparts-same ranks (λ j m. b (suc j) (omega arith)))

    tells_more : (ranks : List ℕ) (least x : Fraction) → Below n ranks → Tells t w n list ranks least → x ≡ lowest least (aparts_by t w list marked long ranks) → Few x → Tells t w n list (ranks ++ (r ∷ [])) x
    tells_more ranks least x b s e f =
        let z : x ≡ lowest least (aparts_of (arcs_of t) (earlier_in w n list) g.long ranks r) = e ∙ ap (lowest least) (aparts-same ranks b) in
        record {
          same = subst (λ y. Same y (variety (arcs_of t) (earlier_in w n list) (ranks ++ (r ∷ [])))) (sym z) (lowest-same (arcs_of t) (earlier_in w n list) g.long ranks r least s.proper s.same);
          proper = subst Proper (sym z) (lowest-proper least (aparts_of (arcs_of t) (earlier_in w n list) g.long ranks r) s.proper (aparts-proper (arcs_of t) (earlier_in w n list) g.long ranks r));
          over-few = f.0;
          under-few = f.1;
        }

    -- as the code has it: the slot lent, its route's length, and the room with its marks
    module _ (one : List ℕ) (e : one ≡ slot w r list) where
      pub one-asks : (table_fault nodes t ≡ good) × Words t one × (length one ≤ most_nodes)
      one-asks = (g.fine, subst (Words t) (sym e) (slot-words r h), omega (arith, ap length e, slot-few r h))

      module _ (size : ℕ) (z : size ≡ length_of (arcs_of t) (route_in one)) (m : List ℕ) (f : m ≡ put_marks t true (route_in one) room) where
        size_is : size ≡ long
        size_is = z ∙ ap (λ l. length_of (arcs_of t) (route_in l)) e

        room-is : m ≡ marked
        room-is = f ∙ ap (λ l. put_marks t true (route_in l) room) e

        pub room-roomy : Roomy nodes m
        room-roomy = subst (Roomy nodes) (sym room-is) marked-roomy

        pub lowest-asks : (ranks : List ℕ) → Below n ranks → Shares t w list m size ranks × (size ≤ most_nodes * most_length)
        lowest-asks ranks b = (
          subst (λ y. Shares t w list y size ranks) (sym room-is) (subst (λ y. Shares t w list marked y ranks) (sym size_is) (shares ranks b)),
          omega (arith, size_is, size-most),
        )

        pub rank-tells : (ranks : List ℕ) (least x : Fraction) → Below n ranks → Tells t w n list ranks least → x ≡ lowest least (aparts_by t w list m size ranks) → Few x → Tells t w n list (ranks ++ (r ∷ [])) x
        rank-tells ranks least x b s k c =
            tells_more ranks least x b s (k ∙ ap (λ y. lowest least (aparts_by t w list y size ranks)) room-is ∙ ap (λ y. lowest least (aparts_by t w list marked y ranks)) size_is) c

        pub room_back : (m' : List ℕ) → m' ≡ put_marks t false (route_in one) m → (length m' ≡ length room) × Unmarked m'
        room_back m' k =
            subst (λ y. (length y ≡ length room) × Unmarked y) (sym (k ∙ ap (λ l. put_marks t false (route_in l) m) e ∙ ap (put_marks t false p) room-is)) marked-back
