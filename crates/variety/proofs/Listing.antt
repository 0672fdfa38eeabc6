-- The listing: going deeper one unvisited node at a time, and only where the distance still to go lets a chain arrive in range, finds exactly the routes in range; put
-- in their places one by one they are the list of the request.
use mathlib.Core.Path.{◌≡◌, refl, sym, ap, subst, ◌∙◌}
use mathlib.Core.Option.{none, some}
use mathlib.Core.List.Memᴰ
use mathlib.Core.List.{List, [], ◌∷◌, ◌++◌, flat_map, append-nil, append_assoc, Memᴰ}
use mathlib.Core.Bool.{Bool, true, false, not, ◌&&◌, cond}
use Prim.Native.Nat.{ℕ, zero, suc, pred, ◌+◌, ◌*◌, ◌≤◌, ◌<◌}
use native.Mathlib.Omega.{arith}
use native.Mathlib.Nat.{mul-le-mul_right, le_trans}
use lib.Dec.{T, eqb, leb→le, le→leb, eqb→eq, T_not}
use lib.ListN.{length, get_or}
use Rattle.lists.specs.Tests.{has, keep, distinct}
use Rattle.lists.proofs.TestLaws.{and_i, and_l, and_r, eq→eqb, keep-e, keep-i, mem→has}
use Rattle.lists.proofs.MemberLaws.{flat_map-e, flat_map-i}
use Rattle.net.specs.Net.{Net, arc}
use Rattle.net.specs.Route.{visited, end_of, partial, length_of, extensions, in_order, partials}
use Rattle.net.proofs.Valid.{Sound}
use Rattle.net.proofs.Order.{length_of-append}
use Rattle.net.proofs.Chains.{partial-nil, partial-chain, partial-next, partial-more, end-visited}
use Rattle.net.proofs.Sorted.{Increasing, in_order-e, in_order-i, in_order-increasing, increasing-unique, keep-increasing}
use Rattle.net.proofs.Listing.{extension-e, extension-i, listed-is-partial, partial-is-listed, partial-short, partials-increasing}
use Rattle.distances.specs.Distance.{distance}
use Rattle.distances.proofs.First.{distance_some}
use Rattle.distances.proofs.Walks.{end_of-append}
use Rattle.distances.proofs.Parts.{partial-back}
use Rattle.distances.proofs.Greedy.{far-at-most}
use Rattle.variety.specs.Variety.{in_range, near_of, near, no_route}
use Rattle.variety.specs.Deeper.{may_arrive, deeper, insert_all, InRange, ToGo}
use Rattle.variety.proofs.Shared.{partial-distinct}
use Rattle.variety.proofs.Places.{insert_all-is}

-- ---- a simple chain does not come back to where a beginning ended

no_return : (net : Net) (v a : ℕ) (r : List ℕ) → T (partial net v (a ∷ r)) → end_of net.arcs v (a ∷ r) ≡ v → ⊥
unfolding end_of visited distinct
no_return net v a r h e =
    let k = partial-distinct net v (a ∷ r) h in
    T_not (has v (visited net.arcs (arc net.arcs a).to r)) (and_l (not (has v (visited net.arcs (arc net.arcs a).to r))) (distinct (visited net.arcs (arc net.arcs a).to r)) k)
    (mem→has (Memᴰ.cast (sym e) (end-visited net.arcs (arc net.arcs a).to r)))

module _ (net : Net) (s t : ℕ) (D : ℕ → ℕ) (go : ToGo net t D) (d most : ℕ) where
  abbrev Fits : List ℕ → Type 0
  Fits p = InRange net s t d most p

  -- what the pruning says, and that nothing is lost by it
  arrived : (p : List ℕ) → end_of net.arcs s p ≡ t → T (may_arrive net.arcs s D d most p) → length_of net.arcs p * d ≤ most
  unfolding may_arrive
  arrived p e h =
      let k = leb→le ((length_of net.arcs p + D (end_of net.arcs s p)) * d) most h in
      let z : D (end_of net.arcs s p) ≡ 0 = ap D e ∙ go.zero-t in
      omega (arith, ap (λ x. (length_of net.arcs p + x) * d) z)

  pub front-may : (p r : List ℕ) → InRange net s t d most (p ++ r) → T (may_arrive net.arcs s D d most p)
  unfolding may_arrive
  front-may p r x =
      let v = end_of net.arcs s p in
      let h = far-at-most net t D go.zero-t go.relaxed v r (partial-chain net v r (partial-back net s p r x.is-partial)) (sym (end_of-append net.arcs s p r) ∙ x.ends) in
      let k : length_of net.arcs p + D v ≤ length_of net.arcs (p ++ r) = omega (arith, length_of-append net.arcs p r) in
      le→leb ((length_of net.arcs p + D v) * d) most (le_trans (mul-le-mul_right d k) x.in-range)

  deeper-e : (n : ℕ) (p x : List ℕ) → T (partial net s p) → T (may_arrive net.arcs s D d most p) → Memᴰ x (deeper net s t D d most n p) → Fits x
  unfolding deeper
  deeper-e zero p x h k m = split (eqb (end_of net.arcs s p) t) refl m
    where
      split : (b : Bool) → eqb (end_of net.arcs s p) t ≡ b → Memᴰ x (cond b (p ∷ []) []) → InRange net s t d most x
      split true e i =
          let f = eqb→eq (end_of net.arcs s p) t (subst T (sym e) tt) in
          subst (InRange net s t d most) (sym (Memᴰ.eq_of_singleton i)) (record { is-partial = h; ends = f; in-range = arrived p f k })
      split false e i = absurd (Memᴰ.not-nil i)
  deeper-e (suc n) p x h k m = split (eqb (end_of net.arcs s p) t) refl (λ y. deeper-e n y x) m
    where
      split : (b : Bool) → eqb (end_of net.arcs s p) t ≡ b
          → ((y : List ℕ) → T (partial net s y) → T (may_arrive net.arcs s D d most y) → Memᴰ x (deeper net s t D d most n y) → InRange net s t d most x)
          → Memᴰ x (cond b (p ∷ []) (flat_map (deeper net s t D d most n) (keep (may_arrive net.arcs s D d most) (extensions net s p)))) → InRange net s t d most x
      split true e again i =
          let f = eqb→eq (end_of net.arcs s p) t (subst T (sym e) tt) in
          subst (InRange net s t d most) (sym (Memᴰ.eq_of_singleton i)) (record { is-partial = h; ends = f; in-range = arrived p f k })
      split false e again i =
          let w = flat_map-e (deeper net s t D d most n) x (keep (may_arrive net.arcs s D d most) (extensions net s p)) i in
          let j = keep-e (may_arrive net.arcs s D d most) w.0 (extensions net s p) w.1 in
          let o = extension-e net s p w.0 j.0 in
          again w.0 (subst (λ l. T (partial net s l)) (sym o.2) (partial-more net s p o.0 h o.1)) j.1 w.2

  -- at t it is p itself
  at-end : (p : List ℕ) (rest : List (List ℕ)) → Fits (p ++ []) → Memᴰ (p ++ []) (cond (eqb (end_of net.arcs s p) t) (p ∷ []) rest)
  at-end p rest x = split (eqb (end_of net.arcs s p) t) (eq→eqb (end_of net.arcs s p) t (sym (ap (end_of net.arcs s) (append-nil p)) ∙ x.ends))
    where
      split : (b : Bool) → T b → Memᴰ (p ++ []) (cond b (p ∷ []) rest)
      split true k = Memᴰ.head (append-nil p)
      split false k = absurd k

  -- a route in range that goes on from p by at most n arcs is found
  deeper-i : (n : ℕ) (p r : List ℕ) → length r ≤ n → Fits (p ++ r) → Memᴰ (p ++ r) (deeper net s t D d most n p)
  unfolding deeper
  deeper-i zero p [] l x = at-end p [] x
  deeper-i zero p (a ∷ r) l x = absurd (omega arith)
  deeper-i (suc n) p [] l x = at-end p (flat_map (deeper net s t D d most n) (keep (may_arrive net.arcs s D d most) (extensions net s p))) x
  deeper-i (suc n) p (a ∷ r) l x =
      let e = append_assoc p (a ∷ []) r in
      let y = subst (InRange net s t d most) (sym e) x in
      split (eqb (end_of net.arcs s p) t) refl (Memᴰ.cast (sym e) (deeper-i n (p ++ (a ∷ [])) r (omega arith) y)) (front-may (p ++ (a ∷ [])) r y)
    where
      split : (b : Bool) → eqb (end_of net.arcs s p) t ≡ b → Memᴰ (p ++ (a ∷ r)) (deeper net s t D d most n (p ++ (a ∷ [])))
          → T (may_arrive net.arcs s D d most (p ++ (a ∷ [])))
          → Memᴰ (p ++ (a ∷ r)) (cond b (p ∷ []) (flat_map (deeper net s t D d most n) (keep (may_arrive net.arcs s D d most) (extensions net s p))))
      split true f m k =
          absurd (no_return net (end_of net.arcs s p) a r (partial-back net s p (a ∷ r) x.is-partial)
          (sym (end_of-append net.arcs s p (a ∷ r)) ∙ x.ends ∙ sym (eqb→eq (end_of net.arcs s p) t (subst T (sym f) tt))))
      split false f m k = flat_map-i (deeper net s t D d most n) (keep-i (may_arrive net.arcs s D d most) (extension-i net s p a (partial-next net s p a r x.is-partial)) k) m

  -- all of them are found from the empty chain
  module _ (sound : Sound net) (s-below : s < net.nodes) where
    pub found-e : (x : List ℕ) → T (may_arrive net.arcs s D d most []) → Memᴰ x (deeper net s t D d most (pred net.nodes) []) → InRange net s t d most x
    found-e x k m = deeper-e (pred net.nodes) [] x (partial-nil net s) k m

    pub found-i : (x : List ℕ) → InRange net s t d most x → Memᴰ x (deeper net s t D d most (pred net.nodes) [])
    found-i x i = deeper-i (pred net.nodes) [] x (partial-short net s s-below sound.to_below x i.is-partial) i

-- ---- the list of the request

module _ (net : Net) (sound : Sound net) (s t : ℕ) (s-below : s < net.nodes) (c d shortest : ℕ) (is-shortest : distance net s t ≡ some shortest) where
  abbrev limit : ℕ
  limit = (d + c) * shortest

  test : List ℕ → Bool
  test p = eqb (end_of net.arcs s p) t && in_range net.arcs d ((d + c) * shortest) p

  pub near-e : (x : List ℕ) → Memᴰ x (near net s t c d) → InRange net s t d ((d + c) * shortest) x
  unfolding near near_of in_range test
  near-e x m =
      let k = keep-e test x (partials net s) (subst (λ o. Memᴰ x (near_of net s t c d o)) is-shortest m) in
      let y = eqb (end_of net.arcs s x) t in
      let z = in_range net.arcs d ((d + c) * shortest) x in
      record { is-partial = listed-is-partial net s x k.0; ends = eqb→eq _ _ (and_l y z k.1); in-range = leb→le _ _ (and_r y z k.1) }

  pub near-i : (x : List ℕ) → InRange net s t d ((d + c) * shortest) x → Memᴰ x (near net s t c d)
  unfolding near near_of in_range test
  near-i x r =
      subst (λ o. Memᴰ x (near_of net s t c d o)) (sym is-shortest)
      (keep-i test (partial-is-listed net s s-below sound.to_below x r.is-partial)
      (and_i (eqb (end_of net.arcs s x) t) (in_range net.arcs d ((d + c) * shortest) x) (eq→eqb _ _ r.ends) (le→leb _ _ r.in-range)))

  pub near-increasing : Increasing (length_of net.arcs) (near net s t c d)
  unfolding near near_of test
  near-increasing =
      subst (λ o. Increasing (length_of net.arcs) (near_of net s t c d o)) (sym is-shortest)
      (keep-increasing (length_of net.arcs) test (partials net s) (partials-increasing net s (length_of net.arcs)))

  -- what is found by going deeper, put in its places, is the list
  pub near-found : (D : ℕ → ℕ) → ToGo net t D → insert_all net.arcs [] (deeper net s t D d ((d + c) * shortest) (pred net.nodes) []) ≡ near net s t c d
  near-found D go =
      let l = deeper net s t D d ((d + c) * shortest) (pred net.nodes) [] in
      let f = length_of net.arcs in
      insert_all-is net.arcs l
      ∙ increasing-unique f (in_order f l) (near net s t c d) (in_order-increasing f l) near-increasing
      (λ x m. near-i x (found-e net s t D go d limit sound s-below x may (in_order-e f x l m)))
      (λ x m. in_order-i f (found-i net s t D go d limit sound s-below x (near-e x m)))
    where
      may : T (may_arrive net.arcs s D d ((d + c) * shortest) [])
      may =
          let w = (distance_some net s t s-below sound shortest is-shortest).reached in
          front-may net s t D go d limit [] w.0 (record { is-partial = w.1; ends = w.2; in-range = omega (arith, ap (λ z. z * d) w.3) })

  -- where s and t differ, each listed has an arc
  pub near-long : (s ≡ t → ⊥) → (i : ℕ) → 0 < length_of net.arcs (get_or (near net s t c d) i no_route)
  unfolding length_of end_of
  near-long ne i = all (near net s t c d) i (λ x m. long x (near-e x m))
    where
      long : (x : List ℕ) → InRange net s t d ((d + c) * shortest) x → 0 < length_of net.arcs x
      long [] r = absurd (ne r.ends)
      long (a ∷ x) r = omega (arith, sound.positive a)

      all : (l : List (List ℕ)) (j : ℕ) → ((x : List ℕ) → Memᴰ x l → 0 < length_of net.arcs x) → 0 < length_of net.arcs (get_or l j no_route)
      all [] j h = omega (arith, sound.positive 0)
      all (x ∷ l) zero h = h x (Memᴰ.head refl)
      all (x ∷ l) (suc j) h = all l j (λ y m. h y (Memᴰ.tail m))

-- without a route none is listed
pub near_none : (net : Net) (s t c d : ℕ) → distance net s t ≡ none → near net s t c d ≡ []
unfolding near near_of
near_none net s t c d e = ap (near_of net s t c d) e
