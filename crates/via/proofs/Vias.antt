-- The candidates: each is a route, and the first of them is the first route.
use mathlib.Core.Path.{◌≡◌, refl, sym, ap, ◌∙◌}
use mathlib.Core.Logic.{inl, inr, ⊎_elim}
use mathlib.Core.Option.{Option, none, some}
use mathlib.Core.List.Memᴰ
use mathlib.Core.List.{List, [], ◌++◌, head?, flat_map, Memᴰ}
use Prim.Native.Nat.{ℕ, ◌<◌}
use native.Mathlib.Omega.{arith}
use lib.Dec.{T}
use Rattle.lists.specs.Tests.{up_from}
use Rattle.lists.proofs.TestLaws.{keep-e, keep-i}
use Rattle.lists.proofs.MemberLaws.{up_from-i, up_from-e, flat_map-e, flat_map-i}
use Rattle.net.specs.Net.{Net}
use Rattle.net.specs.Route.{end_of, partial, length_of}
use Rattle.net.proofs.Valid.{Sound}
use Rattle.net.proofs.Order.{at-most-same}
use Rattle.net.proofs.Sorted.{Increasing, head-none, head-some, in_order-e, in_order-i, in_order-increasing}
use Rattle.via.specs.Via.{first_route, join, via_of, vias}
use Rattle.distances.proofs.Walks.{end_of-append}
use Rattle.via.proofs.First.{first-route-e, first-route-self, first-route-some}

-- ---- the candidates

module _ (net : Net) (sound : Sound net) (s t : ℕ) (s-below : s < net.nodes) where
  -- c is the candidate of node v
  pub record Via (c : List ℕ) : Type 0 where
    pub v : ℕ
    pub v_below : v < net.nodes
    pub to-v : List ℕ
    pub from-v : List ℕ
    pub is-to : first_route net s v ≡ some to-v
    pub is-from : first_route net v t ≡ some from-v
    pub is : c ≡ to-v ++ from-v
    pub is-partial : T (partial net s c)

  join-e : (a b : Option (List ℕ)) (c : List ℕ) → Memᴰ c (join a b) → (p : List ℕ) × (r : List ℕ) × (a ≡ some p) × (b ≡ some r) × (c ≡ p ++ r)
  unfolding join
  join-e none b c m = absurd (Memᴰ.not-nil m)
  join-e (some p) none c m = absurd (Memᴰ.not-nil m)
  join-e (some p) (some r) c m = (p, r, refl, refl, Memᴰ.eq_of_singleton m)

  join-i : (a b : Option (List ℕ)) (p r c : List ℕ) → a ≡ some p → b ≡ some r → c ≡ p ++ r → Memᴰ c (join a b)
  unfolding join
  join-i a b p r c d e f = rw (d, e) (Memᴰ.head f)

  pub via-e : (c : List ℕ) → Memᴰ c (vias net s t) → Via c
  unfolding vias via_of
  via-e c m =
      let w = flat_map-e (via_of net s t) c (up_from 0 net.nodes) (in_order-e (length_of net.arcs) c _ m) in
      let k = keep-e (partial net s) c (join (first_route net s w.0) (first_route net w.0 t)) w.2 in
      let j = join-e (first_route net s w.0) (first_route net w.0 t) c k.0 in
      record {
        v = w.0;
        v_below = omega (arith, up_from-e 0 net.nodes w.0 w.1);
        to-v = j.0;
        from-v = j.1;
        is-to = j.2;
        is-from = j.3;
        is = j.4;
        is-partial = k.1;
      }

  pub via-i : (c : List ℕ) → Via c → Memᴰ c (vias net s t)
  unfolding vias via_of join
  via-i c x =
      in_order-i (length_of net.arcs) (flat_map-i (via_of net s t) (up_from-i 0 net.nodes x.v (omega arith) (omega (arith, x.v_below)))
      (keep-i (partial net s) (join-i (first_route net s x.v) (first_route net x.v t) x.to-v x.from-v c x.is-to x.is-from x.is) x.is-partial))

  pub vias-increasing : Increasing (length_of net.arcs) (vias net s t)
  unfolding vias
  vias-increasing = in_order-increasing (length_of net.arcs) (flat_map (via_of net s t) (up_from 0 net.nodes))

  -- a candidate is a route from s to t
  pub via-ends : (c : List ℕ) → Via c → end_of net.arcs s c ≡ t
  via-ends c x =
      let a = first-route-e net sound s x.v s-below x.to-v x.is-to in
      let b = first-route-e net sound x.v t x.v_below x.from-v x.is-from in
      ap (end_of net.arcs s) x.is ∙ end_of-append net.arcs s x.to-v x.from-v ∙ ap (λ z. end_of net.arcs z x.from-v) a.ends ∙ b.ends

  -- the first route is the candidate of s
  first-via : (w : List ℕ) → first_route net s t ≡ some w → Via w
  first-via w e =
      record { v = s; v_below = s-below; to-v = []; from-v = w; is-to = first-route-self net sound s s-below; is-from = e; is = refl; is-partial = (first-route-e net sound s t s-below w e).is-partial }

  -- and the first of all; without one there is no candidate
  pub vias-first : head? (vias net s t) ≡ first_route net s t
  vias-first = go (head? (vias net s t)) refl (first_route net s t) refl
    where
      go : (h : Option (List ℕ)) → head? (vias net s t) ≡ h → (o : Option (List ℕ)) → first_route net s t ≡ o → h ≡ o
      go none d none e = refl
      go none d (some w) e = absurd (head-none (length_of net.arcs) (vias net s t) d w (via-i w (first-via w e)))
      go (some c) d none e = let x = via-e c (head-some (length_of net.arcs) (vias net s t) c vias-increasing d).stands in absurd (first-route-some net sound s t s-below e c x.is-partial (via-ends c x))
      go (some c) d (some w) e =
          let f = head-some (length_of net.arcs) (vias net s t) c vias-increasing d in
          let x = via-e c f.stands in
          ap some (at-most-same (length_of net.arcs) c w (⊎_elim (λ k. inl (sym k)) inr (f.leads w (via-i w (first-via w e)))) ((first-route-e net sound s t s-below w e).leads c x.is-partial (via-ends c x)))
