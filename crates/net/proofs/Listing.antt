-- `partials` lists the partial routes: each that it lists is one, by induction over the levels; and each is listed, since one that visits no node twice has
-- fewer arcs than there are nodes.
use mathlib.Core.Path.{◌≡◌, refl, sym, subst}
use mathlib.Core.Logic.{◌⊎◌, inl, inr, ⊎_elim}
use mathlib.Core.List.Memᴰ
use mathlib.Core.List.{List, [], ◌∷◌, ◌++◌, map, flat_map, append_assoc, Memᴰ}
use mathlib.Core.Bool.{Bool, not}
use Prim.Native.Nat.{ℕ, zero, suc, pred, ◌<◌, ◌≤◌, ◌+◌}
use native.Mathlib.Omega.{arith}
use lib.Dec.{T, T_not, not_T}
use lib.ListN.{length, length-map}
use Rattle.lists.specs.Tests.{has, distinct, up_from, keep}
use Rattle.net.specs.Net.{Net, arc}
use Rattle.net.specs.Route.{visited, end_of, leaves, chain, partial, length_of, leaving, extensions, grow, partials_by, partials}
use Rattle.lists.proofs.TestLaws.{and_r, has→mem, mem→has, keep-e, keep-i}
use Rattle.lists.proofs.MemberLaws.{up_from-i, length-up_from, flat_map-e, flat_map-i, distinct-length}
use Rattle.net.proofs.Sorted.{Increasing, in_order-e, in_order-i, in_order-increasing}
use Rattle.net.proofs.Chains.{leaves-e, Next, partial-nil, partial-next, partial-more, end-visited}

-- ---- the listing

module _ (net : Net) (s : ℕ) where
  pub leaving-e : (v a : ℕ) → Memᴰ a (leaving net v) → T (leaves net v a)
  unfolding leaving
  leaving-e v a m = (keep-e (leaves net v) a (up_from 0 (length net.arcs)) m).1

  pub leaving-i : (v a : ℕ) → T (leaves net v a) → Memᴰ a (leaving net v)
  unfolding leaving
  leaving-i v a h = keep-i (leaves net v) (up_from-i 0 (length net.arcs) a (omega arith) (omega (arith, (leaves-e net v a h).is-arc))) h

  -- arc a goes to a node that p does not visit
  new : List ℕ → ℕ → Bool
  new p a = not (has (arc net.arcs a).to (visited net.arcs s p))

  pub extension-e : (p x : List ℕ) → Memᴰ x (extensions net s p) → (a : ℕ) × Next net s p a × (x ≡ p ++ (a ∷ []))
  unfolding extensions new
  extension-e p x m =
      let w = Memᴰ.of_map (λ a. p ++ (a ∷ [])) (keep (new p) (leaving net (end_of net.arcs s p))) m in
      let k = keep-e (new p) w.0 (leaving net (end_of net.arcs s p)) w.1 in (
        w.0,
        record {
          leaves-end = leaving-e (end_of net.arcs s p) w.0 k.0;
          is-new = λ v. T_not (has (arc net.arcs w.0).to (visited net.arcs s p)) k.1 (mem→has v);
        },
        sym w.2,
      )

  pub extension-i : (p : List ℕ) (a : ℕ) → Next net s p a → Memᴰ (p ++ (a ∷ [])) (extensions net s p)
  unfolding extensions new
  extension-i p a n =
      Memᴰ.map (λ b. p ++ (b ∷ []))
      (keep-i (new p) (leaving-i (end_of net.arcs s p) a n.leaves-end)
      (not_T (has (arc net.arcs a).to (visited net.arcs s p)) (λ h. n.is-new (has→mem (arc net.arcs a).to (visited net.arcs s p) h))))

  grow-sound : (n : ℕ) (ps : List (List ℕ)) → ((p : List ℕ) → Memᴰ p ps → T (partial net s p)) → (x : List ℕ) → Memᴰ x (grow net s n ps) → T (partial net s x)
  unfolding grow
  grow-sound zero ps h x m = h x m
  grow-sound (suc n) ps h x m =
      ⊎_elim (h x) (grow-sound n (flat_map (extensions net s) ps) more x) (Memᴰ.append_cases ps m)
    where
      more : (p : List ℕ) → Memᴰ p (flat_map (extensions net s) ps) → T (partial net s p)
      more p k =
          let w = flat_map-e (extensions net s) p ps k in
          let e = extension-e w.0 p w.2 in
          subst (λ l. T (partial net s l)) (sym e.2) (partial-more net s w.0 e.0 (h w.0 w.1) e.1)

  grow-complete : (n : ℕ) (ps : List (List ℕ)) (p r : List ℕ) → Memᴰ p ps → length r ≤ n → T (partial net s (p ++ r)) → Memᴰ (p ++ r) (grow net s n ps)
  unfolding grow
  grow-complete zero ps p [] m l h = Memᴰ.cast (mathlib.Core.List.append-nil p) m
  grow-complete zero ps p (a ∷ r) m l h = absurd (omega arith)
  grow-complete (suc n) ps p [] m l h = Memᴰ.append_left (grow net s n (flat_map (extensions net s) ps)) (Memᴰ.cast (mathlib.Core.List.append-nil p) m)
  grow-complete (suc n) ps p (a ∷ r) m l h =
      let e = append_assoc p (a ∷ []) r in
      Memᴰ.append_right ps
      (Memᴰ.cast (sym e)
      (grow-complete n (flat_map (extensions net s) ps) (p ++ (a ∷ [])) r (flat_map-i (extensions net s) m (extension-i p a (partial-next net s p a r h))) (omega arith)
      (subst (λ z. T (partial net s z)) (sym e) h)))

  -- the order changes nothing in what is listed
  pub listed_by : (f g : List ℕ → ℕ) (p : List ℕ) → Memᴰ p (partials_by f net s) → Memᴰ p (partials_by g net s)
  unfolding partials_by
  listed_by f g p m = in_order-i g (in_order-e f p (grow net s (pred net.nodes) ([] ∷ [])) m)

  pub listed-is-partial : (p : List ℕ) → Memᴰ p (partials net s) → T (partial net s p)
  unfolding partials_by
  listed-is-partial p m =
      grow-sound (pred net.nodes) ([] ∷ []) (λ q k. subst (λ l. T (partial net s l)) (sym (Memᴰ.eq_of_singleton k)) (partial-nil net s)) p
      (in_order-e (length_of net.arcs) p (grow net s (pred net.nodes) ([] ∷ [])) m)

  pub short-is-listed : (p : List ℕ) → length p ≤ pred net.nodes → T (partial net s p) → Memᴰ p (partials net s)
  unfolding partials_by
  short-is-listed p l h = in_order-i (length_of net.arcs) (grow-complete (pred net.nodes) ([] ∷ []) [] p (Memᴰ.head refl) l h)

  pub partials-increasing : (f : List ℕ → ℕ) → Increasing f (partials_by f net s)
  unfolding partials_by
  partials-increasing f = in_order-increasing f (grow net s (pred net.nodes) ([] ∷ []))

  -- where s and every arc's end are below the node count, no partial route is longer than the listing goes
  module _ (s-below : s < net.nodes) (to_below : (a : ℕ) → (arc net.arcs a).to < net.nodes) where
    visits-below : (p : List ℕ) (v : ℕ) → Memᴰ v (visited net.arcs s p) → v < net.nodes
    unfolding visited
    visits-below p v m = go (Memᴰ.cases_cons m)
      where
        go : (v ≡ s) ⊎ Memᴰ v (map (λ a. (arc net.arcs a).to) p) → v < net.nodes
        go (inl e) = omega arith
        go (inr k) = let w = Memᴰ.of_map (λ a. (arc net.arcs a).to) p k in omega (arith, to_below w.0, w.2)

    pub partial-short : (p : List ℕ) → T (partial net s p) → length p ≤ pred net.nodes
    unfolding partial visited
    partial-short p h =
        let l = distinct-length (visited net.arcs s p) (up_from 0 net.nodes) (and_r (chain net s p) (distinct (visited net.arcs s p)) h)
        (λ v m. up_from-i 0 net.nodes v (omega arith) (omega (arith, visits-below p v m))) in
        omega (arith, length-map p (λ a. (arc net.arcs a).to), length-up_from 0 net.nodes)

    pub partial-is-listed : (p : List ℕ) → T (partial net s p) → Memᴰ p (partials net s)
    partial-is-listed p h = short-is-listed p (partial-short p h) h

    pub end_below : (p : List ℕ) → end_of net.arcs s p < net.nodes
    end_below p = visits-below p (end_of net.arcs s p) (end-visited net.arcs s p)
