-- The first route to a node by rule 3, and the distance: what `first_to` and `distance` compute. With no earlier route, the live partial routes are these.
use mathlib.Core.Path.{◌≡◌, refl, sym, ap, subst, ◌∙◌}
use mathlib.Core.Logic.{◌⊎◌, inl, inr}
use mathlib.Core.Option.{Option, none, some}
use mathlib.Core.List.Memᴰ
use mathlib.Core.List.{List, [], Memᴰ}
use mathlib.Core.Bool.{Bool}
use Prim.Native.Nat.{ℕ, ◌<◌, ◌≤◌}
use native.Mathlib.Omega.{arith}
use lib.Dec.{T, eqb, eqb→eq}
use Rattle.lists.specs.Tests.{keep}
use Rattle.lists.proofs.TestLaws.{eq→eqb, keep-e, keep-i}
use Rattle.net.specs.Net.{Net}
use Rattle.net.specs.Route.{end_of, partial, length_of, precedes, partials}
use Rattle.net.specs.Round.{Query}
use Rattle.net.proofs.Valid.{Sound}
use Rattle.net.proofs.Order.{AtMost, at-most-same, not_after, not-both, before-most}
use Rattle.net.proofs.Sorted.{Increasing, keep-increasing, head-none, head-some}
use Rattle.net.proofs.Listing.{listed-is-partial, partial-is-listed, partials-increasing}
use Rattle.net.proofs.Live.{Live}
use Rattle.distances.specs.Distance.{first_to, length_in, distance, FirstRoute, Distance, Unreached}
use Rattle.net.proofs.Chains.{partial-chain}
use Rattle.distances.proofs.Dijkstra.{cut-cycles}

at-most-length : (net : Net) (p r : List ℕ) → AtMost (length_of net.arcs) p r → length_of net.arcs p ≤ length_of net.arcs r
at-most-length net p r (inl e) = omega (arith, ap (length_of net.arcs) e)
at-most-length net p r (inr h) = before-most (length_of net.arcs) p r h

-- its length is the distance
pub first-distance : (net : Net) (s v : ℕ) (p : List ℕ) → FirstRoute net s v p → Distance net s v (length_of net.arcs p)
first-distance net s v p f =
    record {
      reached = (p, f.is-partial, f.ends, refl);
      least = λ q c e.
          let w = cut-cycles net s q c in
          omega (arith, w.3, at-most-length net p w.0 (f.leads w.0 w.1 (w.2 ∙ e)));
    }

pub distance-unique : (net : Net) (s v d e : ℕ) → Distance net s v d → Distance net s v e → d ≡ e
unfolding partial
distance-unique net s v d e x y =
    let p = x.reached in
    let q = y.reached in
    let l = x.least q.0 (partial-chain net s q.0 q.1) q.2 in
    let m = y.least p.0 (partial-chain net s p.0 p.1) p.2 in
    omega (arith, p.3, q.3)

module _ (net : Net) (s v : ℕ) (s-below : s < net.nodes) (sound : Sound net) where
  ending : List ℕ → Bool
  ending p = eqb (end_of net.arcs s p) v

  listed : List (List ℕ)
  listed = keep ending (partials net s)

  listed-increasing : Increasing (length_of net.arcs) listed
  unfolding listed
  listed-increasing = keep-increasing (length_of net.arcs) ending (partials net s) (partials-increasing net s (length_of net.arcs))

  listed-e : (p : List ℕ) → Memᴰ p listed → T (partial net s p) × (end_of net.arcs s p ≡ v)
  unfolding listed ending
  listed-e p m = let k = keep-e ending p (partials net s) m in (listed-is-partial net s p k.0, eqb→eq _ _ k.1)

  listed-i : (p : List ℕ) → T (partial net s p) → end_of net.arcs s p ≡ v → Memᴰ p listed
  unfolding listed ending
  listed-i p h e = keep-i ending (partial-is-listed net s s-below sound.to_below p h) (eq→eqb _ _ e)

  pub first_some : (p : List ℕ) → first_to net s v ≡ some p → FirstRoute net s v p
  unfolding first_to listed ending
  first_some p e =
      let f = head-some (length_of net.arcs) listed p listed-increasing e in
      let k = listed-e p f.stands in
      record { is-partial = k.0; ends = k.1; leads = λ r h z. flip r (f.leads r (listed-i r h z)) }
    where
      flip : (r : List ℕ) → (r ≡ p) ⊎ T (precedes net.arcs p r) → AtMost (length_of net.arcs) p r
      flip r (inl z) = inl (sym z)
      flip r (inr z) = inr z

  pub first-none : first_to net s v ≡ none → Unreached net s v
  unfolding first_to listed ending
  first-none e q c z = let w = cut-cycles net s q c in head-none (length_of net.arcs) listed e w.0 (listed-i w.0 w.1 (w.2 ∙ z))

  pub first-is : (p : List ℕ) → FirstRoute net s v p → first_to net s v ≡ some p
  unfolding partial
  first-is p f = go (first_to net s v) refl
    where
      go : (o : Option (List ℕ)) → first_to net s v ≡ o → o ≡ some p
      go none e = absurd (first-none e p (partial-chain net s p f.is-partial) f.ends)
      go (some w) e =
          let g = first_some w e in
          ap some (at-most-same (length_of net.arcs) w p (g.leads p f.is-partial f.ends) (f.leads w g.is-partial g.ends))

  pub distance_some : (d : ℕ) → distance net s v ≡ some d → Distance net s v d
  unfolding distance length_in
  distance_some d e = go (first_to net s v) refl e
    where
      go : (o : Option (List ℕ)) → first_to net s v ≡ o → length_in net o ≡ some d → Distance net s v d
      go none z k = let y : ◌≡◌ {A = ℕ} 0 1 = cc in absurd (omega arith)
      go (some p) z k = let y : length_of net.arcs p ≡ d = cc in subst (Distance net s v) y (first-distance net s v p (first_some p z))

  pub distance_none : distance net s v ≡ none → Unreached net s v
  unfolding distance length_in
  distance_none e = go (first_to net s v) refl e
    where
      go : (o : Option (List ℕ)) → first_to net s v ≡ o → length_in net o ≡ none → Unreached net s v
      go none z k = first-none z
      go (some p) z k = let y : ◌≡◌ {A = ℕ} 0 1 = cc in absurd (omega arith)

  pub distance_is : (d : ℕ) → Distance net s v d → distance net s v ≡ some d
  unfolding partial
  distance_is d h = go (distance net s v) refl
    where
      go : (o : Option ℕ) → distance net s v ≡ o → o ≡ some d
      go none e = let p = h.reached in absurd (distance_none e p.0 (partial-chain net s p.0 p.1) p.2)
      go (some x) e = ap some (distance-unique net s v x d (distance_some x e) h)

  pub distance-is-none : Unreached net s v → distance net s v ≡ none
  unfolding partial
  distance-is-none h = go (distance net s v) refl
    where
      go : (o : Option ℕ) → distance net s v ≡ o → o ≡ none
      go none e = refl
      go (some x) e =
          let p = (distance_some x e).reached in
          absurd (h p.0 (partial-chain net s p.0 p.1) p.2)

-- ---- round 1: with no earlier route, what is live is the first route to its node

pub live-first : (q : Query) (p : List ℕ) → Live q [] p → FirstRoute q.net q.s (end_of q.net.arcs q.s p) p
live-first q p l =
    record {
      is-partial = l.is-partial;
      ends = refl;
      leads = λ r h e. not_after (length_of q.net.arcs) p r (λ k. l.unbeaten r h (record { same_end = e; precedes-it = k; no_more = λ x m. absurd (Memᴰ.not-nil m) }));
    }

pub first_live : (q : Query) (v : ℕ) (p : List ℕ) → FirstRoute q.net q.s v p → Live q [] p
first_live q v p f =
    record {
      is-partial = f.is-partial;
      is_within = λ e m. absurd (Memᴰ.not-nil m);
      unbeaten = λ r h b. not-both (length_of q.net.arcs) p r (f.leads r h (b.same_end ∙ f.ends)) b.precedes-it;
    }
