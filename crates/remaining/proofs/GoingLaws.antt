-- An arc that falls short lowers the node that it leaves to a chain's length, and the sum falls. Where no arc falls short any more, the numbers are the distances: a chain
-- has that length, none is shorter (`far-at-most`), and a chain can be cut to a partial route.
use mathlib.Core.Path.{◌≡◌, refl, sym, ap, subst, ◌∙◌}
use mathlib.Core.Logic.{◌≢◌, ◌⊎◌, inl, inr, ⊎_elim}
use mathlib.Core.Option.{none, some}
use mathlib.Core.List.{List, ◌∷◌}
use Prim.Native.Nat.{ℕ, zero, suc, ◌+◌, ◌≤◌, ◌<◌}
use native.Mathlib.Omega.{arith}
use native.Mathlib.Decide.{ℕ_discrete}
use lib.Dec.{T}
use Rattle.net.specs.Net.{Net, arc}
use Rattle.net.specs.Route.{end_of, chain, partial, length_of}
use Rattle.net.proofs.Valid.{Sound}
use Rattle.net.proofs.Chains.{leaves-i, cons-chain, partial-chain}
use Rattle.distances.specs.Distance.{distance}
use Rattle.distances.specs.Search.{Open}
use Rattle.distances.proofs.Dijkstra.{cut-cycles}
use Rattle.distances.proofs.First.{distance_is, distance-is-none}
use Rattle.distances.proofs.Greedy.{far-at-most}
use Rattle.variety.specs.Deeper.{ToGo}
use Rattle.remaining.specs.Going.{Goes, Going, total}

-- ---- a sum

total-same : (n : ℕ) (f g : ℕ → ℕ) → ((v : ℕ) → v < n → f v ≡ g v) → total n f ≡ total n g
unfolding total
total-same zero f g h = refl
total-same (suc n) f g h = omega (arith, total-same n f g (λ v l. h v (omega arith)), h n (omega arith))

-- one is less, the others are the same
pub total-less : (n w : ℕ) (f g : ℕ → ℕ) → w < n → f w < g w → ((v : ℕ) → v ≢ w → f v ≡ g v) → total n f < total n g
unfolding total
total-less zero w f g h l s = absurd (omega arith)
total-less (suc n) w f g h l s = go (ℕ_discrete w n) (λ k. total-less n w f g k l s)
  where
    go : Dec (w ≡ n) → (w < n → total n f < total n g) → total n f + f n < total n g + g n
    go (yes e) less = omega (arith, total-same n f g (λ v k. s v (λ z. let y : v < w = omega arith in omega arith)), ap f e, ap g e)
    go (no e) less = omega (arith, less (omega arith), s n (λ z. e (sym z)))

-- ---- an arc that falls short

module _ (net : Net) (t far : ℕ) (D D' : ℕ → ℕ) (g : Going net t far D) (a : ℕ) (is_open : Open net a)
    (short : D (arc net.arcs a).to + (arc net.arcs a).len < D (arc net.arcs a).from)
    (new : D' (arc net.arcs a).from ≡ D (arc net.arcs a).to + (arc net.arcs a).len) (same : (v : ℕ) → v ≢ (arc net.arcs a).from → D' v ≡ D v) where
  u : ℕ
  u = (arc net.arcs a).from

  -- the chain of the node that it comes to, with this arc in front
  longer : Goes net t (arc net.arcs a).from (D (arc net.arcs a).to + (arc net.arcs a).len)
  unfolding end_of length_of
  longer =
      let w = g.real (arc net.arcs a).to (omega (arith, g.most (arc net.arcs a).from)) in
      record {
        by = a ∷ w.by;
        is-chain = cons-chain net (arc net.arcs a).from a w.by (leaves-i net (arc net.arcs a).from a (record { is-arc = is_open.0; is-usable = is_open.1; starts = refl })) w.is-chain;
        ends = w.ends;
        is-long = omega (arith, w.is-long);
      }

  pub going-lower : Going net t far D'
  unfolding u
  going-lower =
      record {
        zero-t = same t (λ e. let z : D u ≡ 0 = ap D (sym e) ∙ g.zero-t in omega arith) ∙ g.zero-t;
        most = λ v. ⊎_elim (λ e. omega (arith, ap D' e, g.most u)) (λ e. omega (arith, same v e, g.most v)) (at v);
        real = λ v h. ⊎_elim
            (λ e. let z : D' v ≡ D (arc net.arcs a).to + (arc net.arcs a).len = ap D' e ∙ new in
            subst (λ x. Goes net t x (D' v)) (sym e) (subst (λ n. Goes net t u n) (sym z) longer))
            (λ e. subst (λ n. Goes net t v n) (sym (same v e)) (g.real v (omega (arith, same v e)))) (at v);
      }
    where
      at : (v : ℕ) → (v ≡ u) ⊎ (v ≢ u)
      at v = go (ℕ_discrete v u)
        where
          go : Dec (v ≡ u) → (v ≡ u) ⊎ (v ≢ u)
          go (yes e) = inl e
          go (no e) = inr e

-- ---- in the end

module _ (net : Net) (sound : Sound net) (s t far : ℕ) (s-below : s < net.nodes) (D : ℕ → ℕ) (g : Going net t far D) (h : ToGo net t D) where
  at_most : (q : List ℕ) → T (chain net s q) → end_of net.arcs s q ≡ t → D s ≤ length_of net.arcs q
  at_most q c e = far-at-most net t D h.zero-t h.relaxed s q c e

  pub go-distance : D s < far → distance net s t ≡ some (D s)
  go-distance l =
      let w = g.real s l in
      let x = cut-cycles net s w.by w.is-chain in
      let m = at_most x.0 (partial-chain net s x.0 x.1) (x.2 ∙ w.ends) in
      distance_is net s t s-below sound (D s) (record { reached = (x.0, x.1, x.2 ∙ w.ends, omega (arith, x.3, w.is-long)); least = at_most })

  -- where `far` is further than any partial route
  pub go-none : ((p : List ℕ) → T (partial net s p) → length_of net.arcs p < far) → far ≤ D s → distance net s t ≡ none
  go-none most l =
      distance-is-none net s t s-below sound
      (λ q c e. let x = cut-cycles net s q c in absurd (omega (arith, most x.0 x.1, at_most x.0 (partial-chain net s x.0 x.1) (x.2 ∙ e))))
