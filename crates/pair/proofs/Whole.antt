-- Where one of the two searches does not reach t there is no pair, with the bounds that this needs.
use mathlib.Core.Path.{◌≡◌, refl, ap, subst}
use mathlib.Core.Logic.{◌⊎◌, inl, inr}
use mathlib.Core.Option.{none}
use mathlib.Core.List.{List}
use mathlib.Core.Bool.{cond}
use Rattle.lists.specs.Tests.{has}
use Prim.Native.Nat.{ℕ, pred, ◌+◌, ◌*◌, ◌<◌, ◌≤◌}
use native.Mathlib.Omega.{arith}
use native.Mathlib.Nat.{mul-le-mul_right, le_trans}
use lib.Dec.{T}
use lib.ListN.{length, get_or-eq_default}
use Rattle.lists.proofs.Cases.{order}
use Rattle.net.specs.Net.{Net, arc, no_arc}
use Rattle.net.specs.Route.{partial, length_of}
use Rattle.net.proofs.Valid.{Sound}
use Rattle.net.proofs.Lengths.{length_of-most}
use Rattle.net.proofs.Listing.{partial-short}
use Rattle.pair.specs.Pair.{NoPair, least_total}
use Rattle.distances.specs.Turned.{turned, detour, residual}
use Rattle.distances.specs.Search.{Found}
use Rattle.distances.proofs.Dijkstra.{found-steady, found-unreached}
use Rattle.pair.specs.Walked.{Shortest}
use Rattle.pair.proofs.Least.{shortest-route}
use Rattle.distances.proofs.Turned.{turned-arcs}
use Rattle.pair.proofs.Two.{residual-arc, Back, Forth, two_none, none-without}
use Rattle.pair.proofs.Total.{none-total}

module _ (net : Net) (π : ℕ → ℕ) (P : List ℕ) where
  -- a number past the arcs names no arc here either
  residual-past : (a : ℕ) → length net.arcs ≤ a → arc (residual net π P).arcs a ≡ no_arc
  unfolding residual
  residual-past a h =
      get_or-eq_default (residual net π P).arcs no_arc {n = a} (omega (arith, turned-arcs net (λ x. has x P) (λ x. cond (has x P) 0 (detour net π x))))

  pub residual-nodes : (residual net π P).nodes ≡ net.nodes
  unfolding residual turned
  residual-nodes = refl

  module _ (from-below : (a : ℕ) → (arc net.arcs a).from < net.nodes) (to_below : (a : ℕ) → (arc net.arcs a).to < net.nodes) where
    pub residual-below : (a : ℕ) → (arc (residual net π P).arcs a).to < (residual net π P).nodes
    residual-below a = go (order (length net.arcs) a)
      where
        at : Back net π P a ⊎ Forth net π P a → (arc (residual net π P).arcs a).to < (residual net π P).nodes
        at (inl b) = omega (arith, b.to_is, from-below a, residual-nodes)
        at (inr f) = omega (arith, f.to_is, to_below a, residual-nodes)

        go : (length net.arcs ≤ a) ⊎ (a < length net.arcs) → (arc (residual net π P).arcs a).to < (residual net π P).nodes
        go (inl h) = omega (arith, ap (λ x. x.to) (residual-past a h), to_below a, residual-nodes)
        go (inr h) = at (residual-arc net π P a h)

    -- no partial route of the residual net is longer than the nodes times the longest detour
    module _ (m : ℕ) (one : 1 ≤ m) (most : (a : ℕ) → detour net π a ≤ m) (s : ℕ) (s-below : s < net.nodes) where
      residual-len : (a : ℕ) → (arc (residual net π P).arcs a).len ≤ m
      residual-len a = go (order (length net.arcs) a)
        where
          at : Back net π P a ⊎ Forth net π P a → (arc (residual net π P).arcs a).len ≤ m
          at (inl b) = omega (arith, b.free)
          at (inr f) = omega (arith, f.costs, most a)

          go : (length net.arcs ≤ a) ⊎ (a < length net.arcs) → (arc (residual net π P).arcs a).len ≤ m
          go (inl h) = omega (arith, ap (λ x. x.len) (residual-past a h))
          go (inr h) = at (residual-arc net π P a h)

      pub residual-most : (p : List ℕ) → T (partial (residual net π P) s p) → length_of (residual net π P).arcs p ≤ pred net.nodes * m
      residual-most p h =
          let b : s < (residual net π P).nodes = omega (arith, residual-nodes) in
          let l : length p ≤ pred net.nodes = subst (λ x. length p ≤ pred x) residual-nodes (partial-short (residual net π P) s b residual-below p h) in
          le_trans (length_of-most (residual net π P).arcs m residual-len p) (mul-le-mul_right m l)

-- ---- no pair

module _ (net : Net) (s t : ℕ) (s-below : s < net.nodes) (sound : Sound net) (far : ℕ) (π parent : ℕ → ℕ) (one : Found net s far π parent)
    (m : ℕ) (most : (a : ℕ) → (arc net.arcs a).len ≤ m) where
  -- t is not reached by the first search
  pub first-none : pred net.nodes * m < far → far ≤ π t → NoPair net s t × (least_total net s t ≡ none)
  first-none fits h =
      let n = none-without net s t (found-unreached net s far π parent one
      (λ p k. let l : length_of net.arcs p ≤ pred net.nodes * m = le_trans (length_of-most net.arcs m most p) (mul-le-mul_right m (partial-short net s s-below sound.to_below p k)) in omega arith) t h) in
      (n, none-total net s t s-below sound n)

  -- nor by the second, through the residual net of the first's route to t
  module _ (P : List ℕ) (short : Shortest net s t π parent P) (far₂ : ℕ) (d parent₂ : ℕ → ℕ) (two : Found (residual net π P) s far₂ d parent₂)
      (from-below : (a : ℕ) → (arc net.arcs a).from < net.nodes) where
    detour-most : (a : ℕ) → detour net π a ≤ m + far
    unfolding detour
    detour-most a = omega (arith, most a, one.most (arc net.arcs a).from)

    pub whole-none : pred net.nodes * (m + far) < far₂ → far₂ ≤ d t → NoPair net s t × (least_total net s t ≡ none)
    whole-none fits h =
        let n = two_none net s t π (found-steady net s far π parent one) P (shortest-route net s t π parent P short) short.is-long d (found-steady (residual net π P) s far₂ d parent₂ two)
        far₂ parent₂ two (λ p k. omega (arith, residual-most net π P from-below sound.to_below (m + far) (omega (arith, most 0, sound.positive 0)) detour-most s s-below p k)) h in
        (n, none-total net s t s-below sound n)
