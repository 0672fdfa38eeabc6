-- More of chains: joined ones, and those along which a number of the nodes rises.
use mathlib.Core.Path.{◌≡◌, refl, sym, ap, subst}
use mathlib.Core.Logic.{◌⊎◌, inl, inr}
use mathlib.Core.List.Memᴰ
use mathlib.Core.List.{List, [], ◌∷◌, ◌++◌, map, Memᴰ}
use mathlib.Core.Bool.{not}
use Prim.Native.Nat.{ℕ, ◌<◌}
use native.Mathlib.Omega.{arith}
use lib.Dec.{T, not_T}
use Rattle.lists.specs.Tests.{has, distinct}
use Rattle.lists.proofs.TestLaws.{and_i, has→mem}
use Rattle.net.specs.Net.{Arc, Net, arc}
use Rattle.net.specs.Route.{visited, end_of, chain}
use Rattle.net.proofs.Chains.{Leaves, leaves-e, chain-cons, cons-chain, chain_next}
use Rattle.distances.specs.Search.{Open}

pub end_of-append : (arcs : List Arc) (s : ℕ) (p r : List ℕ) → end_of arcs s (p ++ r) ≡ end_of arcs (end_of arcs s p) r
unfolding end_of
end_of-append arcs s [] r = refl
end_of-append arcs s (a ∷ p) r = end_of-append arcs (arc arcs a).to p r

module _ (net : Net) where
  pub open-arcs : (v : ℕ) (q : List ℕ) → T (chain net v q) → (a : ℕ) → Memᴰ a q → Open net a
  open-arcs v [] h a m = absurd (Memᴰ.not-nil m)
  open-arcs v (b ∷ q) h a m = go (λ k. open-arcs (arc net.arcs b).to q (chain-cons net v b q h).1 a k) (Memᴰ.cases_cons m)
    where
      go : (Memᴰ a q → Open net a) → (a ≡ b) ⊎ Memᴰ a q → Open net a
      go below (inl e) = let l = leaves-e net v b (chain-cons net v b q h).0 in subst (Open net) (sym e) (l.is-arc, l.is-usable)
      go below (inr k) = below k

  pub chain-join : (s : ℕ) (p r : List ℕ) → T (chain net s p) → T (chain net (end_of net.arcs s p) r) → T (chain net s (p ++ r))
  unfolding end_of
  chain-join s [] r h k = k
  chain-join s (a ∷ p) r h k = let c = chain-cons net s a p h in cons-chain net s a (p ++ r) c.0 (chain-join (arc net.arcs a).to p r c.1 k)

  pub chain_back : (s : ℕ) (p r : List ℕ) → T (chain net s (p ++ r)) → T (chain net (end_of net.arcs s p) r)
  unfolding end_of
  chain_back s [] r h = h
  chain_back s (a ∷ p) r h = chain_back (arc net.arcs a).to p r (chain-cons net s a (p ++ r) h).1

  -- a chain that has arc b, cut there
  module _ (s : ℕ) (p : List ℕ) (b : ℕ) (r : List ℕ) (h : T (chain net s (p ++ (b ∷ r)))) where
    pub cut-leaves : Leaves net (end_of net.arcs s p) b
    cut-leaves = leaves-e net (end_of net.arcs s p) b (chain_next net s p b r h)

    pub cut-rest : T (chain net (arc net.arcs b).to r)
    cut-rest = (chain-cons net (end_of net.arcs s p) b r (chain_back s p (b ∷ r) h)).1

    pub cut-end : end_of net.arcs s (p ++ (b ∷ r)) ≡ end_of net.arcs (arc net.arcs b).to r
    unfolding end_of
    cut-end = end_of-append net.arcs s p (b ∷ r)

  -- ---- a number φ of the nodes rises along each arc of a chain

  module _ (φ : ℕ → ℕ) where
    abbrev pub Rising : List ℕ → Type 0
    Rising p = (a : ℕ) → Memᴰ a p → φ (arc net.arcs a).from < φ (arc net.arcs a).to

    rising-after : (s : ℕ) (p : List ℕ) → T (chain net s p) → Rising p → (v : ℕ) → Memᴰ v (map (λ a. (arc net.arcs a).to) p) → φ s < φ v
    rising-after s [] h r v m = absurd (Memᴰ.not-nil m)
    rising-after s (a ∷ p) h r v m =
        let c = chain-cons net s a p h in
        let e : (arc net.arcs a).from ≡ s = (leaves-e net s a c.0).starts in
        let l : φ s < φ (arc net.arcs a).to = subst (λ x. φ x < φ (arc net.arcs a).to) e (r a (Memᴰ.head refl)) in
        go l (rising-after (arc net.arcs a).to p c.1 (λ b k. r b (Memᴰ.tail k)) v) (Memᴰ.cases_cons m)
      where
        go : φ s < φ (arc net.arcs a).to → (Memᴰ v (map (λ b. (arc net.arcs b).to) p) → φ (arc net.arcs a).to < φ v)
            → (v ≡ (arc net.arcs a).to) ⊎ Memᴰ v (map (λ b. (arc net.arcs b).to) p) → φ s < φ v
        go l below (inl e) = omega (arith, ap φ e)
        go l below (inr k) = omega (arith, below k)

    -- such a chain visits no node twice
    pub rising-simple : (s : ℕ) (p : List ℕ) → T (chain net s p) → Rising p → T (distinct (visited net.arcs s p))
    unfolding distinct visited has
    rising-simple s [] h r = tt
    rising-simple s (a ∷ p) h r =
        let c = chain-cons net s a p h in
        let l = visited net.arcs (arc net.arcs a).to p in
        and_i (not (has s l)) (distinct l)
        (not_T (has s l) (λ k. absurd (omega (arith, rising-after s (a ∷ p) h r s (has→mem s l k)))))
        (rising-simple (arc net.arcs a).to p c.1 (λ b k. r b (Memᴰ.tail k)))
