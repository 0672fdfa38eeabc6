-- Chains and partial routes (rule 1), by induction along their arcs: their beginnings, one arc more, and the node where a chain can be cut.
use mathlib.Core.Path.{◌≡◌, refl, sym, ap, subst}
use mathlib.Core.Logic.{◌⊎◌, inl, inr}
use mathlib.Core.List.Memᴰ
use mathlib.Core.List.{List, [], ◌∷◌, ◌++◌, map, map-append, Memᴰ}
use mathlib.Core.Bool.{◌&&◌}
use Prim.Native.Nat.{ℕ, ◌<◌}
use lib.Dec.{T, ltb, eqb, ltb→lt, lt→ltb, eqb→eq}
use lib.ListN.{length}
use Rattle.lists.specs.Tests.{distinct}
use Rattle.net.specs.Net.{Arc, Net, arc}
use Rattle.net.specs.Route.{visited, end_of, leaves, chain, partial}
use Rattle.lists.proofs.TestLaws.{and_i, and_l, and_r, eq→eqb}
use Rattle.lists.proofs.MemberLaws.{distinct-front, distinct-new, distinct_more}

-- ---- the nodes that a chain visits

module _ (arcs : List Arc) where
  pub end_of-more : (s : ℕ) (p : List ℕ) (a : ℕ) → end_of arcs s (p ++ (a ∷ [])) ≡ (arc arcs a).to
  unfolding end_of
  end_of-more s [] a = refl
  end_of-more s (b ∷ p) a = end_of-more (arc arcs b).to p a

  pub visited-append : (s : ℕ) (p r : List ℕ) → visited arcs s (p ++ r) ≡ visited arcs s p ++ map (λ a. (arc arcs a).to) r
  unfolding visited
  visited-append s p r = ap (λ l. s ∷ l) (map-append (λ a. (arc arcs a).to) p r)

  pub end-visited : (s : ℕ) (p : List ℕ) → Memᴰ (end_of arcs s p) (visited arcs s p)
  unfolding visited end_of
  end-visited s [] = Memᴰ.head refl
  end-visited s (a ∷ p) = Memᴰ.tail (end-visited (arc arcs a).to p)

  -- a chain that visits a node has a beginning that ends there
  pub cut_at : (s : ℕ) (p : List ℕ) (v : ℕ) → Memᴰ v (visited arcs s p) → (p₁ : List ℕ) × (p₂ : List ℕ) × (p ≡ p₁ ++ p₂) × (end_of arcs s p₁ ≡ v)
  unfolding visited end_of
  cut_at s [] v m = ([], [], refl, sym (Memᴰ.eq_of_singleton m))
  cut_at s (a ∷ p) v m = go (λ k. cut_at (arc arcs a).to p v k) (Memᴰ.cases_cons m)
    where
      go : (Memᴰ v (visited arcs (arc arcs a).to p) → (p₁ : List ℕ) × (p₂ : List ℕ) × (p ≡ p₁ ++ p₂) × (end_of arcs (arc arcs a).to p₁ ≡ v))
          → (v ≡ s) ⊎ Memᴰ v (visited arcs (arc arcs a).to p)
          → (p₁ : List ℕ) × (p₂ : List ℕ) × (a ∷ p ≡ p₁ ++ p₂) × (end_of arcs s p₁ ≡ v)
      go below (inl e) = ([], a ∷ p, refl, sym e)
      go below (inr k) = let w = below k in (a ∷ w.0, w.1, ap (λ l. a ∷ l) w.2, w.3)

module _ (net : Net) where
  -- ---- chains, along their arcs

  -- what the test `leaves` says
  pub record Leaves (v a : ℕ) : Type 0 where
    pub is-arc : a < length net.arcs
    pub is-usable : T (net.usable a)
    pub starts : (arc net.arcs a).from ≡ v

  pub leaves-e : (v a : ℕ) → T (leaves net v a) → Leaves v a
  unfolding leaves
  leaves-e v a h =
      let x = ltb a (length net.arcs) in
      let y = net.usable a in
      let z = eqb (arc net.arcs a).from v in
      let xy = and_l (x && y) z h in
      record { is-arc = ltb→lt _ _ (and_l x y xy); is-usable = and_r x y xy; starts = eqb→eq _ _ (and_r (x && y) z h) }

  pub leaves-i : (v a : ℕ) → Leaves v a → T (leaves net v a)
  unfolding leaves
  leaves-i v a l =
      let x = ltb a (length net.arcs) in
      let y = net.usable a in
      let z = eqb (arc net.arcs a).from v in
      and_i (x && y) z (and_i x y (lt→ltb _ _ l.is-arc) l.is-usable) (eq→eqb _ _ l.starts)

  pub chain-cons : (s a : ℕ) (p : List ℕ) → T (chain net s (a ∷ p)) → T (leaves net s a) × T (chain net (arc net.arcs a).to p)
  unfolding chain
  chain-cons s a p h =
      let x = leaves net s a in
      let y = chain net (arc net.arcs a).to p in
      (and_l x y h, and_r x y h)

  pub cons-chain : (s a : ℕ) (p : List ℕ) → T (leaves net s a) → T (chain net (arc net.arcs a).to p) → T (chain net s (a ∷ p))
  unfolding chain
  cons-chain s a p h k = and_i (leaves net s a) (chain net (arc net.arcs a).to p) h k

  pub chain-front : (s : ℕ) (p r : List ℕ) → T (chain net s (p ++ r)) → T (chain net s p)
  unfolding chain
  chain-front s [] r h = tt
  chain-front s (a ∷ p) r h = let k = chain-cons s a (p ++ r) h in cons-chain s a p k.0 (chain-front (arc net.arcs a).to p r k.1)

  pub chain_next : (s : ℕ) (p : List ℕ) (a : ℕ) (r : List ℕ) → T (chain net s (p ++ (a ∷ r))) → T (leaves net (end_of net.arcs s p) a)
  unfolding end_of
  chain_next s [] a r h = (chain-cons s a r h).0
  chain_next s (b ∷ p) a r h = chain_next (arc net.arcs b).to p a r (chain-cons s b (p ++ (a ∷ r)) h).1

  pub chain_more : (s : ℕ) (p : List ℕ) (a : ℕ) → T (chain net s p) → T (leaves net (end_of net.arcs s p) a) → T (chain net s (p ++ (a ∷ [])))
  unfolding end_of chain
  chain_more s [] a h k = cons-chain s a [] k tt
  chain_more s (b ∷ p) a h k = let c = chain-cons s b p h in cons-chain s b (p ++ (a ∷ [])) c.0 (chain_more (arc net.arcs b).to p a c.1 k)

  -- ---- partial routes

  module _ (s : ℕ) where
    -- a is an arc by which p can be extended
    pub record Next (p : List ℕ) (a : ℕ) : Type 0 where
      pub leaves-end : T (leaves net (end_of net.arcs s p) a)
      pub is-new : Memᴰ (arc net.arcs a).to (visited net.arcs s p) → ⊥

    pub partial-nil : T (partial net s [])
    unfolding partial
    partial-nil = tt

    pub partial-chain : (p : List ℕ) → T (partial net s p) → T (chain net s p)
    unfolding partial
    partial-chain p h = and_l (chain net s p) (distinct (visited net.arcs s p)) h

    pub partial-front : (p r : List ℕ) → T (partial net s (p ++ r)) → T (partial net s p)
    unfolding partial
    partial-front p r h =
        and_i (chain net s p) (distinct (visited net.arcs s p)) (chain-front s p r (and_l (chain net s (p ++ r)) (distinct (visited net.arcs s (p ++ r))) h))
        (distinct-front (visited net.arcs s p) (map (λ a. (arc net.arcs a).to) r)
        (subst (λ l. T (distinct l)) (visited-append net.arcs s p r) (and_r (chain net s (p ++ r)) (distinct (visited net.arcs s (p ++ r))) h)))

    pub partial-next : (p : List ℕ) (a : ℕ) (r : List ℕ) → T (partial net s (p ++ (a ∷ r))) → Next p a
    unfolding partial
    partial-next p a r h =
        record {
          leaves-end = chain_next s p a r (and_l (chain net s (p ++ (a ∷ r))) (distinct (visited net.arcs s (p ++ (a ∷ r)))) h);
          is-new = distinct-new (visited net.arcs s p) (arc net.arcs a).to (map (λ b. (arc net.arcs b).to) r)
              (subst (λ l. T (distinct l)) (visited-append net.arcs s p (a ∷ r)) (and_r (chain net s (p ++ (a ∷ r))) (distinct (visited net.arcs s (p ++ (a ∷ r)))) h));
        }

    pub partial-more : (p : List ℕ) (a : ℕ) → T (partial net s p) → Next p a → T (partial net s (p ++ (a ∷ [])))
    unfolding partial
    partial-more p a h n =
        and_i (chain net s (p ++ (a ∷ []))) (distinct (visited net.arcs s (p ++ (a ∷ []))))
        (chain_more s p a (and_l (chain net s p) (distinct (visited net.arcs s p)) h) n.leaves-end)
        (subst (λ l. T (distinct l)) (sym (visited-append net.arcs s p (a ∷ [])))
        (distinct_more (visited net.arcs s p) (arc net.arcs a).to (and_r (chain net s p) (distinct (visited net.arcs s p)) h) n.is-new))
