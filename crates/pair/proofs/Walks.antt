-- More of chains: one along which a number of the nodes rises does not come back; one that visits no node twice has no arc twice and leaves no node twice.
use mathlib.Core.Path.{◌≡◌, refl, sym, ap, subst, ◌∙◌}
use mathlib.Core.Logic.{◌⊎◌, inl, inr}
use mathlib.Core.List.Memᴰ
use mathlib.Core.List.{List, [], ◌∷◌, map, Memᴰ}
use mathlib.Core.Bool.{not}
use Prim.Native.Nat.{ℕ, ◌≤◌}
use native.Mathlib.Omega.{arith}
use lib.Dec.{T, T_not, not_T}
use Rattle.lists.specs.Tests.{has, distinct}
use Rattle.lists.proofs.TestLaws.{and_i, and_l, and_r, has→mem, mem→has}
use Rattle.net.specs.Net.{Arc, Net, arc}
use Rattle.net.specs.Route.{visited, end_of, leaves, chain, partial, length_of}
use Rattle.net.proofs.Chains.{leaves-e, chain-cons, partial-chain, end-visited}
use Rattle.distances.proofs.Walks.{Rising, rising-simple}
use Rattle.pair.specs.Walked.{total, count}
use Rattle.pair.proofs.Sums.{distinct→count}

pub length_of-total : (arcs : List Arc) (p : List ℕ) → length_of arcs p ≡ total (λ a. (arc arcs a).len) p
unfolding length_of total
length_of-total arcs [] = refl
length_of-total arcs (a ∷ p) = omega (arith, length_of-total arcs p)

module _ (net : Net) where
  -- a chain along which φ rises does not come back
  pub rising-closed : (φ : ℕ → ℕ) (s : ℕ) (p : List ℕ) → T (chain net s p) → Rising net φ p → end_of net.arcs s p ≡ s → p ≡ []
  unfolding visited distinct end_of
  rising-closed φ s [] h r e = refl
  rising-closed φ s (a ∷ p) h r e =
      let l = visited net.arcs (arc net.arcs a).to p in
      absurd (T_not (has s l) (and_l (not (has s l)) (distinct l) (rising-simple net φ s (a ∷ p) h r))
      (mem→has (subst (λ x. Memᴰ x l) e (end-visited net.arcs (arc net.arcs a).to p))))

  -- ---- a chain that visits no node twice has no arc twice

  arcs-once : (p : List ℕ) → T (distinct (map (λ a. (arc net.arcs a).to) p)) → T (distinct p)
  unfolding distinct
  arcs-once [] d = tt
  arcs-once (a ∷ p) d =
      let l = map (λ b. (arc net.arcs b).to) p in
      and_i (not (has a p)) (distinct p)
      (not_T (has a p) (λ h. T_not (has (arc net.arcs a).to l) (and_l (not (has (arc net.arcs a).to l)) (distinct l) d) (mem→has (Memᴰ.map (λ b. (arc net.arcs b).to) (has→mem a p h)))))
      (arcs-once p (and_r (not (has (arc net.arcs a).to l)) (distinct l) d))

  pub partial-once : (s : ℕ) (p : List ℕ) → T (partial net s p) → (x : ℕ) → count x p ≤ 1
  unfolding partial visited distinct
  partial-once s p h x =
      let l = map (λ b. (arc net.arcs b).to) p in
      let d : T (distinct (visited net.arcs s p)) = and_r (chain net s p) (distinct (visited net.arcs s p)) h in
      distinct→count x p (arcs-once p (and_r (not (has s l)) (distinct l) d))

  -- ---- and leaves no node twice

  from-visited : (v : ℕ) (q : List ℕ) → T (chain net v q) → (b : ℕ) → Memᴰ b q → Memᴰ (arc net.arcs b).from (visited net.arcs v q)
  unfolding visited
  from-visited v [] h b m = absurd (Memᴰ.not-nil m)
  from-visited v (a ∷ q) h b m = go (chain-cons net v a q h) (λ c k. from-visited (arc net.arcs a).to q c b k) (Memᴰ.cases_cons m)
    where
      go : T (leaves net v a) × T (chain net (arc net.arcs a).to q) → (T (chain net (arc net.arcs a).to q) → Memᴰ b q → Memᴰ (arc net.arcs b).from (visited net.arcs (arc net.arcs a).to q))
          → (b ≡ a) ⊎ Memᴰ b q → Memᴰ (arc net.arcs b).from (visited net.arcs v (a ∷ q))
      go c below (inl e) = Memᴰ.head (ap (λ x. (arc net.arcs x).from) e ∙ (leaves-e net v a c.0).starts)
      go c below (inr k) = Memᴰ.tail (below c.1 k)

  leave-once-by : (s : ℕ) (p : List ℕ) → T (chain net s p) → T (distinct (visited net.arcs s p)) → (a b : ℕ) → Memᴰ a p → Memᴰ b p → (arc net.arcs a).from ≡ (arc net.arcs b).from → a ≡ b
  unfolding visited distinct
  leave-once-by s [] h d a b m n e = absurd (Memᴰ.not-nil m)
  leave-once-by s (c ∷ p) h d a b m n e =
      let k = chain-cons net s c p h in
      let l = visited net.arcs (arc net.arcs c).to p in
      go (λ x y. leave-once-by (arc net.arcs c).to p k.1 (and_r (not (has s l)) (distinct l) d) a b x y e) (leaves-e net s c k.0).starts
      (λ x j. from-visited (arc net.arcs c).to p k.1 x j) (λ j. T_not (has s l) (and_l (not (has s l)) (distinct l) d) (mem→has j))
      (Memᴰ.cases_cons m) (Memᴰ.cases_cons n)
    where
      go : (Memᴰ a p → Memᴰ b p → a ≡ b) → (arc net.arcs c).from ≡ s → ((x : ℕ) → Memᴰ x p → Memᴰ (arc net.arcs x).from (visited net.arcs (arc net.arcs c).to p))
          → (Memᴰ s (visited net.arcs (arc net.arcs c).to p) → ⊥) → (a ≡ c) ⊎ Memᴰ a p → (b ≡ c) ⊎ Memᴰ b p → a ≡ b
      go below z f g (inl i) (inl j) = i ∙ sym j
      go below z f g (inl i) (inr j) = absurd (g (subst (λ x. Memᴰ x (visited net.arcs (arc net.arcs c).to p)) (sym e ∙ ap (λ x. (arc net.arcs x).from) i ∙ z) (f b j)))
      go below z f g (inr i) (inl j) = absurd (g (subst (λ x. Memᴰ x (visited net.arcs (arc net.arcs c).to p)) (e ∙ ap (λ x. (arc net.arcs x).from) j ∙ z) (f a i)))
      go below z f g (inr i) (inr j) = below i j

  pub leave-once : (s : ℕ) (p : List ℕ) → T (partial net s p) → (a b : ℕ) → Memᴰ a p → Memᴰ b p → (arc net.arcs a).from ≡ (arc net.arcs b).from → a ≡ b
  unfolding partial
  leave-once s p h = leave-once-by s p (partial-chain net s p h) (and_r (chain net s p) (distinct (visited net.arcs s p)) h)
