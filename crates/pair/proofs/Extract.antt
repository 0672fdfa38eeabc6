-- Of two chains A and B from s to t with nothing in common, along whose arcs φ rises, only the set of their arcs is needed: a walk from s by any arcs of
-- the set comes to t, and the arcs left over are a chain from s to t again.
use mathlib.Core.Path.{◌≡◌, refl, sym, ap, subst, ◌∙◌}
use mathlib.Core.Logic.{◌⊎◌, inl, inr}
use mathlib.Core.List.Memᴰ
use mathlib.Core.List.{List, [], ◌∷◌, ◌++◌, append_assoc, append-nil, Memᴰ}
use Prim.Native.Nat.{ℕ, ◌<◌, ◌≤◌}
use native.Mathlib.Omega.{arith}
use lib.Dec.{T}
use Rattle.lists.specs.Tests.{distinct}
use Rattle.lists.proofs.TestLaws.{and_i}
use Rattle.lists.proofs.MemberLaws.{parts_at}
use Rattle.lists.proofs.Cases.{order}
use Rattle.net.specs.Net.{Net, arc}
use Rattle.net.specs.Route.{visited, end_of, leaves, chain, partial}
use Rattle.net.proofs.Chains.{leaves-e, chain-cons, chain-front, chain_more, end_of-more}
use Rattle.pair.specs.Walked.{count, Walked}
use Rattle.pair.proofs.Sums.{count-nil, count-cons, count-append, count_at, same-is, mem→count, count→mem}
use Rattle.distances.proofs.Walks.{end_of-append, chain-join, chain_back, cut-leaves, cut-rest, cut-end, Rising, rising-simple}
use Rattle.pair.proofs.Walks.{rising-closed, leave-once}

module _ (net : Net) (φ : ℕ → ℕ) (s t : ℕ) (all : ℕ → ℕ) (rising : (x : ℕ) → 1 ≤ all x → φ (arc net.arcs x).from < φ (arc net.arcs x).to) where
  module _ (W rest other : List ℕ) (w : Walked net s t all W rest other) where
    pub rises-W : Rising net φ W
    rises-W x m = rising x (omega (arith, w.parts x, mem→count m))

    rises-rest : Rising net φ rest
    rises-rest x m = rising x (omega (arith, w.parts x, mem→count m))

    pub rises-other : Rising net φ other
    rises-other x m = rising x (omega (arith, w.parts x, mem→count m))

    rest-chain : T (chain net (end_of net.arcs s W) rest)
    rest-chain = chain_back net s W rest w.W-chain

    rest_end : end_of net.arcs (end_of net.arcs s W) rest ≡ t
    rest_end = sym (end_of-append net.arcs s W rest) ∙ w.W-end

    -- at t nothing is left of it
    pub walk-over : end_of net.arcs s W ≡ t → rest ≡ []
    walk-over e = rising-closed net φ (end_of net.arcs s W) rest rest-chain rises-rest (rest_end ∙ sym e)

    -- elsewhere an arc of the set leads on
    pub walk-on : (end_of net.arcs s W ≡ t → ⊥) → (a : ℕ) × T (leaves net (end_of net.arcs s W) a) × (1 ≤ all a)
    walk-on n = go rest refl
      where
        go : (r : List ℕ) → rest ≡ r → (a : ℕ) × T (leaves net (end_of net.arcs s W) a) × (1 ≤ all a)
        go [] e = absurd (n (sym (ap (end_of net.arcs s) (ap (λ l. W ++ l) e ∙ append-nil W)) ∙ w.W-end))
        go (a ∷ r) e = (
          a,
          (chain-cons net (end_of net.arcs s W) a r (subst (λ l. T (chain net (end_of net.arcs s W) l)) e rest-chain)).0,
          omega (arith, w.parts a, ap (count a) e, count-cons a a r, same-is a),
        )

    -- any arc of the set that leaves its end
    pub walk_step : (a : ℕ) → T (leaves net (end_of net.arcs s W) a) → 1 ≤ all a → (rest' : List ℕ) × (other' : List ℕ) × Walked net s t all (W ++ (a ∷ [])) rest' other'
    walk_step a l h = go (order 1 (count a rest)) (order 1 (count a other))
      where
        Goal : Type 0
        Goal = (rest' : List ℕ) × (other' : List ℕ) × Walked net s t all (W ++ (a ∷ [])) rest' other'

        v : ℕ
        v = end_of net.arcs s W

        starts : (arc net.arcs a).from ≡ end_of net.arcs s W
        starts = (leaves-e net (end_of net.arcs s W) a l).starts

        -- on it: the first arc of the rest
        on-rest : (r₁ : List ℕ) × (r₂ : List ℕ) × (rest ≡ r₁ ++ (a ∷ r₂)) → Goal
        on-rest k =
            let r₁ = k.0 in
            let r₂ = k.1 in
            let c : T (chain net (end_of net.arcs s W) (r₁ ++ (a ∷ r₂))) = subst (λ r. T (chain net (end_of net.arcs s W) r)) k.2 rest-chain in
            let z : r₁ ≡ [] = rising-closed net φ (end_of net.arcs s W) r₁ (chain-front net (end_of net.arcs s W) r₁ (a ∷ r₂) c)
            (λ x m. rises-rest x (subst (Memᴰ x) (sym k.2) (Memᴰ.append_left (a ∷ r₂) m)))
            (sym (cut-leaves net (end_of net.arcs s W) r₁ a r₂ c).starts ∙ starts) in
            let e : W ++ rest ≡ (W ++ (a ∷ [])) ++ r₂ = ap (λ r. W ++ r) (k.2 ∙ ap (λ r. r ++ (a ∷ r₂)) z) ∙ sym (append_assoc W (a ∷ []) r₂) in (
              r₂,
              other,
              record {
                W-chain = subst (λ r. T (chain net s r)) e w.W-chain;
                W-end = ap (end_of net.arcs s) (sym e) ∙ w.W-end;
                other-chain = w.other-chain;
                other-end = w.other-end;
                parts = λ x. omega (arith, w.parts x, ap (count x) k.2, count_at x r₁ a r₂, ap (count x) z, count-nil x, count_at x W a []);
              },
            )

        -- on the other: they change their ends
        on-other : (o₁ : List ℕ) × (o₂ : List ℕ) × (other ≡ o₁ ++ (a ∷ o₂)) → Goal
        on-other k =
            let o₁ = k.0 in
            let o₂ = k.1 in
            let c : T (chain net s (o₁ ++ (a ∷ o₂))) = subst (λ r. T (chain net s r)) k.2 w.other-chain in
            let f : end_of net.arcs s o₁ ≡ end_of net.arcs s W = sym (cut-leaves net s o₁ a o₂ c).starts ∙ starts in
            let u : T (chain net s (W ++ (a ∷ []))) = chain_more net s W a (chain-front net s W rest w.W-chain) l in
            let e : end_of net.arcs s (W ++ (a ∷ [])) ≡ (arc net.arcs a).to = end_of-more net.arcs s W a in (
              o₂,
              o₁ ++ rest,
              record {
                W-chain = chain-join net s (W ++ (a ∷ [])) o₂ u (subst (λ x. T (chain net x o₂)) (sym e) (cut-rest net s o₁ a o₂ c));
                W-end = end_of-append net.arcs s (W ++ (a ∷ [])) o₂ ∙ ap (λ x. end_of net.arcs x o₂) e ∙ sym (cut-end net s o₁ a o₂ c) ∙ ap (end_of net.arcs s) (sym k.2) ∙ w.other-end;
                other-chain = chain-join net s o₁ rest (chain-front net s o₁ (a ∷ o₂) c) (subst (λ x. T (chain net x rest)) (sym f) rest-chain);
                other-end = end_of-append net.arcs s o₁ rest ∙ ap (λ x. end_of net.arcs x rest) f ∙ rest_end;
                parts = λ x. omega (arith, w.parts x, ap (count x) k.2, count_at x o₁ a o₂, count-append x o₁ rest, count_at x W a [], count-nil x);
              },
            )

        -- not behind: φ rises
        on-W : (w₁ : List ℕ) × (w₂ : List ℕ) × (W ≡ w₁ ++ (a ∷ w₂)) → Goal
        on-W k =
            let w₁ = k.0 in
            let w₂ = k.1 in
            let c : T (chain net s (w₁ ++ (a ∷ w₂))) = subst (λ r. T (chain net s r)) k.2 (chain-front net s W rest w.W-chain) in
            let g : T (chain net (end_of net.arcs s w₁) (a ∷ w₂)) = chain_back net s w₁ (a ∷ w₂) c in
            let z : a ∷ w₂ ≡ [] = rising-closed net φ (end_of net.arcs s w₁) (a ∷ w₂) g
            (λ x m. rises-W x (subst (Memᴰ x) (sym k.2) (Memᴰ.append_right w₁ m)))
            (sym (end_of-append net.arcs s w₁ (a ∷ w₂)) ∙ ap (end_of net.arcs s) (sym k.2) ∙ sym starts ∙ (cut-leaves net s w₁ a w₂ c).starts) in
            let y : ◌≡◌ {A = ℕ} 0 1 = cc in
            absurd (omega arith)

        go : (1 ≤ count a rest) ⊎ (count a rest < 1) → (1 ≤ count a other) ⊎ (count a other < 1) → Goal
        go (inl k) j = on-rest (parts_at (count→mem a rest k))
        go (inr k) (inl j) = on-other (parts_at (count→mem a other j))
        go (inr k) (inr j) = on-W (parts_at (count→mem a W (omega (arith, w.parts a))))

  -- where the walk leaves a node by an arc off P only if no arc of P in the set leaves it, what is left over leaves one by an arc of P only if none off P does
  pub second-rule : (P W other : List ℕ) → Walked net s t all W [] other
      → ((a : ℕ) → Memᴰ a W → (Memᴰ a P → ⊥) → (b : ℕ) → Memᴰ b P → 1 ≤ all b → (arc net.arcs b).from ≡ (arc net.arcs a).from → ⊥)
      → (b : ℕ) → Memᴰ b other → Memᴰ b P → (r : ℕ) → (Memᴰ r P → ⊥) → 1 ≤ all r → (arc net.arcs r).from ≡ (arc net.arcs b).from → ⊥
  unfolding partial
  second-rule P W other w rule b m on r off h e = go (order 1 (count r W))
    where
      go : (1 ≤ count r W) ⊎ (count r W < 1) → ⊥
      go (inl k) = rule r (count→mem r W k) off b on (omega (arith, w.parts b, mem→count m)) (sym e)
      go (inr k) =
          let p : T (partial net s other) = and_i (chain net s other) (distinct (visited net.arcs s other)) w.other-chain (rising-simple net φ s other w.other-chain (rises-other W [] other w)) in
          off (subst (λ x. Memᴰ x P) (sym (leave-once net s other p r b (count→mem r other (omega (arith, w.parts r, count-nil r))) m e)) on)
