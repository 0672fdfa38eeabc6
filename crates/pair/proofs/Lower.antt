-- What two chains with nothing in common cost at least, by a number φ of each node and a chain P from s to t: where φ rises along each arc off P by
-- at most its weight, and along each arc of P by at least its weight, it is the weight of P and φ t.
use mathlib.Core.Path.{◌≡◌, refl, ap}
use mathlib.Core.Logic.{◌⊎◌, inl, inr}
use mathlib.Core.List.Memᴰ
use mathlib.Core.List.{List, [], ◌∷◌, ◌++◌, Memᴰ}
use mathlib.Core.Bool.{not}
use Prim.Native.Nat.{ℕ, ◌+◌, ◌-◌, ◌<◌, ◌≤◌}
use native.Mathlib.Omega.{arith}
use lib.Dec.{T, T_not}
use Rattle.lists.specs.Tests.{has}
use Rattle.lists.proofs.TestLaws.{has→mem, mem→has}
use Rattle.lists.proofs.Cases.{either, order}
use Rattle.net.specs.Net.{Net, arc}
use Rattle.net.specs.Route.{end_of, chain}
use Rattle.net.proofs.Chains.{leaves-e, chain-cons}
use Rattle.distances.specs.Search.{Open}
use Rattle.distances.proofs.Walks.{open-arcs}
use Rattle.pair.specs.Walked.{total, count}
use Rattle.pair.proofs.Sums.{total-append, count-append, mem→count, count→mem, total-part}

module _ (net : Net) (w φ : ℕ → ℕ) (P : List ℕ) where
  -- what the residual net of P asks of φ: its arcs are the arcs off P, and those of P turned round at the negative of their weight
  pub record Potential : Type 0 where
    pub off : (a : ℕ) → Open net a → (Memᴰ a P → ⊥) → φ (arc net.arcs a).to ≤ φ (arc net.arcs a).from + w a
    pub on : (a : ℕ) → Memᴰ a P → φ (arc net.arcs a).from + w a ≤ φ (arc net.arcs a).to

  -- by how much φ rises along an arc above its weight
  gain : ℕ → ℕ
  gain a = φ (arc net.arcs a).to - (φ (arc net.arcs a).from + w a)

  -- along any chain φ rises by at most its weight and gains
  rises : (v : ℕ) (q : List ℕ) → T (chain net v q) → φ (end_of net.arcs v q) ≤ φ v + total w q + total gain q
  unfolding end_of total gain
  rises v [] h = omega arith
  rises v (a ∷ q) h =
      let c = chain-cons net v a q h in
      omega (arith, rises (arc net.arcs a).to q c.1, ap φ (leaves-e net v a c.0).starts)

  module _ (pot : Potential) where
    -- along P by as much
    rises-P : (v : ℕ) (p : List ℕ) → T (chain net v p) → ((a : ℕ) → Memᴰ a p → Memᴰ a P) → φ (end_of net.arcs v p) ≡ φ v + total w p + total gain p
    unfolding end_of total gain
    rises-P v [] h f = omega arith
    rises-P v (a ∷ p) h f =
        let c = chain-cons net v a p h in
        omega (arith, rises-P (arc net.arcs a).to p c.1 (λ b m. f b (Memᴰ.tail m)), ap φ (leaves-e net v a c.0).starts, pot.on a (f a (Memᴰ.head refl)))

    -- an arc of a chain that gains is on P
    gains-on : (v : ℕ) (q : List ℕ) → T (chain net v q) → (a : ℕ) → Memᴰ a q → 0 < gain a → Memᴰ a P
    unfolding gain
    gains-on v q h a m g = go (either (has a P))
      where
        go : T (has a P) ⊎ T (not (has a P)) → Memᴰ a P
        go (inl k) = has→mem a P k
        go (inr k) =
            absurd (omega (arith, pot.off a (open-arcs net v q h a m) (λ l. T_not (has a P) k (mem→has l))))

    module _ (s t : ℕ) (P-chain : T (chain net s P)) (P-end : end_of net.arcs s P ≡ t)
        (p q : List ℕ) (p-chain : T (chain net s p)) (p-end : end_of net.arcs s p ≡ t) (q-chain : T (chain net s q)) (q-end : end_of net.arcs s q ≡ t)
        (once : (x : ℕ) → count x p + count x q ≤ 1) where
      gains-most : total gain (p ++ q) ≤ total gain P
      gains-most = total-part gain (p ++ q) P (λ x g. go x g (order (count x (p ++ q)) 0))
        where
          member : (x : ℕ) → 0 < gain x → Memᴰ x p ⊎ Memᴰ x q → Memᴰ x P
          member x g (inl m) = gains-on s p p-chain x m g
          member x g (inr m) = gains-on s q q-chain x m g

          go : (x : ℕ) → 0 < gain x → (count x (p ++ q) ≤ 0) ⊎ (0 < count x (p ++ q)) → count x (p ++ q) ≤ count x P
          go x g (inl h) = omega arith
          go x g (inr h) =
              let m = member x g (Memᴰ.append_cases p (count→mem x (p ++ q) (omega arith))) in
              omega (arith, once x, count-append x p q, mem→count m)

      pub lower : total w P + φ t ≤ total w p + total w q + φ s
      lower =
          omega (arith, gains-most, total-append gain p q, rises s p p-chain, rises s q q-chain, rises-P s P P-chain (λ a m. m), ap φ P-end, ap φ p-end, ap φ q-end)
