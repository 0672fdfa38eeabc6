-- Two searches find the pair (Suurballe): one for distances π from s, whose way to t is P, and one through the residual net of P.
use mathlib.Core.Path.{◌≡◌, refl, sym, ap, subst, ◌∙◌}
use mathlib.Core.Logic.{◌⊎◌, inl, inr}
use mathlib.Core.List.{List, [], ◌∷◌, ◌++◌, Memᴰ}
use mathlib.Core.Bool.{Bool, true, false, cond}
use Prim.Native.Nat.{ℕ, ◌+◌, ◌<◌, ◌≤◌}
use native.Mathlib.Omega.{arith}
use lib.Dec.{T, ltb, ltb→lt, lt→ltb, not_T}
use lib.ListN.{length}
use Rattle.lists.specs.Tests.{has}
use Rattle.lists.proofs.TestLaws.{has→mem, mem→has}
use Rattle.lists.proofs.Cases.{order}
use Rattle.net.specs.Net.{Net, arc}
use Rattle.net.specs.Route.{end_of, chain, partial, length_of}
use Rattle.net.proofs.Chains.{partial-chain, leaves-e, leaves-i, chain-cons, chain_more, end_of-more, partial-nil}
use Rattle.pair.specs.Pair.{NoPair}
use Rattle.distances.specs.Turned.{detour, residual}
use Rattle.distances.specs.Distance.{Unreached}
use Rattle.pair.specs.Walked.{count}
use Rattle.distances.specs.Search.{Open}
use Rattle.distances.proofs.Walks.{open-arcs}
use Rattle.pair.proofs.Walks.{partial-once}
use Rattle.pair.proofs.Lower.{Potential}
use Rattle.pair.proofs.Upper.{Through, there, forth, back, Tight}
use Rattle.pair.proofs.Least.{Route, pair-e, no-pair}
use Rattle.distances.specs.Search.{Steady, Found}
use Rattle.distances.proofs.Dijkstra.{along-tight, found-unreached}
use Rattle.distances.proofs.Turned.{turned-open, open-turned, round-from, round-to, round-len, plain-from, plain-to, plain-len}

-- ---- the residual net's arcs

module _ (net : Net) (π : ℕ → ℕ) (P : List ℕ) where
  cost : ℕ → ℕ
  cost a = cond (has a P) 0 (detour net π a)

  -- what its arc a is
  pub record Back (a : ℕ) : Type 0 where
    pub is-on : Memᴰ a P
    pub from_is : (arc (residual net π P).arcs a).from ≡ (arc net.arcs a).to
    pub to_is : (arc (residual net π P).arcs a).to ≡ (arc net.arcs a).from
    pub free : (arc (residual net π P).arcs a).len ≡ 0

  pub record Forth (a : ℕ) : Type 0 where
    pub is-off : Memᴰ a P → ⊥
    pub from_is : (arc (residual net π P).arcs a).from ≡ (arc net.arcs a).from
    pub to_is : (arc (residual net π P).arcs a).to ≡ (arc net.arcs a).to
    pub costs : (arc (residual net π P).arcs a).len ≡ detour net π a

  pub residual-arc : (a : ℕ) → a < length net.arcs → Back a ⊎ Forth a
  unfolding residual cost
  residual-arc a h = go (has a P) refl
    where
      go : (b : Bool) → has a P ≡ b → Back a ⊎ Forth a
      go true e = inl (record {
        is-on = has→mem a P (subst T (sym e) tt);
        from_is = round-from net (λ x. has x P) cost a h e;
        to_is = round-to net (λ x. has x P) cost a h e;
        free = round-len net (λ x. has x P) cost a h e ∙ ap (λ b. cond b 0 (detour net π a)) e;
      })
      go false e = inr (record {
        is-off = λ m. subst T e (mem→has m);
        from_is = plain-from net (λ x. has x P) cost a h e;
        to_is = plain-to net (λ x. has x P) cost a h e;
        costs = plain-len net (λ x. has x P) cost a h e ∙ ap (λ b. cond b 0 (detour net π a)) e;
      })

  pub residual-open : (a : ℕ) → Open net a → Open (residual net π P) a
  unfolding residual
  residual-open = turned-open net (λ x. has x P) (λ a. cond (has a P) 0 (detour net π a))

  pub open-residual : (a : ℕ) → Open (residual net π P) a → Open net a
  unfolding residual
  open-residual = open-turned net (λ x. has x P) (λ a. cond (has a P) 0 (detour net π a))

  -- a chain of it is a way
  pub chain-way : (v t : ℕ) (r : List ℕ) → T (chain (residual net π P) v r) → end_of (residual net π P).arcs v r ≡ t → Through net P v r t
  unfolding end_of
  chain-way v t [] h e = subst (Through net P v []) e there
  chain-way v t (a ∷ r) h e =
      let c = chain-cons (residual net π P) v a r h in
      let l = leaves-e (residual net π P) v a c.0 in
      let o = open-residual a (l.is-arc, l.is-usable) in
      go (chain-way (arc (residual net π P).arcs a).to t r c.1 e) o l.starts (residual-arc a o.0)
    where
      go : Through net P (arc (residual net π P).arcs a).to r t → Open net a → (arc (residual net π P).arcs a).from ≡ v → Back a ⊎ Forth a → Through net P v (a ∷ r) t
      go w o e (inl b) = back b.is-on (sym b.from_is ∙ e) (subst (λ x. Through net P x r t) b.to_is w)
      go w o e (inr f) =
          forth f.is-off (leaves-i net v a (record { is-arc = o.0; is-usable = o.1; starts = sym f.from_is ∙ e })) (subst (λ x. Through net P x r t) f.to_is w)

-- ---- the two searches

module _ (net : Net) (s t : ℕ) (π : ℕ → ℕ) (one : Steady net s π) (P : List ℕ) (P-route : Route net s t P) (P-first : length_of net.arcs P ≡ π t)
    (d : ℕ → ℕ) (two : Steady (residual net π P) s d) where
  P-tight : (a : ℕ) → Memᴰ a P → π (arc net.arcs a).to ≡ π (arc net.arcs a).from + (arc net.arcs a).len
  P-tight = along-tight net π one.relaxed s P P-route.is-chain (omega (arith, one.zero-s, P-first, ap π P-route.ends))

  P-open : (a : ℕ) → Memᴰ a P → Open net a
  P-open = open-arcs net s P P-route.is-chain

  abbrev pub φ : ℕ → ℕ
  φ v = π v + d v

  pub pot : Potential net (λ a. (arc net.arcs a).len) φ P
  unfolding detour
  pot =
      record {
        off = λ a o n. off a o n (residual-arc net π P a o.0);
        on = λ a m. on a m (residual-arc net π P a (P-open a m).0);
      }
    where
      off : (a : ℕ) → Open net a → (Memᴰ a P → ⊥) → Back net π P a ⊎ Forth net π P a → π (arc net.arcs a).to + d (arc net.arcs a).to ≤ π (arc net.arcs a).from + d (arc net.arcs a).from + (arc net.arcs a).len
      off a o n (inl b) = absurd (n b.is-on)
      off a o n (inr f) =
          omega (arith, one.relaxed a o, two.relaxed a (residual-open net π P a o), ap d f.from_is, ap d f.to_is, f.costs)

      on : (a : ℕ) → Memᴰ a P → Back net π P a ⊎ Forth net π P a → π (arc net.arcs a).from + d (arc net.arcs a).from + (arc net.arcs a).len ≤ π (arc net.arcs a).to + d (arc net.arcs a).to
      on a m (inl b) =
          omega (arith, P-tight a m, two.relaxed a (residual-open net π P a (P-open a m)), ap d b.from_is, ap d b.to_is, b.free)
      on a m (inr f) = absurd (f.is-off m)

  pub zero-φ : φ s ≡ 0
  zero-φ = omega (arith, one.zero-s, two.zero-s)

  -- t is reached, by R
  module _ (R : List ℕ) (R-partial : T (partial (residual net π P) s R)) (R-end : end_of (residual net π P).arcs s R ≡ t) (R-first : length_of (residual net π P).arcs R ≡ d t) where
    R-chain : T (chain (residual net π P) s R)
    R-chain = partial-chain (residual net π P) s R R-partial

    R-open : (a : ℕ) → Memᴰ a R → Open net a
    R-open a m = open-residual net π P a (open-arcs (residual net π P) s R R-chain a m)

    pub R-tight : (a : ℕ) → Memᴰ a R → Tight net φ P s t a
    unfolding detour
    R-tight a m =
        go (along-tight (residual net π P) d two.relaxed s R R-chain (omega (arith, two.zero-s, R-first, ap d R-end)) a m) (R-open a m) (residual-arc net π P a (R-open a m).0)
      where
        go : d (arc (residual net π P).arcs a).to ≡ d (arc (residual net π P).arcs a).from + (arc (residual net π P).arcs a).len → Open net a → Back net π P a ⊎ Forth net π P a
            → π (arc net.arcs a).to + d (arc net.arcs a).to ≡ π (arc net.arcs a).from + d (arc net.arcs a).from + (arc net.arcs a).len
        go e o (inl b) = omega (arith, P-tight a b.is-on, ap d b.from_is, ap d b.to_is, b.free)
        go e o (inr f) = omega (arith, one.relaxed a o, ap d f.from_is, ap d f.to_is, f.costs)

    pub R-way : Through net P s R t
    R-way = chain-way net π P s t R R-chain R-end

    pub R-once : (x : ℕ) → count x R ≤ 1
    R-once = partial-once (residual net π P) s R R-partial

  -- t is not reached: there is no pair, where `far` is further than any partial route
  module _ (far : ℕ) (parent : ℕ → ℕ) (f : Found (residual net π P) s far d parent)
      (most : (p : List ℕ) → T (partial (residual net π P) s p) → length_of (residual net π P).arcs p < far) where
    inside : ℕ → Bool
    inside v = ltb (d v) far

    -- an arc of the residual net leads from a node reached to one reached
    stays : (a : ℕ) → Open (residual net π P) a → d (arc (residual net π P).arcs a).from < far → d (arc (residual net π P).arcs a).to < far
    stays a o h = go (order far (d (arc (residual net π P).arcs a).to))
      where
        go : (far ≤ d (arc (residual net π P).arcs a).to) ⊎ (d (arc (residual net π P).arcs a).to < far) → d (arc (residual net π P).arcs a).to < far
        go (inr l) = l
        go (inl l) =
            let w = f.real (arc (residual net π P).arcs a).from h in
            let p = w.0 in
            let c = partial-chain (residual net π P) s p w.1 in
            absurd (found-unreached (residual net π P) s far d parent f most (arc (residual net π P).arcs a).to l (p ++ (a ∷ []))
            (chain_more (residual net π P) s p a c (leaves-i (residual net π P) (end_of (residual net π P).arcs s p) a (record { is-arc = o.0; is-usable = o.1; starts = sym w.2 })))
            (end_of-more (residual net π P).arcs s p a))

    pub two_none : far ≤ d t → NoPair net s t
    unfolding inside length_of
    two_none h =
        no-pair net s t P P-route inside (lt→ltb (d s) far (omega (arith, two.zero-s, most [] (partial-nil (residual net π P) s)))) (not_T (ltb (d t) far) (λ k. absurd (omega (arith, ltb→lt (d t) far k))))
        (λ a o n i. lt→ltb _ _ (off a o n (ltb→lt _ _ i) (residual-arc net π P a o.0)))
        (λ a m i. lt→ltb _ _ (on a m (ltb→lt _ _ i) (residual-arc net π P a (P-open a m).0)))
      where
        off : (a : ℕ) → Open net a → (Memᴰ a P → ⊥) → d (arc net.arcs a).from < far → Back net π P a ⊎ Forth net π P a → d (arc net.arcs a).to < far
        off a o n i (inl b) = absurd (n b.is-on)
        off a o n i (inr g) = omega (arith, stays a (residual-open net π P a o) (omega (arith, ap d g.from_is)), ap d g.to_is)

        on : (a : ℕ) → Memᴰ a P → d (arc net.arcs a).to < far → Back net π P a ⊎ Forth net π P a → d (arc net.arcs a).from < far
        on a m i (inl b) = omega (arith, stays a (residual-open net π P a (P-open a m)) (omega (arith, ap d b.from_is)), ap d b.to_is)
        on a m i (inr g) = absurd (g.is-off m)

-- where t itself is not reached there is no route, so no pair
pub none-without : (net : Net) (s t : ℕ) → Unreached net s t → NoPair net s t
none-without net s t u x y h = let k = (pair-e net s t x y h).first in u x k.is-chain k.ends
