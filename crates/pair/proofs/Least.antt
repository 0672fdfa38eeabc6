-- The pair of least total: made by `Upper` of a tight way, it meets the bound of `Lower`. And where no way leads to t, there is none.
use mathlib.Core.Path.{◌≡◌, refl, sym, ap, subst}
use mathlib.Core.Logic.{◌⊎◌, inl, inr}
use mathlib.Core.List.{List, [], ◌∷◌, ◌++◌, Memᴰ}
use mathlib.Core.Bool.{Bool, true, false, not, ◌&&◌, cond}
use Prim.Native.Nat.{ℕ, ◌+◌, ◌<◌, ◌≤◌}
use native.Mathlib.Omega.{arith}
use lib.Dec.{T, eqb, eqb→eq, T_not, not_T}
use Rattle.lists.specs.Tests.{has, distinct, every}
use Rattle.lists.proofs.TestLaws.{and_i, and_l, and_r, eq→eqb, has→mem, mem→has, every-e, every-i}
use Rattle.lists.proofs.Cases.{either, order}
use Rattle.net.specs.Net.{Net, arc}
use Rattle.net.specs.Route.{visited, end_of, chain, partial, route, length_of, precedes}
use Rattle.net.proofs.Order.{before-total}
use Rattle.pair.specs.Pair.{apart, pair, LeastPair, NoPair}
use Rattle.net.proofs.Chains.{chain-front, partial-chain}
use Rattle.pair.specs.Walked.{total, count, Walked, Shortest, Taken}
use Rattle.pair.proofs.Sums.{total-append, total-part, count-nil, count-append, mem→count, count→mem, not-mem→count, on?}
use Rattle.distances.specs.Search.{Open}
use Rattle.distances.proofs.Walks.{rising-simple}
use Rattle.pair.proofs.Walks.{length_of-total, partial-once}
use Rattle.pair.proofs.Lower.{Potential, lower}
use Rattle.pair.proofs.Upper.{Through, Tight, start, rising, rising-A, rising-B, along}
use Rattle.pair.proofs.Extract.{walk-over, rises-W, rises-other}

module _ (net : Net) (s t : ℕ) where
  -- ---- the tests

  pub record Route (p : List ℕ) : Type 0 where
    pub is-chain : T (chain net s p)
    pub ends : end_of net.arcs s p ≡ t
    pub simple : T (distinct (visited net.arcs s p))

  pub route-e : (p : List ℕ) → T (route net s t p) → Route p
  unfolding route partial
  route-e p h =
      let c = chain net s p in
      let d = distinct (visited net.arcs s p) in
      let k = and_l (c && d) (eqb (end_of net.arcs s p) t) h in
      record { is-chain = and_l c d k; ends = eqb→eq _ _ (and_r (c && d) (eqb (end_of net.arcs s p) t) h); simple = and_r c d k }

  pub route-i : (p : List ℕ) → Route p → T (route net s t p)
  unfolding route partial
  route-i p r =
      let c = chain net s p in
      let d = distinct (visited net.arcs s p) in
      and_i (c && d) (eqb (end_of net.arcs s p) t) (and_i c d r.is-chain r.simple) (eq→eqb _ _ r.ends)

  pub route-once : (p : List ℕ) → Route p → (x : ℕ) → count x p ≤ 1
  unfolding partial
  route-once p r = partial-once net s p (and_i (chain net s p) (distinct (visited net.arcs s p)) r.is-chain r.simple)

  pub shortest-route : (π parent : ℕ → ℕ) (p : List ℕ) → Shortest net s t π parent p → Route p
  unfolding partial
  shortest-route π parent p h =
      record {
        is-chain = partial-chain net s p h.is-partial;
        ends = h.ends;
        simple = and_r (chain net s p) (distinct (visited net.arcs s p)) h.is-partial;
      }

  pub record Pair (p q : List ℕ) : Type 0 where
    pub first : Route p
    pub second : Route q
    pub once : (x : ℕ) → count x p + count x q ≤ 1

  pub pair-e : (p q : List ℕ) → T (pair net s t p q) → Pair p q
  unfolding pair apart
  pair-e p q h =
      let x = route net s t p in
      let y = route net s t q in
      let f : ℕ → Bool = λ a. not (has a q) in
      let xy = and_l (x && y) (every f p) h in
      let a = and_r (x && y) (every f p) h in
      let rp = route-e p (and_l x y xy) in
      let rq = route-e q (and_r x y xy) in
      record { first = rp; second = rq; once = λ z. go z (route-once p rp z) (route-once q rq z) (λ m. every-e f a m) (order 1 (count z p)) }
    where
      go : (z : ℕ) → count z p ≤ 1 → count z q ≤ 1 → (Memᴰ z p → T (not (has z q))) → (1 ≤ count z p) ⊎ (count z p < 1) → count z p + count z q ≤ 1
      go z cp cq f (inl k) = omega (arith, not-mem→count z q (λ m. T_not (has z q) (f (count→mem z p k)) (mem→has m)))
      go z cp cq f (inr k) = omega arith

  pub pair-i : (p q : List ℕ) → Pair p q → T (pair net s t p q)
  unfolding pair apart
  pair-i p q r =
      let x = route net s t p in
      let y = route net s t q in
      let f : ℕ → Bool = λ a. not (has a q) in
      and_i (x && y) (every f p) (and_i x y (route-i p r.first) (route-i q r.second))
      (every-i f p (λ a m. not_T (has a q) (λ h. absurd (omega (arith, r.once a, mem→count m, mem→count (has→mem a q h))))))

  pair-swap : (p q : List ℕ) → Pair p q → Pair q p
  pair-swap p q r = record { first = r.second; second = r.first; once = λ x. omega (arith, r.once x) }

  -- two routes that are one are empty
  pair-differ : (p : List ℕ) → Pair p p → s ≡ t
  unfolding end_of
  pair-differ [] r = r.first.ends
  pair-differ (a ∷ p) r = absurd (omega (arith, r.once a, mem→count (Memᴰ.head {x = a} {xs = p} refl)))

  -- ---- a pair of least total, put in the order of rule 3

  module _ (n : ℕ) (p q : List ℕ) (k : Taken net s t n p q) where
    -- where q precedes
    pub taken-after : T (precedes net.arcs q p) → LeastPair net s t q p
    taken-after h =
        record { is-pair = pair-i q p (pair-swap p q (pair-e p q k.is-pair)); in_order = h; least = λ x y m. omega (arith, k.least x y m, k.is-long) }

    -- where it does not, p does
    pub taken-first : (s ≡ t → ⊥) → (T (precedes net.arcs q p) → ⊥) → LeastPair net s t p q
    taken-first differ h = record { is-pair = k.is-pair; in_order = go (before-total (length_of net.arcs) p q); least = λ x y m. omega (arith, k.least x y m, k.is-long) }
      where
        go : T (precedes net.arcs p q) ⊎ T (precedes net.arcs q p) ⊎ (p ≡ q) → T (precedes net.arcs p q)
        go (inl i) = i
        go (inr (inl i)) = absurd (h i)
        go (inr (inr e)) = absurd (differ (pair-differ p (subst (Pair p) (sym e) (pair-e p q k.is-pair))))

  -- A and B are made of the arcs of P not on R and of those of R not on P
  pub record Made (φ : ℕ → ℕ) (P R A B : List ℕ) : Type 0 where
    pub is-pair : Pair A B
    pub lengths : length_of net.arcs A + length_of net.arcs B ≡ length_of net.arcs P + φ t
    pub on-P : (x : ℕ) → Memᴰ x P → count x A + count x B + count x R ≡ 1
    pub off-P : (x : ℕ) → (Memᴰ x P → ⊥) → count x A + count x B ≡ count x R
    pub rises : (x : ℕ) → 1 ≤ count x A + count x B → φ (arc net.arcs x).from < φ (arc net.arcs x).to

  module _ (P : List ℕ) (P-route : Route P) where
    -- ---- the bound: every pair is at least so long

    pub at_least : (φ : ℕ → ℕ) → Potential net (λ a. (arc net.arcs a).len) φ P → φ s ≡ 0 → (x y : List ℕ) → T (pair net s t x y) → length_of net.arcs P + φ t ≤ length_of net.arcs x + length_of net.arcs y
    at_least φ pot z x y h =
        let k = pair-e x y h in
        let r = k.first in
        let u = k.second in
        omega (
          arith,
          lower net (λ a. (arc net.arcs a).len) φ P pot s t P-route.is-chain P-route.ends x y r.is-chain r.ends u.is-chain u.ends k.once,
          length_of-total net.arcs P,
          length_of-total net.arcs x,
          length_of-total net.arcs y,
        )

    -- ---- a tight way gives a pair of that length; both are simple, since φ rises along them

    module _ (positive : (a : ℕ) → 0 < (arc net.arcs a).len) (φ : ℕ → ℕ) (pot : Potential net (λ a. (arc net.arcs a).len) φ P) (zero-s : φ s ≡ 0)
        (R : List ℕ) (way : Through net P s R t) (R-once : (x : ℕ) → count x R ≤ 1) (R-tight : (x : ℕ) → Memᴰ x R → Tight net φ P s t x) where
      pub made : (A : List ℕ) × (B : List ℕ) × Made φ P R A B
      made =
          let k = along net φ P s t positive pot.on [] P [] way (start net φ P s t P-route.is-chain P-route.ends (route-once P P-route) zero-s)
          (λ x. omega (arith, R-once x, count-nil x)) R-tight in
          let A = k.1 in
          let B = k.2 in
          let st = k.3 in (
            A,
            B,
            record {
              is-pair = record {
                first = record { is-chain = st.A-chain; ends = st.A-end; simple = rising-simple net φ s A st.A-chain (rising-A net φ P s t positive pot.on k.0 t A B st) };
                second = record { is-chain = st.B-chain; ends = st.B-end; simple = rising-simple net φ s B st.B-chain (rising-B net φ P s t positive pot.on k.0 t A B st) };
                once = λ x. once A B x (λ m. omega (arith, st.kept x m)) (λ n. omega (arith, st.new x n, k.4 x, count-nil x, R-once x)) (on? P x);
              };
              lengths = st.lengths;
              on-P = λ x m. omega (arith, st.kept x m, k.4 x, count-nil x);
              off-P = λ x n. omega (arith, st.new x n, k.4 x, count-nil x);
              rises = rising net φ P s t positive pot.on k.0 t A B st;
            },
          )
        where
          once : (A B : List ℕ) (x : ℕ) → (Memᴰ x P → count x A + count x B ≤ 1) → ((Memᴰ x P → ⊥) → count x A + count x B ≤ 1) → Memᴰ x P ⊎ (Memᴰ x P → ⊥) → count x A + count x B ≤ 1
          once A B x f g (inl m) = f m
          once A B x f g (inr n) = g n

      -- a walk by the arcs of P not on R and those of R not on P, and what it leaves
      pub walked-pair : (A B : List ℕ) → Made φ P R A B → (W rest other : List ℕ) → Walked net s t (λ x. count x A + count x B) W rest other → end_of net.arcs s W ≡ t
          → Made φ P R W other
      walked-pair A B m W rest other w e =
          let z = walk-over net φ s t (λ x. count x A + count x B) m.rises W rest other w e in
          let c : (x : ℕ) → count x W + count x other ≡ count x A + count x B = λ x. omega (arith, w.parts x, ap (count x) z, count-nil x) in
          let h = chain-front net s W rest w.W-chain in
          record {
            is-pair = record {
              first = record { is-chain = h; ends = e; simple = rising-simple net φ s W h (rises-W net φ s t (λ x. count x A + count x B) m.rises W rest other w) };
              second = record { is-chain = w.other-chain; ends = w.other-end; simple = rising-simple net φ s other w.other-chain (rises-other net φ s t (λ x. count x A + count x B) m.rises W rest other w) };
              once = λ x. omega (arith, c x, m.is-pair.once x);
            };
            lengths =
                let i = total-part (λ a. (arc net.arcs a).len) (W ++ other) (A ++ B) (λ x k. omega (arith, c x, count-append x W other, count-append x A B)) in
                let j = total-part (λ a. (arc net.arcs a).len) (A ++ B) (W ++ other) (λ x k. omega (arith, c x, count-append x W other, count-append x A B)) in
                omega (
                  arith,
                  m.lengths,
                  total-append (λ a. (arc net.arcs a).len) W other,
                  total-append (λ a. (arc net.arcs a).len) A B,
                  length_of-total net.arcs W,
                  length_of-total net.arcs other,
                  length_of-total net.arcs A,
                  length_of-total net.arcs B,
                );
            on-P = λ x k. omega (arith, c x, m.on-P x k);
            off-P = λ x k. omega (arith, c x, m.off-P x k);
            rises = λ x k. m.rises x (omega (arith, c x));
          }

      pub made-taken : (A B : List ℕ) → Made φ P R A B → Taken net s t (length_of net.arcs P + φ t) A B
      made-taken A B m = record { is-pair = pair-i A B m.is-pair; is-long = m.lengths; least = at_least φ pot zero-s }

    -- ---- no way to t: a set of nodes with s and without t that no arc off P leaves and no arc of P enters

    module _ (inside : ℕ → Bool) (s-in : T (inside s)) (t-out : T (not (inside t)))
        (off-stays : (a : ℕ) → Open net a → (Memᴰ a P → ⊥) → T (inside (arc net.arcs a).from) → T (inside (arc net.arcs a).to))
        (on-stays : (a : ℕ) → Memᴰ a P → T (inside (arc net.arcs a).to) → T (inside (arc net.arcs a).from)) where
      far : ℕ → ℕ
      far v = cond (inside v) 0 1

      far-in : (v : ℕ) → T (inside v) → far v ≡ 0
      unfolding far
      far-in v h = go (inside v) h
        where
          go : (b : Bool) → T b → ◌≡◌ {A = ℕ} (cond b 0 1) 0
          go true k = refl
          go false k = absurd k

      far-out : (v : ℕ) → T (not (inside v)) → far v ≡ 1
      unfolding far
      far-out v h = go (inside v) h
        where
          go : (b : Bool) → T (not b) → ◌≡◌ {A = ℕ} (cond b 0 1) 1
          go true k = absurd k
          go false k = refl

      -- where one is inside if the other is
      far-le : (v u : ℕ) → (T (inside v) → T (inside u)) → far u ≤ far v
      far-le v u f = go (either (inside v)) (either (inside u))
        where
          go : T (inside v) ⊎ T (not (inside v)) → T (inside u) ⊎ T (not (inside u)) → far u ≤ far v
          go (inl h) k = omega (arith, far-in u (f h), far-in v h)
          go (inr h) (inl k) = omega (arith, far-in u k)
          go (inr h) (inr k) = omega (arith, far-out u k, far-out v h)

      none-total : (q : List ℕ) → total (λ a. 0) q ≡ 0
      unfolding total
      none-total [] = refl
      none-total (a ∷ q) = omega (arith, none-total q)

      pub no-pair : NoPair net s t
      no-pair x y h =
          let k = pair-e x y h in
          let r = k.first in
          let u = k.second in
          let pot : Potential net (λ a. 0) far P = record {
            off = λ a o n. omega (arith, far-le (arc net.arcs a).from (arc net.arcs a).to (off-stays a o n));
            on = λ a m. omega (arith, far-le (arc net.arcs a).to (arc net.arcs a).from (on-stays a m));
          } in
          absurd (omega (
            arith,
            lower net (λ a. 0) far P pot s t P-route.is-chain P-route.ends x y r.is-chain r.ends u.is-chain u.ends k.once,
            none-total P,
            none-total x,
            none-total y,
            far-in s s-in,
            far-out t t-out,
          ))
