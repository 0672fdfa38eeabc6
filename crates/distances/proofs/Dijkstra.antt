-- The search for distances from s (Dijkstra), over any net: lengths may be 0. `d v` is the least length known to v, `far` where none is; `done` tells the
-- nodes whose arcs have been looked at; `parent v` is the last arc of the chain known.
use mathlib.Core.Path.{◌≡◌, refl, sym, ap, subst, ◌∙◌}
use mathlib.Core.Logic.{◌⊎◌, inl, inr}
use mathlib.Core.List.Memᴰ
use mathlib.Core.List.{List, [], ◌∷◌, ◌++◌, Memᴰ}
use mathlib.Core.Bool.{Bool, false, not}
use Prim.Native.Nat.{ℕ, ◌+◌, ◌-◌, ◌<◌, ◌≤◌}
use native.Mathlib.Omega.{arith}
use native.Mathlib.Decide.{ℕ_discrete}
use lib.Dec.{T, T_not, not_T}
use Rattle.lists.specs.Tests.{has}
use Rattle.lists.proofs.TestLaws.{has→mem, mem→has}
use Rattle.lists.proofs.Cases.{either}
use Rattle.net.specs.Net.{Net, arc}
use Rattle.net.specs.Route.{visited, end_of, chain, partial, length_of}
use Rattle.net.proofs.Order.{length_of-append}
use Rattle.net.proofs.Chains.{leaves-e, leaves-i, chain-cons, partial-nil, partial-more, end_of-more, visited-append, cut_at, partial-front, partial-chain}
use Rattle.distances.specs.Distance.{Distance, Unreached}
use Rattle.distances.specs.Search.{Open, Nothing, Steady, Found, Reaches, Search}

-- ---- what that says, of any numbers of the nodes that no arc's length falls short of

module _ (net : Net) (d : ℕ → ℕ) (relaxed : (a : ℕ) → Open net a → d (arc net.arcs a).to ≤ d (arc net.arcs a).from + (arc net.arcs a).len) where
  pub along-at-most : (x : ℕ) (q : List ℕ) → T (chain net x q) → d (end_of net.arcs x q) ≤ d x + length_of net.arcs q
  unfolding end_of length_of
  along-at-most x [] h = omega arith
  along-at-most x (a ∷ q) h =
      let c = chain-cons net x a q h in
      let y = leaves-e net x a c.0 in
      omega (arith, along-at-most (arc net.arcs a).to q c.1, relaxed a (y.is-arc, y.is-usable), ap d y.starts)

  -- along a chain that is no longer than it must be, each arc is just as long
  pub along-tight : (x : ℕ) (q : List ℕ) → T (chain net x q) → d x + length_of net.arcs q ≤ d (end_of net.arcs x q)
      → (a : ℕ) → Memᴰ a q → d (arc net.arcs a).to ≡ d (arc net.arcs a).from + (arc net.arcs a).len
  unfolding end_of length_of
  along-tight x [] h l a m = absurd (Memᴰ.not-nil m)
  along-tight x (b ∷ q) h l a m =
      let c = chain-cons net x b q h in
      let y = leaves-e net x b c.0 in
      let k = relaxed b (y.is-arc, y.is-usable) in
      let n = along-at-most (arc net.arcs b).to q c.1 in
      let e = ap d y.starts in
      go (omega arith) (λ z. along-tight (arc net.arcs b).to q c.1 (omega arith) a z) (Memᴰ.cases_cons m)
    where
      go : d (arc net.arcs b).to ≡ d (arc net.arcs b).from + (arc net.arcs b).len → (Memᴰ a q → d (arc net.arcs a).to ≡ d (arc net.arcs a).from + (arc net.arcs a).len)
          → (a ≡ b) ⊎ Memᴰ a q → d (arc net.arcs a).to ≡ d (arc net.arcs a).from + (arc net.arcs a).len
      go t below (inl e) = subst (λ z. d (arc net.arcs z).to ≡ d (arc net.arcs z).from + (arc net.arcs z).len) (sym e) t
      go t below (inr z) = below z

module _ (net : Net) (s far : ℕ) (d parent : ℕ → ℕ) (f : Found net s far d parent) where
  pub found-steady : Steady net s d
  found-steady = record { zero-s = f.zero-s; relaxed = f.relaxed }

  pub found-distance : (v : ℕ) → d v < far → Distance net s v (d v)
  found-distance v h =
      let r = f.real v h in
      record {
        reached = (r.0, r.1, r.2, r.3);
        least = λ q c e. omega (arith, along-at-most net d f.relaxed s q c, f.zero-s, ap d e);
      }

module _ (net : Net) (s : ℕ) where
  -- ---- a chain can be cut to a partial route

  pub shortened : (p r : List ℕ) → T (partial net s p) → T (chain net (end_of net.arcs s p) r)
      → (x : List ℕ) × T (partial net s x) × (end_of net.arcs s x ≡ end_of net.arcs (end_of net.arcs s p) r) × (length_of net.arcs x ≤ length_of net.arcs p + length_of net.arcs r)
  unfolding end_of length_of
  shortened p [] h c = (p, h, refl, omega arith)
  shortened p (a ∷ r) h c =
      go (λ x k l. shortened x r k l) (either (has (arc net.arcs a).to (visited net.arcs s p)))
    where
      Goal : Type 0
      Goal = (x : List ℕ) × T (partial net s x) × (end_of net.arcs s x ≡ end_of net.arcs (arc net.arcs a).to r) × (length_of net.arcs x ≤ length_of net.arcs p + ((arc net.arcs a).len + length_of net.arcs r))

      Below : Type 0
      Below = (y : List ℕ) → T (partial net s y) → T (chain net (end_of net.arcs s y) r)
          → (x : List ℕ) × T (partial net s x) × (end_of net.arcs s x ≡ end_of net.arcs (end_of net.arcs s y) r) × (length_of net.arcs x ≤ length_of net.arcs y + length_of net.arcs r)

      use-it : Below → (y : List ℕ) → T (partial net s y) → end_of net.arcs s y ≡ (arc net.arcs a).to → length_of net.arcs y ≤ length_of net.arcs p + (arc net.arcs a).len → Goal
      use-it below y k e l =
          let w = below y k (subst (λ v. T (chain net v r)) (sym e) (chain-cons net (end_of net.arcs s p) a r c).1) in
          (w.0, w.1, w.2 ∙ ap (λ v. end_of net.arcs v r) e, omega (arith, w.3))

      cut : Below → (p₁ : List ℕ) × (p₂ : List ℕ) × (p ≡ p₁ ++ p₂) × (end_of net.arcs s p₁ ≡ (arc net.arcs a).to) → Goal
      cut below w =
          use-it below w.0 (partial-front net s w.0 w.1 (subst (λ l. T (partial net s l)) w.2 h)) w.3
          (omega (arith, ap (length_of net.arcs) w.2, length_of-append net.arcs w.0 w.1))

      go : Below → T (has (arc net.arcs a).to (visited net.arcs s p)) ⊎ T (not (has (arc net.arcs a).to (visited net.arcs s p))) → Goal
      go below (inl m) = cut below (cut_at net.arcs s p (arc net.arcs a).to (has→mem _ _ m))
      go below (inr n) =
          use-it below (p ++ (a ∷ []))
          (partial-more net s p a h (record {
            leaves-end = (chain-cons net (end_of net.arcs s p) a r c).0;
            is-new = λ m. T_not (has (arc net.arcs a).to (visited net.arcs s p)) n (mem→has m);
          })) (end_of-more net.arcs s p a) (omega (arith, length_of-append net.arcs p (a ∷ [])))

  pub cut-cycles : (q : List ℕ) → T (chain net s q) → (x : List ℕ) × T (partial net s x) × (end_of net.arcs s x ≡ end_of net.arcs s q) × (length_of net.arcs x ≤ length_of net.arcs q)
  unfolding end_of length_of
  cut-cycles q h = let w = shortened [] q (partial-nil net s) h in (w.0, w.1, w.2, omega (arith, w.3))

  -- ---- the search

  module _ (far : ℕ) where
    -- at the start: nothing done, s at 0, every other node far
    pub search-start : (d parent : ℕ → ℕ) → d s ≡ 0 → ((v : ℕ) → (v ≡ s → ⊥) → d v ≡ far) → Search net s far (λ v. false) d parent 0 Nothing
    unfolding end_of length_of visited
    search-start d parent z f =
        record {
          zero-s = z;
          most = λ v. most v (ℕ_discrete v s);
          real = λ v h. real v h (ℕ_discrete v s);
          relaxed = λ a o h n. absurd h;
          below = λ v h. absurd h;
          above = λ v h. omega arith;
        }
      where
        most : (v : ℕ) → Dec (v ≡ s) → d v ≤ far
        most v (yes e) = omega (arith, ap d e)
        most v (no n) = omega (arith, f v n)

        real : (v : ℕ) → d v < far → Dec (v ≡ s) → (p : List ℕ) × Reaches net s (λ u. false) parent v (d v) p
        real v h (yes e) = (
          [],
          record {
            is-partial = partial-nil net s;
            ends = sym e;
            is-long = sym z ∙ ap d (sym e);
            through = λ u m. inl (Memᴰ.eq_of_singleton m ∙ sym e);
            follows = λ a m. absurd (Memᴰ.not-nil m);
          },
        )
        real v h (no n) = absurd (omega (arith, f v n))

    -- another test for the same nodes
    pub search-same : (done done' : ℕ → Bool) (d parent : ℕ → ℕ) (level : ℕ) (Pending : ℕ → Type 0) → ((v : ℕ) → done' v ≡ done v) → Search net s far done d parent level Pending → Search net s far done' d parent level Pending
    search-same done done' d parent level Pending e st =
        record {
          zero-s = st.zero-s;
          most = st.most;
          real = λ v h. let k = st.real v h in (
            k.0,
            record {
              is-partial = k.1.is-partial;
              ends = k.1.ends;
              is-long = k.1.is-long;
              through = λ x m. through v x (k.1.through x m);
              follows = k.1.follows;
            },
          );
          relaxed = λ a o h n. st.relaxed a o (subst T (e (arc net.arcs a).from) h) n;
          below = λ v h. st.below v (subst T (e v) h);
          above = λ v h. st.above v (subst (λ b. T (not b)) (e v) h);
        }
      where
        through : (v x : ℕ) → (x ≡ v) ⊎ T (done x) → (x ≡ v) ⊎ T (done' x)
        through v x (inl z) = inl z
        through v x (inr h) = inr (subst T (sym (e x)) h)

    module _ (done : ℕ → Bool) (d parent : ℕ → ℕ) (level : ℕ) where
      -- take up a node that is not done and that no such node is nearer than: its arcs are pending
      pub search-settle : Search net s far done d parent level Nothing
          → (u : ℕ) → T (not (done u)) → ((v : ℕ) → T (not (done v)) → d u ≤ d v)
          → (done' : ℕ → Bool) → T (done' u) → ((v : ℕ) → (v ≡ u → ⊥) → done' v ≡ done v)
          → Search net s far done' d parent (d u) (λ a. (arc net.arcs a).from ≡ u)
      search-settle st u n least done' new same =
          record {
            zero-s = st.zero-s;
            most = st.most;
            real = λ v h. let k = st.real v h in (
              k.0,
              record {
                is-partial = k.1.is-partial;
                ends = k.1.ends;
                is-long = k.1.is-long;
                through = λ x m. through v x (k.1.through x m);
                follows = k.1.follows;
              },
            );
            relaxed = λ a o h p. st.relaxed a o (was (arc net.arcs a).from p h) (λ z. z);
            below = λ v h. below v h (ℕ_discrete v u);
            above = λ v h. least v (was-not v h);
          }
        where
          keeps : (v : ℕ) → T (done v) → Dec (v ≡ u) → T (done' v)
          keeps v h (yes e) = subst (λ x. T (done' x)) (sym e) new
          keeps v h (no k) = subst T (sym (same v k)) h

          was : (v : ℕ) → (v ≡ u → ⊥) → T (done' v) → T (done v)
          was v k h = subst T (same v k) h

          was-not : (v : ℕ) → T (not (done' v)) → T (not (done v))
          was-not v h = not_T (done v) (λ k. T_not (done' v) h (keeps v k (ℕ_discrete v u)))

          through : (v x : ℕ) → (x ≡ v) ⊎ T (done x) → (x ≡ v) ⊎ T (done' x)
          through v x (inl e) = inl e
          through v x (inr h) = inr (keeps x h (ℕ_discrete x u))

          below : (v : ℕ) → T (done' v) → Dec (v ≡ u) → d v ≤ d u
          below v h (yes e) = omega (arith, ap d e)
          below v h (no k) = omega (arith, st.below v (was v k h), st.above u n)

      module _ (Pending Pending' : ℕ → Type 0) (st : Search net s far done d parent level Pending) (a : ℕ) (o : Open net a)
          (u-done : T (done (arc net.arcs a).from)) (u-last : d (arc net.arcs a).from ≡ level) (rest : (x : ℕ) → (x ≡ a → ⊥) → (Pending' x → ⊥) → Pending x → ⊥) where
        -- look at an arc that brings nothing nearer
        pub search-keep : d (arc net.arcs a).to ≤ d (arc net.arcs a).from + (arc net.arcs a).len → Search net s far done d parent level Pending'
        search-keep h =
            record {
              zero-s = st.zero-s;
              most = st.most;
              real = st.real;
              relaxed = λ x k l n. relaxed x k l n (ℕ_discrete x a);
              below = st.below;
              above = st.above;
            }
          where
            relaxed : (x : ℕ) → Open net x → T (done (arc net.arcs x).from) → (Pending' x → ⊥) → Dec (x ≡ a) → d (arc net.arcs x).to ≤ d (arc net.arcs x).from + (arc net.arcs x).len
            relaxed x k l n (yes e) = subst (λ y. d (arc net.arcs y).to ≤ d (arc net.arcs y).from + (arc net.arcs y).len) (sym e) h
            relaxed x k l n (no e) = st.relaxed x k l (rest x e n)

        -- look at an arc that brings its end nearer
        module _ (h : d (arc net.arcs a).from + (arc net.arcs a).len < d (arc net.arcs a).to)
            (d' parent' : ℕ → ℕ) (d-new : d' (arc net.arcs a).to ≡ d (arc net.arcs a).from + (arc net.arcs a).len) (d-same : (v : ℕ) → (v ≡ (arc net.arcs a).to → ⊥) → d' v ≡ d v)
            (p-new : parent' (arc net.arcs a).to ≡ a) (p-same : (v : ℕ) → (v ≡ (arc net.arcs a).to → ⊥) → parent' v ≡ parent v) where
          -- its end is not done
          pub w-open : T (done (arc net.arcs a).to) → ⊥
          w-open k = absurd (omega (arith, st.below (arc net.arcs a).to k))

          done-same : (v : ℕ) → T (done v) → d' v ≡ d v
          done-same v k = d-same v (λ e. w-open (subst (λ x. T (done x)) e k))

          lower' : (v : ℕ) → d' v ≤ d v
          lower' v = go (ℕ_discrete v (arc net.arcs a).to)
            where
              go : Dec (v ≡ (arc net.arcs a).to) → d' v ≤ d v
              go (yes e) = omega (arith, ap d e, ap d' e)
              go (no n) = omega (arith, d-same v n)

          -- a chain to another node does not come by w
          follows' : (v n : ℕ) (p : List ℕ) → Reaches net s done parent v n p → (v ≡ (arc net.arcs a).to → ⊥) → (b : ℕ) → Memᴰ b p → parent' (arc net.arcs b).to ≡ b
          unfolding visited
          follows' v n p r k b m = p-same (arc net.arcs b).to (λ e. go (subst (λ x. (x ≡ v) ⊎ T (done x)) e (r.through (arc net.arcs b).to (Memᴰ.tail (Memᴰ.map (λ c. (arc net.arcs c).to) m))))) ∙ r.follows b m
            where
              go : ((arc net.arcs a).to ≡ v) ⊎ T (done (arc net.arcs a).to) → ⊥
              go (inl e) = k (sym e)
              go (inr l) = w-open l

          real' : (v : ℕ) → d' v < far → Dec (v ≡ (arc net.arcs a).to) → (p : List ℕ) × Reaches net s done parent' v (d' v) p
          unfolding visited length_of
          real' v l (yes e) =
              let k = st.real (arc net.arcs a).from (omega (arith, st.most (arc net.arcs a).to)) in
              let p = k.0 in
              let r = k.1 in (
                p ++ (a ∷ []),
                record {
                  is-partial = partial-more net s p a r.is-partial (record {
                    leaves-end = leaves-i net (end_of net.arcs s p) a (record { is-arc = o.0; is-usable = o.1; starts = sym r.ends });
                    is-new = λ m. w-open (at_done (arc net.arcs a).to (r.through (arc net.arcs a).to m));
                  });
                  ends = end_of-more net.arcs s p a ∙ sym e;
                  is-long = omega (arith, length_of-append net.arcs p (a ∷ []), r.is-long, ap d' e);
                  through = λ u m. passes u (Memᴰ.append_cases (visited net.arcs s p) (subst (Memᴰ u) (visited-append net.arcs s p (a ∷ [])) m)) (r.through u);
                  follows = λ b m. arcs b (Memᴰ.append_cases p m) (follows' (arc net.arcs a).from (d (arc net.arcs a).from) p r (λ z. w-open (subst (λ x. T (done x)) z u-done)) b);
                },
              )
            where
              at_done : (x : ℕ) → (x ≡ (arc net.arcs a).from) ⊎ T (done x) → T (done x)
              at_done x (inl z) = subst (λ y. T (done y)) (sym z) u-done
              at_done x (inr z) = z

              passes : (u : ℕ) → Memᴰ u (visited net.arcs s (st.real (arc net.arcs a).from (omega (arith, st.most (arc net.arcs a).to))).0) ⊎ Memᴰ u ((arc net.arcs a).to ∷ [])
                  → (Memᴰ u (visited net.arcs s (st.real (arc net.arcs a).from (omega (arith, st.most (arc net.arcs a).to))).0) → (u ≡ (arc net.arcs a).from) ⊎ T (done u)) → (u ≡ v) ⊎ T (done u)
              passes u (inl m) f = inr (at_done u (f m))
              passes u (inr m) f = inl (Memᴰ.eq_of_singleton m ∙ sym e)

              arcs : (b : ℕ) → Memᴰ b (st.real (arc net.arcs a).from (omega (arith, st.most (arc net.arcs a).to))).0 ⊎ Memᴰ b (a ∷ [])
                  → (Memᴰ b (st.real (arc net.arcs a).from (omega (arith, st.most (arc net.arcs a).to))).0 → parent' (arc net.arcs b).to ≡ b) → parent' (arc net.arcs b).to ≡ b
              arcs b (inl m) f = f m
              arcs b (inr m) f = subst (λ x. parent' (arc net.arcs x).to ≡ x) (sym (Memᴰ.eq_of_singleton m)) p-new
          real' v l (no n) =
              let k = st.real v (omega (arith, d-same v n)) in (
                k.0,
                record {
                  is-partial = k.1.is-partial;
                  ends = k.1.ends;
                  is-long = k.1.is-long ∙ sym (d-same v n);
                  through = k.1.through;
                  follows = follows' v (d v) k.0 k.1 n;
                },
              )

          pub search-lower : Search net s far done d' parent' level Pending'
          search-lower =
              record {
                zero-s = omega (arith, st.zero-s, lower' s);
                most = λ v. omega (arith, lower' v, st.most v);
                real = λ v l. real' v l (ℕ_discrete v (arc net.arcs a).to);
                relaxed = λ x k l n. relaxed x k l n (ℕ_discrete x a);
                below = λ v k. omega (arith, done-same v k, st.below v k);
                above = λ v k. above v k (ℕ_discrete v (arc net.arcs a).to);
              }
            where
              relaxed : (x : ℕ) → Open net x → T (done (arc net.arcs x).from) → (Pending' x → ⊥) → Dec (x ≡ a) → d' (arc net.arcs x).to ≤ d' (arc net.arcs x).from + (arc net.arcs x).len
              relaxed x k l n (yes e) =
                  subst (λ y. d' (arc net.arcs y).to ≤ d' (arc net.arcs y).from + (arc net.arcs y).len) (sym e) (omega (arith, done-same (arc net.arcs a).from u-done))
              relaxed x k l n (no e) = omega (arith, st.relaxed x k l (rest x e n), lower' (arc net.arcs x).to, done-same (arc net.arcs x).from l)

              above : (v : ℕ) → T (not (done v)) → Dec (v ≡ (arc net.arcs a).to) → level ≤ d' v
              above v k (yes e) = omega (arith, ap d' e)
              above v k (no n) = omega (arith, d-same v n, st.above v k)

      -- fewer arcs are pending, if those taken out are no arcs or have been looked at
      pub search-fewer : (Pending Pending' : ℕ → Type 0) → Search net s far done d parent level Pending → ((a : ℕ) → Open net a → (Pending' a → ⊥) → Pending a → ⊥) → Search net s far done d parent level Pending'
      search-fewer Pending Pending' st f =
          record {
            zero-s = st.zero-s;
            most = st.most;
            real = st.real;
            relaxed = λ a o h n. st.relaxed a o h (f a o n);
            below = st.below;
            above = st.above;
          }

      -- all arcs of the node are looked at
      pub search-looked : (Pending : ℕ → Type 0) → Search net s far done d parent level Pending → ((a : ℕ) → Open net a → Pending a → ⊥) → Search net s far done d parent level Nothing
      search-looked Pending st f = search-fewer Pending Nothing st (λ a o n. f a o)

      -- ---- what it gives

      module _ (st : Search net s far done d parent level Nothing) where
        -- a node that is done has its distance
        final : (x : ℕ) (q : List ℕ) (c : ℕ) → T (chain net x q) → d x ≤ c → T (done (end_of net.arcs x q)) → d (end_of net.arcs x q) ≤ c + length_of net.arcs q
        unfolding end_of length_of
        final x [] c h l k = omega arith
        final x (a ∷ q) c h l k =
            let y = chain-cons net x a q h in
            go (leaves-e net x a y.0) (λ z. final (arc net.arcs a).to q (c + (arc net.arcs a).len) y.1 z k) (either (done x))
          where
            go : Rattle.net.proofs.Chains.Leaves net x a → (d (arc net.arcs a).to ≤ c + (arc net.arcs a).len → d (end_of net.arcs (arc net.arcs a).to q) ≤ c + (arc net.arcs a).len + length_of net.arcs q)
                → T (done x) ⊎ T (not (done x)) → d (end_of net.arcs (arc net.arcs a).to q) ≤ c + ((arc net.arcs a).len + length_of net.arcs q)
            go y rest (inl z) =
                omega (arith, rest (omega (arith, st.relaxed a (y.is-arc, y.is-usable) (subst (λ v. T (done v)) (sym y.starts) z) (λ n. n), ap d y.starts)))
            go y rest (inr z) = omega (arith, st.below (end_of net.arcs (arc net.arcs a).to q) k, st.above x z)

        pub done-distance : (v : ℕ) → T (done v) → d v < far → Distance net s v (d v)
        done-distance v k l =
            let r = st.real v l in
            record {
              reached = (r.0, r.1.is-partial, r.1.ends, r.1.is-long);
              least = λ q h e. omega (arith, final s q 0 h (omega (arith, st.zero-s)) (subst (λ x. T (done x)) (sym e) k), ap d e);
            }

        -- and so the search may end when t is done: numbers cut off at the level are steady
        pub search-cut : Steady net s (λ v. level - (level - d v))
        search-cut =
            record { zero-s = omega (arith, st.zero-s); relaxed = λ a o. go a (either (done (arc net.arcs a).from)) (st.relaxed a o) }
          where
            go : (a : ℕ) → T (done (arc net.arcs a).from) ⊎ T (not (done (arc net.arcs a).from)) → (T (done (arc net.arcs a).from) → (⊥ → ⊥) → d (arc net.arcs a).to ≤ d (arc net.arcs a).from + (arc net.arcs a).len)
                → level - (level - d (arc net.arcs a).to) ≤ level - (level - d (arc net.arcs a).from) + (arc net.arcs a).len
            go a (inl h) f = omega (arith, f h (λ z. z))
            go a (inr h) f = omega (arith, st.above (arc net.arcs a).from h)

        -- when no node that is not done is near, every node has its distance
        module _ (over : (v : ℕ) → T (not (done v)) → far ≤ d v) where
          -- no arc is shorter than what it brings nearer
          pub all-relaxed : (a : ℕ) → Open net a → d (arc net.arcs a).to ≤ d (arc net.arcs a).from + (arc net.arcs a).len
          all-relaxed a o = go (either (done (arc net.arcs a).from))
            where
              go : T (done (arc net.arcs a).from) ⊎ T (not (done (arc net.arcs a).from)) → d (arc net.arcs a).to ≤ d (arc net.arcs a).from + (arc net.arcs a).len
              go (inl h) = st.relaxed a o h (λ n. n)
              go (inr h) = omega (arith, over (arc net.arcs a).from h, st.most (arc net.arcs a).to)

          pub search-found : Found net s far d parent
          search-found =
              record {
                zero-s = st.zero-s;
                most = st.most;
                relaxed = all-relaxed;
                real = λ v h. let k = st.real v h in (k.0, k.1.is-partial, k.1.ends, k.1.is-long, k.1.follows);
              }

-- where `far` is further than any partial route
pub found-unreached : (net : Net) (s far : ℕ) (d parent : ℕ → ℕ) → Found net s far d parent → ((p : List ℕ) → T (partial net s p) → length_of net.arcs p < far)
    → (v : ℕ) → far ≤ d v → Unreached net s v
unfolding partial
found-unreached net s far d parent f most v h q c e =
    let w = cut-cycles net s q c in
    absurd (omega (arith, most w.0 w.1, along-at-most net d f.relaxed s w.0 (partial-chain net s w.0 w.1), f.zero-s, ap d w.2, ap d e))
