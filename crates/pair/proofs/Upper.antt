-- From a chain P from s to t and a way R from s to t through the residual net of P, two chains from s to t with nothing in common: going along R, a
-- full chain A and a chain B to the node reached. A step forth adds its arc to B. A step back over an arc that B ends with takes it off B. One over an arc
-- of A, which is A₁, the arc and A₂, makes them B ++ A₂ and A₁.
use mathlib.Core.Path.{◌≡◌, refl, sym, ap, subst, ◌∙◌}
use mathlib.Core.Logic.{◌⊎◌, inl, inr}
use mathlib.Core.List.Memᴰ
use mathlib.Core.List.{List, [], ◌∷◌, ◌++◌, Memᴰ}
use Prim.Native.Nat.{ℕ, ◌+◌, ◌<◌, ◌≤◌}
use native.Mathlib.Omega.{arith}
use lib.Dec.{T}
use Rattle.lists.proofs.MemberLaws.{parts_at}
use Rattle.lists.proofs.Cases.{order}
use Rattle.net.specs.Net.{Net, arc}
use Rattle.net.specs.Route.{end_of, leaves, chain, length_of}
use Rattle.net.proofs.Order.{length_of-append}
use Rattle.net.proofs.Chains.{leaves-e, chain-front, chain_more, end_of-more}
use Rattle.pair.specs.Walked.{count}
use Rattle.pair.proofs.Sums.{count-nil, count-cons, count-append, count_at, same-is, same_not, mem→count, count→mem, not-mem→count, on?}
use Rattle.distances.proofs.Walks.{end_of-append, chain-join, cut-leaves, cut-rest, cut-end, Rising}
use Rattle.pair.proofs.Walks.{rising-closed}

-- a way through the residual net of P: forth over arcs off P, back over arcs of P
pub data Through (net : Net) (P : List ℕ) : ℕ → List ℕ → ℕ → Type 0 where
  there : {v : ℕ} → Through net P v [] v
  forth : {v t a : ℕ} {r : List ℕ} → (Memᴰ a P → ⊥) → T (leaves net v a) → Through net P (arc net.arcs a).to r t → Through net P v (a ∷ r) t
  back : {v t a : ℕ} {r : List ℕ} → Memᴰ a P → (arc net.arcs a).to ≡ v → Through net P (arc net.arcs a).from r t → Through net P v (a ∷ r) t

module _ (net : Net) (φ : ℕ → ℕ) (P : List ℕ) (s t : ℕ) where
  abbrev pub Tight : ℕ → Type 0
  Tight a = φ (arc net.arcs a).to ≡ φ (arc net.arcs a).from + (arc net.arcs a).len

  -- the two chains when the arcs `done` of the way are passed and node v is reached
  pub record State (done : List ℕ) (v : ℕ) (A B : List ℕ) : Type 0 where
    pub A-chain : T (chain net s A)
    pub A-end : end_of net.arcs s A ≡ t
    pub B-chain : T (chain net s B)
    pub B-end : end_of net.arcs s B ≡ v
    pub kept : (x : ℕ) → Memᴰ x P → count x A + count x B + count x done ≡ 1
    pub new : (x : ℕ) → (Memᴰ x P → ⊥) → count x A + count x B ≡ count x done
    pub is-tight : (x : ℕ) → Memᴰ x done → Tight x
    pub lengths : length_of net.arcs A + length_of net.arcs B ≡ length_of net.arcs P + φ v

  pub start : T (chain net s P) → end_of net.arcs s P ≡ t → ((x : ℕ) → count x P ≤ 1) → φ s ≡ 0 → State [] s P []
  unfolding chain end_of length_of
  start h e o z =
      record {
        A-chain = h;
        A-end = e;
        B-chain = tt;
        B-end = refl;
        kept = λ x m. omega (arith, count-nil x, o x, mem→count m);
        new = λ x n. omega (arith, count-nil x, not-mem→count x P n);
        is-tight = λ x m. absurd (Memᴰ.not-nil m);
        lengths = omega arith;
      }

  module _ (positive : (a : ℕ) → 0 < (arc net.arcs a).len) (on : (a : ℕ) → Memᴰ a P → φ (arc net.arcs a).from + (arc net.arcs a).len ≤ φ (arc net.arcs a).to) where
    -- φ rises along both chains
    pub rising : (done : List ℕ) (v : ℕ) (A B : List ℕ) → State done v A B → (x : ℕ) → 1 ≤ count x A + count x B → φ (arc net.arcs x).from < φ (arc net.arcs x).to
    rising done v A B st x h = go (on? P x)
      where
        go : Memᴰ x P ⊎ (Memᴰ x P → ⊥) → φ (arc net.arcs x).from < φ (arc net.arcs x).to
        go (inl m) = omega (arith, on x m, positive x)
        go (inr n) = omega (arith, st.is-tight x (count→mem x done (omega (arith, st.new x n))), positive x)

    pub rising-A : (done : List ℕ) (v : ℕ) (A B : List ℕ) → State done v A B → Rising net φ A
    rising-A done v A B st x m = rising done v A B st x (omega (arith, mem→count m))

    pub rising-B : (done : List ℕ) (v : ℕ) (A B : List ℕ) → State done v A B → Rising net φ B
    rising-B done v A B st x m = rising done v A B st x (omega (arith, mem→count m))

    passed : (a : ℕ) (done : List ℕ) → Tight a → ((x : ℕ) → Memᴰ x done → Tight x) → (x : ℕ) → Memᴰ x (a ∷ done) → Tight x
    passed a done h f x m = go (Memᴰ.cases_cons m)
      where
        go : (x ≡ a) ⊎ Memᴰ x done → Tight x
        go (inl e) = subst Tight (sym e) h
        go (inr k) = f x k

    -- forth
    pub step-forth : (done : List ℕ) (v : ℕ) (A B : List ℕ) (a : ℕ) → State done v A B → (Memᴰ a P → ⊥) → T (leaves net v a) → Tight a
        → State (a ∷ done) (arc net.arcs a).to A (B ++ (a ∷ []))
    unfolding length_of
    step-forth done v A B a st n l h =
        record {
          A-chain = st.A-chain;
          A-end = st.A-end;
          B-chain = chain_more net s B a st.B-chain (subst (λ x. T (leaves net x a)) (sym st.B-end) l);
          B-end = end_of-more net.arcs s B a;
          kept = λ x m. omega (arith, st.kept x m, count_at x B a [], count-nil x, count-cons x a done, same_not x a (λ e. n (subst (λ y. Memᴰ y P) e m)));
          new = λ x k. omega (arith, st.new x k, count_at x B a [], count-nil x, count-cons x a done);
          is-tight = passed a done h st.is-tight;
          lengths = omega (arith, st.lengths, length_of-append net.arcs B (a ∷ []), ap φ (leaves-e net v a l).starts);
        }

    -- back over an arc of A
    module _ (done : List ℕ) (v : ℕ) (A B : List ℕ) (b : ℕ) (st : State done v A B) (m : Memᴰ b P) (h : Tight b) (e : (arc net.arcs b).to ≡ v) where
      pub step-swap : (A₁ A₂ : List ℕ) → A ≡ A₁ ++ (b ∷ A₂) → State (b ∷ done) (arc net.arcs b).from (B ++ A₂) A₁
      unfolding length_of
      step-swap A₁ A₂ q =
          let c : T (chain net s (A₁ ++ (b ∷ A₂))) = subst (λ l. T (chain net s l)) q st.A-chain in
          let f : end_of net.arcs s B ≡ (arc net.arcs b).to = st.B-end ∙ sym e in
          record {
            A-chain = chain-join net s B A₂ st.B-chain (subst (λ x. T (chain net x A₂)) (sym f) (cut-rest net s A₁ b A₂ c));
            A-end = end_of-append net.arcs s B A₂ ∙ ap (λ x. end_of net.arcs x A₂) f ∙ sym (cut-end net s A₁ b A₂ c) ∙ ap (end_of net.arcs s) (sym q) ∙ st.A-end;
            B-chain = chain-front net s A₁ (b ∷ A₂) c;
            B-end = sym (cut-leaves net s A₁ b A₂ c).starts;
            kept = λ x k. omega (arith, st.kept x k, count-append x B A₂, ap (count x) q, count_at x A₁ b A₂, count-cons x b done);
            new = λ x k. omega (arith, st.new x k, count-append x B A₂, ap (count x) q, count_at x A₁ b A₂, count-cons x b done, same_not x b (λ z. k (subst (λ y. Memᴰ y P) (sym z) m)));
            is-tight = passed b done h st.is-tight;
            lengths = omega (arith, st.lengths, length_of-append net.arcs B A₂, ap (length_of net.arcs) q, length_of-append net.arcs A₁ (b ∷ A₂), ap φ e);
          }

      -- back over an arc of B: it is the last one
      pub step-off : (B₁ B₂ : List ℕ) → B ≡ B₁ ++ (b ∷ B₂) → State (b ∷ done) (arc net.arcs b).from A B₁
      unfolding length_of
      step-off B₁ B₂ q =
          let c : T (chain net s (B₁ ++ (b ∷ B₂))) = subst (λ l. T (chain net s l)) q st.B-chain in
          let z : B₂ ≡ [] = rising-closed net φ (arc net.arcs b).to B₂ (cut-rest net s B₁ b B₂ c)
          (λ x k. rising-B done v A B st x (subst (Memᴰ x) (sym q) (Memᴰ.append_right B₁ (Memᴰ.tail k))))
          (sym (cut-end net s B₁ b B₂ c) ∙ ap (end_of net.arcs s) (sym q) ∙ st.B-end ∙ sym e) in
          record {
            A-chain = st.A-chain;
            A-end = st.A-end;
            B-chain = chain-front net s B₁ (b ∷ B₂) c;
            B-end = sym (cut-leaves net s B₁ b B₂ c).starts;
            kept = λ x k. omega (arith, st.kept x k, ap (count x) q, count_at x B₁ b B₂, count-cons x b done, ap (count x) z, count-nil x);
            new = λ x k. omega (arith, st.new x k, ap (count x) q, count_at x B₁ b B₂, ap (count x) z, count-nil x, count-cons x b done, same_not x b (λ y. k (subst (λ u. Memᴰ u P) (sym y) m)));
            is-tight = passed b done h st.is-tight;
            lengths = omega (arith, st.lengths, ap (length_of net.arcs) q, length_of-append net.arcs B₁ (b ∷ B₂), ap (length_of net.arcs) z, ap φ e);
          }

      -- b, not yet passed, is on one of them
      pub step_back : count b done ≡ 0 → (A' : List ℕ) × (B' : List ℕ) × State (b ∷ done) (arc net.arcs b).from A' B'
      step_back z = go (order 1 (count b A))
        where
          swap : (A₁ : List ℕ) × (A₂ : List ℕ) × (A ≡ A₁ ++ (b ∷ A₂)) → (A' : List ℕ) × (B' : List ℕ) × State (b ∷ done) (arc net.arcs b).from A' B'
          swap k = (B ++ k.1, k.0, step-swap k.0 k.1 k.2)

          off : (B₁ : List ℕ) × (B₂ : List ℕ) × (B ≡ B₁ ++ (b ∷ B₂)) → (A' : List ℕ) × (B' : List ℕ) × State (b ∷ done) (arc net.arcs b).from A' B'
          off k = (A, k.0, step-off k.0 k.1 k.2)

          go : (1 ≤ count b A) ⊎ (count b A < 1) → (A' : List ℕ) × (B' : List ℕ) × State (b ∷ done) (arc net.arcs b).from A' B'
          go (inl k) = swap (parts_at (count→mem b A k))
          go (inr k) = off (parts_at (count→mem b B (omega (arith, st.kept b m))))

    -- the whole way: all its arcs are passed
    pub along : {v : ℕ} {r : List ℕ} (done A B : List ℕ) → Through net P v r t → State done v A B → ((x : ℕ) → count x done + count x r ≤ 1) → ((x : ℕ) → Memᴰ x r → Tight x)
        → (all : List ℕ) × (A' : List ℕ) × (B' : List ℕ) × State all t A' B' × ((x : ℕ) → count x all ≡ count x done + count x r)
    along done A B there st o f = (done, A, B, st, λ x. omega (arith, count-nil x))
    along done A B (forth {v = v} {a = a} {r = r} n l w) st o f =
        let k = along (a ∷ done) A (B ++ (a ∷ [])) w (step-forth done v A B a st n l (f a (Memᴰ.head refl)))
        (λ x. omega (arith, o x, count-cons x a done, count-cons x a r)) (λ x m. f x (Memᴰ.tail m)) in
        (k.0, k.1, k.2, k.3, λ x. omega (arith, k.4 x, count-cons x a done, count-cons x a r))
    along done A B (back {v = v} {a = a} {r = r} n e w) st o f =
        let j = step_back done v A B a st n (f a (Memᴰ.head refl)) e (omega (arith, o a, count-cons a a r, same-is a)) in
        let k = along (a ∷ done) j.0 j.1 w j.2
        (λ x. omega (arith, o x, count-cons x a done, count-cons x a r)) (λ x m. f x (Memᴰ.tail m)) in
        (k.0, k.1, k.2, k.3, λ x. omega (arith, k.4 x, count-cons x a done, count-cons x a r))
