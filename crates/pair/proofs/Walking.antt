-- The two walks from s to t by the marks of the pair's arcs. The first goes by the mark in `out₁`, an arc of P, or where there is none by that in `out₂`; the second
-- the other way round. Any walk by arcs of the pair comes to t, and what it leaves over is again a chain from s to t (`walk_step`); the second walk is that chain
-- (`second-rule`), so it needs no marks of what the first took. Neither has as many arcs as there are nodes.
use mathlib.Core.Path.{◌≡◌, refl, sym, ap, subst, ◌∙◌}
use mathlib.Core.Logic.{◌⊎◌, inl, inr}
use mathlib.Core.Option.{some}
use mathlib.Core.List.Memᴰ
use mathlib.Core.List.{List, [], ◌∷◌, ◌++◌, append_assoc, append-nil, Memᴰ}
use mathlib.Core.Bool.{Bool, true, false, not, cond}
use Prim.Native.Nat.{ℕ, pred, ◌+◌, ◌-◌, ◌<◌, ◌≤◌}
use native.Mathlib.Omega.{arith}
use native.Mathlib.Decide.{ℕ_discrete}
use lib.Dec.{T, T_not, eqb, eqb→eq}
use lib.ListN.{length, length-append}
use Rattle.lists.specs.Tests.{has, distinct}
use Rattle.lists.proofs.TestLaws.{and_i, has→mem, mem→has, eq→eqb}
use Rattle.lists.proofs.Cases.{either}
use Rattle.net.specs.Net.{Net, arc}
use Rattle.net.specs.Route.{visited, end_of, leaves, chain, partial, length_of, precedes}
use Rattle.net.proofs.Valid.{Sound}
use Rattle.net.proofs.Listing.{partial-short}
use Rattle.net.proofs.Chains.{leaves-e, leaves-i, partial-chain, chain-front, chain_next, end_of-more}
use Rattle.distances.proofs.Walks.{open-arcs, Rising, rising-simple, chain_back, end_of-append}
use Rattle.pair.specs.Pair.{least_total}
use Rattle.pair.specs.Walked.{Both, Marks, On, Kept, Added, count, chosen, Walked, pick, First, Second, Taken}
use Rattle.pair.proofs.Sums.{count-nil, mem→count, count→mem, not-mem→count, on?}
use Rattle.pair.proofs.Walks.{rising-closed}
use Rattle.pair.proofs.Extract.{walk-over, walk-on, walk_step, rises-W, rises-other, second-rule}
use Rattle.pair.proofs.Least.{Route, Made, shortest-route, made, made-taken, walked-pair, taken-after, taken-first}
use Rattle.pair.proofs.Two.{pot, zero-φ, R-way, R-once, R-tight}
use Rattle.pair.proofs.Total.{pair-total}

-- ---- which arcs

module _ (P R : List ℕ) (x : ℕ) where
  chosen_on : On P x → chosen P R x ≡ 1 - count x R
  unfolding chosen
  chosen_on m = go (has x P) (mem→has m)
    where
      go : (b : Bool) → T b → cond b (1 - count x R) (count x R) ≡ 1 - count x R
      go true h = refl
      go false h = absurd h

  chosen-off : (On P x → ⊥) → chosen P R x ≡ count x R
  unfolding chosen
  chosen-off n = go (has x P) (λ h. n (has→mem x P h))
    where
      go : (b : Bool) → (T b → ⊥) → cond b (1 - count x R) (count x R) ≡ count x R
      go true h = absurd (h tt)
      go false h = refl

  kept-chosen : Kept P R x → 1 ≤ chosen P R x
  kept-chosen h = omega (arith, chosen_on h.0, not-mem→count x R h.1)

  added-chosen : Added P R x → 1 ≤ chosen P R x
  added-chosen h = omega (arith, chosen-off h.0, mem→count h.1)

  chosen-kept : On P x → 1 ≤ chosen P R x → Kept P R x
  chosen-kept m h = (m, λ k. absurd (omega (arith, chosen_on m, mem→count k)))

  chosen-added : (On P x → ⊥) → 1 ≤ chosen P R x → Added P R x
  chosen-added n h = (n, count→mem x R (omega (arith, chosen-off n)))

module _ (none a b : ℕ) where
  pick-one : (a ≡ none → ⊥) → pick none a b ≡ a
  unfolding pick
  pick-one n = go (eqb a none) (λ h. n (eqb→eq a none h))
    where
      go : (c : Bool) → (T c → ⊥) → cond c b a ≡ a
      go true h = absurd (h tt)
      go false h = refl

  pick_other : a ≡ none → pick none a b ≡ b
  unfolding pick
  pick_other e = go (eqb a none) (eq→eqb a none e)
    where
      go : (c : Bool) → T c → cond c b a ≡ b
      go true h = refl
      go false h = absurd h

-- ---- the walks

module _ (net : Net) (s t : ℕ) (sound : Sound net) (π parent : ℕ → ℕ) (P : List ℕ) (d parent₂ : ℕ → ℕ) (R : List ℕ) (both : Both net s t π parent P d parent₂ R) where
  abbrev φ : ℕ → ℕ
  φ v = π v + d v

  route : Route net s t P
  route = shortest-route net s t π parent P both.short

  a_pair : (A : List ℕ) × (B : List ℕ) × Made net s t φ P R A B
  a_pair =
      let k = both.short.is-long in
      let r = both.short₂ in
      made net s t P route sound.positive φ (pot net s t π both.one P route k d both.two) (zero-φ net s t π both.one P route k d both.two) R
      (R-way net s t π both.one P route k d both.two R r.is-partial r.ends r.is-long)
      (R-once net s t π both.one P route k d both.two R r.is-partial r.ends r.is-long)
      (R-tight net s t π both.one P route k d both.two R r.is-partial r.ends r.is-long)

  -- how often its arcs are there
  chosen-made : (A B : List ℕ) → Made net s t φ P R A B → (x : ℕ) → count x A + count x B ≡ chosen P R x
  chosen-made A B m x = go (on? P x)
    where
      go : On P x ⊎ (On P x → ⊥) → count x A + count x B ≡ chosen P R x
      go (inl k) = omega (arith, m.on-P x k, chosen_on P R x k)
      go (inr k) = omega (arith, m.off-P x k, chosen-off P R x k)

  rises : (x : ℕ) → 1 ≤ chosen P R x → φ (arc net.arcs x).from < φ (arc net.arcs x).to
  rises x h = let m = a_pair in m.2.rises x (omega (arith, chosen-made m.0 m.1 m.2 x))

  -- an arc marked is one to go by
  kept_leaves : (a : ℕ) → Kept P R a → T (leaves net (arc net.arcs a).from a)
  kept_leaves a h =
      let o = open-arcs net s P (partial-chain net s P both.short.is-partial) a h.0 in
      leaves-i net (arc net.arcs a).from a (record { is-arc = o.0; is-usable = o.1; starts = refl })

  -- a chain along which φ rises has fewer arcs than there are nodes
  short-chain : s < net.nodes → (q : List ℕ) → T (chain net s q) → Rising net φ q → length q ≤ pred net.nodes
  unfolding partial
  short-chain s-below q h r = partial-short net s s-below sound.to_below q (and_i (chain net s q) (distinct (visited net.arcs s q)) h (rising-simple net φ s q h r))

  pub first-start : First net s t P R s []
  unfolding end_of
  first-start =
      let m = a_pair in
      record {
        rest = m.0;
        other = m.1;
        at = refl;
        walked = record {
          W-chain = m.2.is-pair.first.is-chain;
          W-end = m.2.is-pair.first.ends;
          other-chain = m.2.is-pair.second.is-chain;
          other-end = m.2.is-pair.second.ends;
          parts = λ x. omega (arith, count-nil x, chosen-made m.0 m.1 m.2 x);
        };
        prefers = λ a k. absurd (Memᴰ.not-nil k);
      }

  module _ (none : ℕ) (past : length net.arcs ≤ none) (out₁ out₂ : ℕ → ℕ) (kept : Marks net.arcs none (Kept P R) out₁) (added : Marks net.arcs none (Added P R) out₂) where
    kept-isnt : (v a : ℕ) → Kept P R a → (arc net.arcs a).from ≡ v → out₁ v ≡ none → ⊥
    kept-isnt v a h e n = absurd (omega (arith, (leaves-e net (arc net.arcs a).from a (kept_leaves a h)).is-arc, sym (kept.marked a h) ∙ ap out₁ e ∙ n))

    -- an arc that the first walk may go on by
    record Goes (v a : ℕ) : Type 0 where
      leads : T (leaves net v a)
      is-chosen : 1 ≤ chosen P R a
      fair : (On P a → ⊥) → (b : ℕ) → Kept P R b → (arc net.arcs b).from ≡ v → ⊥

    module _ (v : ℕ) (W : List ℕ) (f : First net s t P R v W) (away : v ≡ t → ⊥) where
      goes : Goes v (pick none (out₁ v) (out₂ v))
      goes = go (ℕ_discrete (out₁ v) none)
        where
          -- by its own mark
          one : (out₁ v ≡ none) ⊎ (Kept P R (out₁ v) × ((arc net.arcs (out₁ v)).from ≡ v)) → (out₁ v ≡ none → ⊥) → Goes v (out₁ v)
          one (inl e) n = absurd (n e)
          one (inr h) n = record { leads = subst (λ x. T (leaves net x (out₁ v))) h.1 (kept_leaves (out₁ v) h.0); is-chosen = kept-chosen P R (out₁ v) h.0; fair = λ k. absurd (k h.0.0) }

          -- an arc of the pair leads on, and it is not one of P
          other : (c : ℕ) × T (leaves net v c) × (1 ≤ chosen P R c) → out₁ v ≡ none → Goes v (out₂ v)
          other w e = at (on? P w.0)
            where
              at : On P w.0 ⊎ (On P w.0 → ⊥) → Goes v (out₂ v)
              at (inl m) = absurd (kept-isnt v w.0 (chosen-kept P R w.0 m w.2) (leaves-e net v w.0 w.1).starts e)
              at (inr n) =
                  let i : out₂ v ≡ w.0 = ap out₂ (sym (leaves-e net v w.0 w.1).starts) ∙ added.marked w.0 (chosen-added P R w.0 n w.2) in
                  subst (Goes v) (sym i) (record { leads = w.1; is-chosen = w.2; fair = λ k b h z. kept-isnt v b h z e })

          on : (c : ℕ) × T (leaves net v c) × (1 ≤ chosen P R c)
          on = subst (λ u. (c : ℕ) × T (leaves net u c) × (1 ≤ chosen P R c)) f.at (walk-on net φ s t (chosen P R) rises W f.rest f.other f.walked (λ e. away (sym f.at ∙ e)))

          go : Dec (out₁ v ≡ none) → Goes v (pick none (out₁ v) (out₂ v))
          go (no n) = subst (Goes v) (sym (pick-one none (out₁ v) (out₂ v) n)) (one (kept.only v) n)
          go (yes e) = subst (Goes v) (sym (pick_other none (out₁ v) (out₂ v) e)) (other on e)

      pub first-arc : T (leaves net v (pick none (out₁ v) (out₂ v)))
      first-arc = goes.leads

      -- by any arc that it may go on by
      stepped : (a : ℕ) → Goes v a → First net s t P R (arc net.arcs a).to (W ++ (a ∷ []))
      stepped a g =
          let k = walk_step net φ s t (chosen P R) rises W f.rest f.other f.walked a (subst (λ u. T (leaves net u a)) (sym f.at) g.leads) g.is-chosen in
          record {
            rest = k.0;
            other = k.1;
            at = end_of-more net.arcs s W a;
            walked = k.2;
            prefers = λ x m. prefers x (Memᴰ.append_cases W m);
          }
        where
          prefers : (x : ℕ) → On W x ⊎ On (a ∷ []) x → (On P x → ⊥) → (b : ℕ) → Kept P R b → (arc net.arcs b).from ≡ (arc net.arcs x).from → ⊥
          prefers x (inl m) n b h e = f.prefers x m n b h e
          prefers x (inr m) n b h e =
              let i : x ≡ a = Memᴰ.eq_of_singleton m in
              g.fair (λ k. n (subst (On P) (sym i) k)) b h (e ∙ ap (λ y. (arc net.arcs y).from) i ∙ (leaves-e net v a g.leads).starts)

      pub first_step : First net s t P R (arc net.arcs (pick none (out₁ v) (out₂ v))).to (W ++ (pick none (out₁ v) (out₂ v) ∷ []))
      first_step = stepped (pick none (out₁ v) (out₂ v)) goes

      pub first-room : s < net.nodes → length W < pred net.nodes
      first-room s-below =
          let a = pick none (out₁ v) (out₂ v) in
          let g = first_step in
          omega (
            arith,
            short-chain s-below (W ++ (a ∷ [])) (chain-front net s (W ++ (a ∷ [])) g.rest g.walked.W-chain) (rises-W net φ s t (chosen P R) rises (W ++ (a ∷ [])) g.rest g.other g.walked),
            length-append W (a ∷ []),
          )

    -- at t: what it leaves is the second walk
    pub first-end : (W : List ℕ) → First net s t P R t W → Second net s t P R W s []
    unfolding end_of
    first-end W f =
        let w : Walked net s t (chosen P R) W [] f.other = subst (λ r. Walked net s t (chosen P R) W r f.other) (walk-over net φ s t (chosen P R) rises W f.rest f.other f.walked f.at) f.walked in
        record {
          rest = f.other;
          at = refl;
          walked = w;
          prefers = λ b m on r h e. second-rule net φ s t (chosen P R) rises P W f.other w (λ a k n c i j z. f.prefers a k n c (chosen-kept P R c i j) z) b m on r h.0 (added-chosen P R r h) e;
        }

    module _ (W : List ℕ) (v : ℕ) (X : List ℕ) (g : Second net s t P R W v X) where
      rises-X : Rising net φ (X ++ g.rest)
      rises-X = rises-other net φ s t (chosen P R) rises W [] (X ++ g.rest) g.walked

      module _ (away : v ≡ t → ⊥) where
        -- the next arc of what the first walk left is the one picked
        picked : (rest' : List ℕ) × (g.rest ≡ pick none (out₂ v) (out₁ v) ∷ rest')
        picked = go g.rest refl
          where
            at_c : (c : ℕ) (r : List ℕ) → g.rest ≡ c ∷ r → (arc net.arcs c).from ≡ v
            at_c c r e =
                (leaves-e net (end_of net.arcs s X) c (chain_next net s X c r (subst (λ l. T (chain net s (X ++ l))) e g.walked.other-chain))).starts ∙ g.at

            on-c : (c : ℕ) (r : List ℕ) → g.rest ≡ c ∷ r → On (X ++ g.rest) c
            on-c c r e = Memᴰ.append_right X (subst (Memᴰ c) (sym e) (Memᴰ.head refl))

            is-chosen : (c : ℕ) (r : List ℕ) → g.rest ≡ c ∷ r → 1 ≤ chosen P R c
            is-chosen c r e = omega (arith, g.walked.parts c, mem→count (on-c c r e))

            off : (c : ℕ) (r : List ℕ) → g.rest ≡ c ∷ r → (On P c → ⊥) → pick none (out₂ v) (out₁ v) ≡ c
            off c r e n =
                let i : out₂ v ≡ c = ap out₂ (sym (at_c c r e)) ∙ added.marked c (chosen-added P R c n (is-chosen c r e)) in
                let l : c < length net.arcs = (leaves-e net (end_of net.arcs s X) c (chain_next net s X c r (subst (λ l. T (chain net s (X ++ l))) e g.walked.other-chain))).is-arc in
                pick-one none (out₂ v) (out₁ v) (λ z. absurd (omega arith)) ∙ i

            on : (c : ℕ) (r : List ℕ) → g.rest ≡ c ∷ r → On P c → (out₂ v ≡ none) ⊎ (Added P R (out₂ v) × ((arc net.arcs (out₂ v)).from ≡ v)) → pick none (out₂ v) (out₁ v) ≡ c
            on c r e m (inl z) = pick_other none (out₂ v) (out₁ v) z ∙ ap out₁ (sym (at_c c r e)) ∙ kept.marked c (chosen-kept P R c m (is-chosen c r e))
            on c r e m (inr h) = absurd (g.prefers c (on-c c r e) m (out₂ v) h.0 (h.1 ∙ sym (at_c c r e)))

            at : (c : ℕ) (r : List ℕ) → g.rest ≡ c ∷ r → On P c ⊎ (On P c → ⊥) → pick none (out₂ v) (out₁ v) ≡ c
            at c r e (inl m) = on c r e m (added.only v)
            at c r e (inr n) = off c r e n

            go : (l : List ℕ) → g.rest ≡ l → (rest' : List ℕ) × (g.rest ≡ pick none (out₂ v) (out₁ v) ∷ rest')
            go [] e = absurd (away (sym g.at ∙ sym (ap (end_of net.arcs s) (ap (λ l. X ++ l) e ∙ append-nil X)) ∙ g.walked.other-end))
            go (c ∷ r) e = (r, e ∙ ap (λ x. x ∷ r) (sym (at c r e (on? P c))))

        whole : X ++ g.rest ≡ (X ++ (pick none (out₂ v) (out₁ v) ∷ [])) ++ picked.0
        whole = ap (λ l. X ++ l) picked.1 ∙ sym (append_assoc X (pick none (out₂ v) (out₁ v) ∷ []) picked.0)

        pub second-arc : T (leaves net v (pick none (out₂ v) (out₁ v)))
        second-arc =
            let a = pick none (out₂ v) (out₁ v) in
            subst (λ u. T (leaves net u a)) g.at (chain_next net s X a picked.0 (subst (λ l. T (chain net s (X ++ l))) picked.1 g.walked.other-chain))

        pub second-step : Second net s t P R W (arc net.arcs (pick none (out₂ v) (out₁ v))).to (X ++ (pick none (out₂ v) (out₁ v) ∷ []))
        second-step =
            record {
              rest = picked.0;
              at = end_of-more net.arcs s X (pick none (out₂ v) (out₁ v));
              walked = subst (Walked net s t (chosen P R) W []) whole g.walked;
              prefers = λ b m. g.prefers b (subst (Memᴰ b) (sym whole) m);
            }

        pub second-room : s < net.nodes → length X < pred net.nodes
        second-room s-below =
            omega (
              arith,
              short-chain s-below (X ++ g.rest) g.walked.other-chain rises-X,
              length-append X g.rest,
              ap length picked.1,
            )

    -- at t: the two walks are a pair of least total
    pub second-end : (W X : List ℕ) → Second net s t P R W t X → Taken net s t (π t + π t + d t) W X
    second-end W X g =
        let m = a_pair in
        let k = both.short.is-long in
        let r = both.short₂ in
        let z : g.rest ≡ [] = rising-closed net φ (end_of net.arcs s X) g.rest (chain_back net s X g.rest g.walked.other-chain)
        (λ x i. rises-X W t X g x (Memᴰ.append_right X i)) (sym (end_of-append net.arcs s X g.rest) ∙ g.walked.other-end ∙ sym g.at) in
        let e : X ++ g.rest ≡ X = ap (λ l. X ++ l) z ∙ append-nil X in
        let w : Walked net s t (chosen P R) W [] X = subst (Walked net s t (chosen P R) W []) e g.walked in
        let v : Walked net s t (λ x. count x m.0 + count x m.1) W [] X = record {
          W-chain = w.W-chain;
          W-end = w.W-end;
          other-chain = w.other-chain;
          other-end = w.other-end;
          parts = λ x. w.parts x ∙ sym (chosen-made m.0 m.1 m.2 x);
        } in
        let p = pot net s t π both.one P route k d both.two in
        let zero = zero-φ net s t π both.one P route k d both.two in
        let way = R-way net s t π both.one P route k d both.two R r.is-partial r.ends r.is-long in
        let once = R-once net s t π both.one P route k d both.two R r.is-partial r.ends r.is-long in
        let tight = R-tight net s t π both.one P route k d both.two R r.is-partial r.ends r.is-long in
        let made' = walked-pair net s t P route sound.positive φ p zero R way once tight m.0 m.1 m.2 W [] X v (sym (ap (end_of net.arcs s) (append-nil W)) ∙ w.W-end) in
        let n : length_of net.arcs P + φ t ≡ π t + π t + d t = omega (arith, k) in
        subst (λ c. Taken net s t c W X) n (made-taken net s t P route sound.positive φ p zero R way once tight W X made')

-- its total is the least
pub taken-total : (net : Net) (s t : ℕ) → s < net.nodes → Sound net → (s ≡ t → ⊥) → (n : ℕ) (p q : List ℕ) → Taken net s t n p q → least_total net s t ≡ some n
taken-total net s t s-below sound differ n p q k = go (either (precedes net.arcs q p))
  where
    go : T (precedes net.arcs q p) ⊎ T (not (precedes net.arcs q p)) → least_total net s t ≡ some n
    go (inl h) = pair-total net s t s-below sound q p (taken-after net s t n p q k h) ∙ ap some (omega (arith, k.is-long))
    go (inr h) = pair-total net s t s-below sound p q (taken-first net s t n p q k differ (T_not (precedes net.arcs q p) h)) ∙ ap some k.is-long
