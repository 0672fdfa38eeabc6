-- A candidate that fails a test once fails it ever after, so a cursor may pass over it for good: the first of the candidates at the cursors is the first that
-- need not fail. Where no label has one, every candidate that is left fails. The other cursors stay right when the first candidate is looked at, since the chains
-- of two labels with an arc more are never the same.
use mathlib.Core.Path.{◌≡◌, refl, sym, subst, ap, ◌∙◌}
use mathlib.Core.Logic.{◌≢◌, ◌⊎◌, inl, inr, ⊎_elim}
use mathlib.Core.List.Memᴰ
use mathlib.Core.List.{List, [], ◌∷◌, ◌++◌, map, Memᴰ}
use mathlib.Core.Option.{Option, none, some}
use Prim.Native.Nat.{ℕ, zero, suc, ◌+◌, ◌≤◌, ◌<◌}
use native.Mathlib.Omega.{arith}
use lib.Dec.{T}
use lib.ListN.{length}
use Rattle.lists.specs.Tests.{up_from}
use Rattle.lists.proofs.Cases.{order, three_ways}
use Rattle.lists.proofs.MemberLaws.{up_from-e, up_from-i}
use Rattle.net.specs.Route.{end_of, leaves, before}
use Rattle.net.specs.Round.{Query}
use Rattle.net.proofs.Order.{AtMost, before-irrefl, before-trans, at-most-trans}
use Rattle.net.proofs.Sorted.{Increasing}
use Rattle.net.proofs.Chains.{leaves-e}
use Rattle.net.proofs.Candidates.{Candidate}
use Rattle.net.proofs.Step.{Fails, fails_more, Foremost}
use Rattle.net.proofs.Labels.{snoc-front}
use Rattle.search_ahead.specs.Cursor.{Cursor, taken_of, Right, Cursors, Wins}

-- ---- chains are taken up

module _ (q : Query) (earlier : List (List ℕ)) (f : List ℕ → ℕ) (taken more : List (List ℕ)) (within : (r : List ℕ) → Memᴰ r taken → Memᴰ r more) where
  -- a cursor stays right when `last` goes on, as long as it is passed by
  pub cursor-kept : (last next p : List ℕ) (hi : ℕ) → T (before f last next) → (o : Option ℕ) → ((a : ℕ) → o ≡ some a → T (before f next (p ++ (a ∷ []))))
      → Cursor q earlier f taken last p hi o → Cursor q earlier f more next p hi o
  cursor-kept last next p hi h none g c = λ b u w. fails_more q earlier taken more within (p ++ (b ∷ [])) (c b u (record { leaves-end = w.leaves-end; after = before-trans f last next (p ++ (b ∷ [])) h w.after }))
  cursor-kept last next p hi h (some a) g c = (
    record { leaves-end = c.0.leaves-end; after = g a refl },
    λ b u w. ⊎_elim (λ k. inl (fails_more q earlier taken more within (p ++ (b ∷ [])) k)) inr (c.1 b u (record { leaves-end = w.leaves-end; after = before-trans f last next (p ++ (b ∷ [])) h w.after })),
  )

  -- and when only chains are taken up
  pub cursor-more : (last p : List ℕ) (hi : ℕ) (o : Option ℕ) → Cursor q earlier f taken last p hi o → Cursor q earlier f more last p hi o
  cursor-more last p hi none c = λ b u w. fails_more q earlier taken more within (p ++ (b ∷ [])) (c b u w)
  cursor-more last p hi (some a) c = (c.0, λ b u w. ⊎_elim (λ k. inl (fails_more q earlier taken more within (p ++ (b ∷ [])) k)) inr (c.1 b u w))

-- ---- chains by number

module _ (chain : ℕ → List ℕ) where
  taken_at : (n : ℕ) (x : List ℕ) → Memᴰ x (taken_of chain n) → (i : ℕ) × (i < n) × (x ≡ chain i)
  taken_at n x m = let w = Memᴰ.of_map chain (up_from 0 n) m in (w.0, omega (arith, up_from-e 0 n w.0 w.1), sym w.2)

  taken-has : (n i : ℕ) → i < n → Memᴰ (chain i) (taken_of chain n)
  taken-has n i h = Memᴰ.map chain (up_from-i 0 n i (omega arith) (omega arith))

  increasing-at : (f : List ℕ → ℕ) (k n i j : ℕ) → Increasing f (map chain (up_from k n)) → k ≤ i → i < j → j < k + n → T (before f (chain i) (chain j))
  unfolding up_from
  increasing-at f k zero i j s a b c = absurd (omega arith)
  increasing-at f k (suc n) i j s a b c =
      ⊎_elim (λ e. increasing-at f (suc k) n i j s.1 e b (omega arith))
      (λ e. let z : k ≡ i = omega arith in subst (λ y. T (before f (chain y) (chain j))) z (s.0 (chain j) (Memᴰ.map chain (up_from-i (suc k) n j (omega arith) (omega arith)))))
      (order (suc k) i)

  -- no chain stands twice
  chains-apart : (f : List ℕ → ℕ) (n i j : ℕ) → Increasing f (taken_of chain n) → i < n → j < n → i ≢ j → chain i ≢ chain j
  chains-apart f n i j s h k ne e =
      ⊎_elim (λ l. before-irrefl f (chain j) (subst (λ y. T (before f y (chain j))) e (increasing-at f 0 n i j s (omega arith) l (omega arith))))
      (⊎_elim (λ z. ne z)
      (λ l. before-irrefl f (chain j) (subst (λ y. T (before f (chain j) y)) e (increasing-at f 0 n j i s (omega arith) l (omega arith)))))
      (three_ways i j)

-- ---- the first of all labels' cursors

module _ (q : Query) (earlier : List (List ℕ)) (f : List ℕ → ℕ) (last : List ℕ) (chain : ℕ → List ℕ) (n : ℕ) (o : ℕ → Option ℕ) (cs : Cursors q earlier f last chain n o) where
  -- a candidate fails, or its label's cursor is not after it
  cursor-at : (i b : ℕ) → i < n → T (leaves q.net (end_of q.net.arcs q.s (chain i)) b) → T (before f last (chain i ++ (b ∷ []))) → (x : Option ℕ) → o i ≡ x
      → Fails q earlier (taken_of chain n) (chain i ++ (b ∷ [])) ⊎ ((a : ℕ) × (o i ≡ some a) × AtMost f (chain i ++ (a ∷ [])) (chain i ++ (b ∷ [])))
  cursor-at i b h l m none e =
      inl (subst (Cursor q earlier f (taken_of chain n) last (chain i) (length q.net.arcs)) e (cs.right i h) b (leaves-e q.net _ b l).is-arc (record { leaves-end = l; after = m }))
  cursor-at i b h l m (some y) e =
      let k = subst (Cursor q earlier f (taken_of chain n) last (chain i) (length q.net.arcs)) e (cs.right i h) in
      ⊎_elim inl (λ z. inr (y, e, z)) (k.1 b (leaves-e q.net _ b l).is-arc (record { leaves-end = l; after = m }))

  -- the same of a candidate by its chain
  candidate-at : (d : List ℕ) → Candidate f q.net q.s (taken_of chain n) last d
      → Fails q earlier (taken_of chain n) d ⊎ ((i : ℕ) × (a : ℕ) × (i < n) × (o i ≡ some a) × AtMost f (chain i ++ (a ∷ [])) d)
  candidate-at d e =
      let x = e.extends in
      let i = taken_at chain n x.label x.stands in
      let is : d ≡ chain i.0 ++ (x.last-arc ∷ []) = x.is ∙ ap (λ l. l ++ (x.last-arc ∷ [])) i.2 in
      ⊎_elim (λ h. inl (subst (Fails q earlier (taken_of chain n)) (sym is) h)) (λ w. inr (i.0, w.0, i.1, w.1, subst (AtMost f (chain i.0 ++ (w.0 ∷ []))) (sym is) w.2))
      (cursor-at i.0 x.last-arc i.1 (subst (λ z. T (leaves q.net (end_of q.net.arcs q.s z) x.last-arc)) i.2 x.leaves-end)
      (subst (λ z. T (before f last z)) is e.after) (o i.0) refl)

  -- every candidate between `last` and it fails
  pub wins-foremost : (w a : ℕ) → Wins f chain n o w a → Foremost q earlier f (taken_of chain n) last (chain w ++ (a ∷ []))
  wins-foremost w a first =
      let k = subst (Cursor q earlier f (taken_of chain n) last (chain w) (length q.net.arcs)) first.has-it (cs.right w first.below) in
      record {
        is-candidate = record {
          extends = record { label = chain w; last-arc = a; stands = taken-has chain n w first.below; leaves-end = k.0.leaves-end; is = refl };
          after = k.0.after;
        };
        least = λ d e. ⊎_elim inl (λ c. inr (at-most-trans f (chain w ++ (a ∷ [])) (chain c.0 ++ (c.1 ∷ [])) d (first.first c.0 c.1 c.2 c.3) c.4)) (candidate-at d e);
      }

  -- no label has one: every candidate fails
  pub none_left : ((i : ℕ) → i < n → o i ≡ none) → (c : List ℕ) → Candidate f q.net q.s (taken_of chain n) last c → Fails q earlier (taken_of chain n) c
  none_left out c e = ⊎_elim (λ h. h) (λ w. let z = sym (out w.0 w.2) ∙ w.3 in let y : ◌≡◌ {A = ℕ} 0 1 = cc in absurd (omega arith)) (candidate-at c e)

  -- it is looked at: the other labels' cursors stay right, whatever is taken up
  pub others-right : (w a : ℕ) → Wins f chain n o w a → Increasing f (taken_of chain n) → (more : List (List ℕ)) → ((r : List ℕ) → Memᴰ r (taken_of chain n) → Memᴰ r more)
      → (i : ℕ) → i < n → i ≢ w → Right q earlier f more (chain w ++ (a ∷ [])) chain o i
  others-right w a first s more sub i h ne =
      let k = subst (Cursor q earlier f (taken_of chain n) last (chain w) (length q.net.arcs)) first.has-it (cs.right w first.below) in
      cursor-kept q earlier f (taken_of chain n) more sub last (chain w ++ (a ∷ [])) (chain i) (length q.net.arcs) k.0.after (o i)
      (λ b e. ⊎_elim (λ z. absurd (chains-apart chain f n w i s first.below h (λ y. ne (sym y)) (snoc-front (chain w) (chain i) a b z))) (λ z. z) (first.first i b h e)) (cs.right i h)
