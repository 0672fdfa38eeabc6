-- A cursor that goes on by a batch. A chain's own candidates come in the order of their last arcs' ranks, so the next arc after the rank of the one last looked at
-- is where the cursor stands, whether it passes the tests or not, and where there is none it stands at none.
use mathlib.Core.Path.{◌≡◌, sym, subst, ap, ◌∙◌}
use mathlib.Core.Logic.{◌⊎◌, inl, inr, ⊎_elim, ◌≢◌}
use mathlib.Core.List.{List, [], ◌∷◌, ◌++◌}
use Prim.Native.Nat.{ℕ, ◌+◌, ◌*◌, ◌≤◌, ◌<◌}
use native.Mathlib.Omega.{arith}
use native.Mathlib.Decide.{ℕ_discrete}
use lib.Dec.{T, ltb, ltb→lt, lt→ltb}
use lib.ListN.{length}
use borrow.Author.Tests.{lt-ltb, le-ltb, eq-eqb, ne_eqb}
use Rattle.lists.specs.Tests.{lex}
use Rattle.lists.proofs.Cases.{order, three_ways}
use Rattle.net.specs.Net.{Arc, arc}
use Rattle.net.specs.Route.{end_of, leaves, length_of}
use Rattle.net.specs.Round.{Query}
use Rattle.net.specs.Limits.{most_arcs}
use Rattle.net.proofs.Chains.{leaves-e}
use Rattle.net.proofs.Order.{not_after}
use Rattle.labels.specs.Field.{no_number}
use Rattle.search_ahead.specs.Cursor.{Waits, Cursor}
use Rattle.search_batch.specs.Batch.{rank_of, stands_at, Came}
use Rattle.search_advance.specs.Own.{arc_in, own_last, arc_first, after_arc, rank_from}
use Rattle.search_advance.proofs.OwnLaws.{arc-none, arc-some, after_none, after-some, own_first, own-after}

-- ---- ranks

module _ (arcs : List Arc) where
  pub rank-none : (from : ℕ) → from ≡ no_number → rank_from arcs from ≡ 0
  unfolding rank_from
  rank-none from e = rw (eq-eqb from no_number e)

  pub rank-some : (from : ℕ) → from ≢ no_number → rank_from arcs from ≡ rank_of arcs from
  unfolding rank_from
  rank-some from e = rw (ne_eqb from no_number e)

  -- arcs come in the order of their ranks
  arc-rank : (a c : ℕ) → a < most_arcs → c < most_arcs → arc_first arcs a c ≡ ltb (rank_of arcs a) (rank_of arcs c)
  unfolding arc_first lex rank_of
  arc-rank a c ha hc = go (three_ways l m)
    where
      l : ℕ
      l = (arc arcs a).len

      m : ℕ
      m = (arc arcs c).len

      go : (l < m) ⊎ (l ≡ m) ⊎ (m < l) → arc_first arcs a c ≡ ltb (rank_of arcs a) (rank_of arcs c)
      go (inl h) = rw (lt-ltb (arc arcs a).len (arc arcs c).len h, lt-ltb ((arc arcs a).len * most_arcs + a) ((arc arcs c).len * most_arcs + c) (omega arith))
      go (inr (inl h)) =
          ⊎_elim
          (λ w. rw (le-ltb (arc arcs a).len (arc arcs c).len (omega arith), eq-eqb (arc arcs a).len (arc arcs c).len h, le-ltb a c w, le-ltb ((arc arcs a).len * most_arcs + a) ((arc arcs c).len * most_arcs + c) (omega arith)))
          (λ w. rw (le-ltb (arc arcs a).len (arc arcs c).len (omega arith), eq-eqb (arc arcs a).len (arc arcs c).len h, lt-ltb a c w, lt-ltb ((arc arcs a).len * most_arcs + a) ((arc arcs c).len * most_arcs + c) (omega arith)))
          (order c a)
      go (inr (inr h)) =
          rw (le-ltb (arc arcs a).len (arc arcs c).len (omega arith), ne_eqb (arc arcs a).len (arc arcs c).len (λ e. omega arith), le-ltb ((arc arcs a).len * most_arcs + a) ((arc arcs c).len * most_arcs + c) (omega arith))

  rank-least : (a : ℕ) → 0 < (arc arcs a).len → 0 < rank_of arcs a
  unfolding rank_of
  rank-least a h = omega arith

  after-rank : (from b : ℕ) → (from ≢ no_number → from < most_arcs) → b < most_arcs → 0 < (arc arcs b).len → after_arc arcs from b ≡ ltb (rank_from arcs from) (rank_of arcs b)
  after-rank from b hf hb pos = go (ℕ_discrete from no_number)
    where
      go : Dec (from ≡ no_number) → after_arc arcs from b ≡ ltb (rank_from arcs from) (rank_of arcs b)
      go (yes e) = rw (after_none arcs from b e, rank-none from e) (sym (lt-ltb 0 (rank_of arcs b) (rank-least b pos)))
      go (no e) = rw (after-some arcs from b e, rank-some from e) (arc-rank from b (hf e) hb)

-- ---- the candidates of a chain

module _ (q : Query) (few : length q.net.arcs ≤ most_arcs) (positive : (b : ℕ) → 0 < (arc q.net.arcs b).len) (earlier taken : List (List ℕ)) (p : List ℕ) (from : ℕ)
    (small : from ≢ no_number → from < most_arcs) where
  arc-few : (v b : ℕ) → T (leaves q.net v b) → b < most_arcs
  arc-few v b h = omega (arith, (leaves-e q.net v b h).is-arc)

  waits-e : (b : ℕ) → Waits q (length_of q.net.arcs) (own_last p from) p b → rank_from q.net.arcs from < rank_of q.net.arcs b
  waits-e b w = ltb→lt _ _ (subst T (own-after q.net.arcs p from b ∙ after-rank q.net.arcs from b small (arc-few _ b w.leaves-end) (positive b)) w.after)

  waits-i : (b : ℕ) → T (leaves q.net (end_of q.net.arcs q.s p) b) → rank_from q.net.arcs from < rank_of q.net.arcs b → Waits q (length_of q.net.arcs) (own_last p from) p b
  waits-i b l h = record { leaves-end = l; after = subst T (sym (own-after q.net.arcs p from b ∙ after-rank q.net.arcs from b small (arc-few _ b l) (positive b))) (lt→ltb _ _ h) }

  first-e : (a b : ℕ) → a < most_arcs → b < most_arcs → T (Rattle.net.specs.Route.before (length_of q.net.arcs) (p ++ (a ∷ [])) (p ++ (b ∷ []))) → rank_of q.net.arcs a < rank_of q.net.arcs b
  first-e a b ha hb h = ltb→lt _ _ (subst T (own_first q.net.arcs p a b ∙ arc-rank q.net.arcs a b ha hb) h)

  -- the next arc after the one last looked at is where it stands
  pub came-at : (hi y : ℕ) (w : List ℕ) → Came q.net hi (end_of q.net.arcs q.s p) (rank_from q.net.arcs from) y w
      → Cursor q earlier (length_of q.net.arcs) taken (own_last p from) p hi (arc_in y)
  came-at hi y w came = go (ℕ_discrete y no_number)
    where
      go : Dec (y ≡ no_number) → Cursor q earlier (length_of q.net.arcs) taken (own_last p from) p hi (arc_in y)
      go (yes e) =
          subst (Cursor q earlier (length_of q.net.arcs) taken (own_last p from) p hi) (sym (arc-none y e)) (λ b u k. absurd (omega (arith, waits-e b k, came.none e b u k.leaves-end)))
      go (no ne) =
          let n = came.some ne in
          let out = subst (λ a. T (leaves q.net (end_of q.net.arcs q.s p) a)) (sym n.1) n.0.leaves-it in
          let is : rank_of q.net.arcs y ≡ stands_at w = ap (rank_of q.net.arcs) n.1 ∙ n.0.is-rank in
          subst (Cursor q earlier (length_of q.net.arcs) taken (own_last p from) p hi) (sym (arc-some y ne)) (
            waits-i y out (omega (arith, is, n.0.after)),
            λ b u k. inr
                (not_after (length_of q.net.arcs) (p ++ (y ∷ [])) (p ++ (b ∷ []))
                (λ h. omega (arith, is, n.0.first b u k.leaves-end (waits-e b k), first-e b y (arc-few _ b k.leaves-end) (arc-few _ y out) h))),
          )
