-- The answer of a round (rule 6) and what the round counts.
-- A partial route within the threshold that is not live is beaten by a live one: the first of those that beat it. So the answer, which nothing to t
-- within the threshold precedes, is live.
use mathlib.Core.Path.{◌≡◌, refl, sym, ap, subst, ◌∙◌}
use mathlib.Core.Logic.{◌⊎◌, inl, inr, ⊎_elim}
use mathlib.Core.Option.{Option, none, some}
use mathlib.Core.List.Memᴰ
use mathlib.Core.List.{List, [], ◌∷◌, head?, Memᴰ}
use mathlib.Core.Bool.{Bool, ◌&&◌}
use Prim.Native.Nat.{ℕ, ◌≤◌, ◌*◌}
use native.Mathlib.Nat.{mul-le-mul_left, le_trans}
use lib.Dec.{T, eqb, leb→le, le→leb, eqb→eq}
use Rattle.lists.specs.Tests.{every, keep}
use Rattle.net.specs.Route.{end_of, partial, route, length_of, before, precedes, overlap, within, partials_by, partials}
use Rattle.net.specs.Round.{Query, within_all, eligible, answer, beats, lives_by, counted_with}
use Rattle.lists.proofs.TestLaws.{and_i, and_l, and_r, eq→eqb, every-e, every-i, keep-e, keep-i}
use Rattle.net.proofs.Valid.{Valid}
use Rattle.net.proofs.Order.{before-irrefl, before-trans, AtMost, at-most-trans}
use Rattle.net.proofs.Sorted.{Increasing, keep-increasing, First, head-none, head-some, increasing-last}
use Rattle.net.proofs.Listing.{listed-is-partial, partial-is-listed, partials-increasing}
use Rattle.net.proofs.Live.{Beats, Live, beats-e, beats-i, lives-e, lives-i}

module _ (q : Query) (earlier : List (List ℕ)) where
  abbrev pub Within : List ℕ → Type 0
  Within p = (e : List ℕ) → Memᴰ e earlier → q.b * overlap q.net p e ≤ q.a * length_of q.net.arcs e

  pub beats-trans : (x y z : List ℕ) → Beats q earlier x y → Beats q earlier y z → Beats q earlier x z
  beats-trans x y z a b =
      record {
        same_end = a.same_end ∙ b.same_end;
        precedes-it = before-trans (length_of q.net.arcs) x y z a.precedes-it b.precedes-it;
        no_more = λ e m. le_trans (a.no_more e m) (b.no_more e m);
      }

  pub beats-within : (r p : List ℕ) → Beats q earlier r p → Within p → Within r
  beats-within r p b w e m = le_trans (mul-le-mul_left q.b (b.no_more e m)) (w e m)

  -- a route within the threshold of every earlier answer
  pub record Eligible (p : List ℕ) : Type 0 where
    pub is-partial : T (partial q.net q.s p)
    pub ends : end_of q.net.arcs q.s p ≡ q.t
    pub is_within : Within p

  -- the same by the tests
  pub eligible-of : (p : List ℕ) → T (route q.net q.s q.t p && within_all q earlier p) → Eligible p
  unfolding route within_all within
  eligible-of p h =
      let w = within q.net q.a q.b p in
      let e = eqb (end_of q.net.arcs q.s p) q.t in
      let r = and_l (partial q.net q.s p && e) (every w earlier) h in
      record {
        is-partial = and_l (partial q.net q.s p) e r;
        ends = eqb→eq _ _ (and_r (partial q.net q.s p) e r);
        is_within = λ x i. leb→le _ _ (every-e w (and_r (partial q.net q.s p && e) (every w earlier) h) i);
      }

  pub of-eligible : (p : List ℕ) → Eligible p → T (route q.net q.s q.t p && within_all q earlier p)
  unfolding route within_all within
  of-eligible p h =
      let w = within q.net q.a q.b p in
      let e = eqb (end_of q.net.arcs q.s p) q.t in
      and_i (partial q.net q.s p && e) (every w earlier) (and_i (partial q.net q.s p) e h.is-partial (eq→eqb _ _ h.ends))
      (every-i w earlier (λ x i. le→leb _ _ (h.is_within x i)))

  module _ (v : Valid q) where
    listed : (p : List ℕ) → T (partial q.net q.s p) → Memᴰ p (partials q.net q.s)
    listed = partial-is-listed q.net q.s v.s-below v.sound.to_below

    pub eligible-e : (p : List ℕ) → Memᴰ p (eligible q earlier) → Eligible p
    unfolding eligible within_all within
    eligible-e p m =
        let f : List ℕ → Bool = λ x. eqb (end_of q.net.arcs q.s x) q.t && within_all q earlier x in
        let w = within q.net q.a q.b p in
        let k = keep-e f p (partials q.net q.s) m in
        record {
          is-partial = listed-is-partial q.net q.s p k.0;
          ends = eqb→eq _ _ (and_l (eqb (end_of q.net.arcs q.s p) q.t) (every w earlier) k.1);
          is_within = λ e i. leb→le _ _ (every-e w (and_r (eqb (end_of q.net.arcs q.s p) q.t) (every w earlier) k.1) i);
        }

    pub eligible-i : (p : List ℕ) → Eligible p → Memᴰ p (eligible q earlier)
    unfolding eligible within_all within
    eligible-i p h =
        let f : List ℕ → Bool = λ x. eqb (end_of q.net.arcs q.s x) q.t && within_all q earlier x in
        let w = within q.net q.a q.b p in
        keep-i f (listed p h.is-partial)
        (and_i (eqb (end_of q.net.arcs q.s p) q.t) (every w earlier) (eq→eqb _ _ h.ends) (every-i w earlier (λ e i. le→leb _ _ (h.is_within e i))))

    -- ---- rule 6

    pub answer-none : answer q earlier ≡ none → (p : List ℕ) → Eligible p → ⊥
    unfolding answer
    answer-none e p h = head-none (length_of q.net.arcs) (eligible q earlier) e p (eligible-i p h)

    eligible-increasing : Increasing (length_of q.net.arcs) (eligible q earlier)
    unfolding eligible
    eligible-increasing =
        keep-increasing (length_of q.net.arcs) (λ x. eqb (end_of q.net.arcs q.s x) q.t && within_all q earlier x) (partials q.net q.s)
        (partials-increasing q.net q.s (length_of q.net.arcs))

    -- it is eligible, and precedes all others that are
    pub record Answers (w : List ℕ) : Type 0 where
      pub is-eligible : Eligible w
      pub precedes-all : (p : List ℕ) → Eligible p → (p ≡ w) ⊎ T (precedes q.net.arcs w p)

    pub answer-some : (w : List ℕ) → answer q earlier ≡ some w → Answers w
    unfolding answer
    answer-some w e =
        let f = head-some (length_of q.net.arcs) (eligible q earlier) w eligible-increasing e in
        record { is-eligible = eligible-e w f.stands; precedes-all = λ p h. f.leads p (eligible-i p h) }

    -- ---- a partial route within the threshold is live, or a live one beats it

    pub live-or-beaten : (p : List ℕ) → T (partial q.net q.s p) → Within p → Live q earlier p ⊎ ((r : List ℕ) × Live q earlier r × Beats q earlier r p)
    live-or-beaten p h w = go (head? better) refl
      where
        ps : List (List ℕ)
        ps = partials q.net q.s

        better : List (List ℕ)
        better = keep (λ r. beats q earlier r p) ps

        better-i : (r : List ℕ) → T (partial q.net q.s r) → Beats q earlier r p → Memᴰ r better
        better-i r k b = keep-i (λ x. beats q earlier x p) (listed r k) (beats-i q earlier r p b)

        best : (r : List ℕ) → First (length_of q.net.arcs) better r → (r' : List ℕ) × Live q earlier r' × Beats q earlier r' p
        best r f =
            let k = keep-e (λ x. beats q earlier x p) r ps f.stands in
            let b = beats-e q earlier r p k.1 in (
              r,
              record {
                is-partial = listed-is-partial q.net q.s r k.0;
                is_within = beats-within r p b w;
                unbeaten = λ x i c.
                    ⊎_elim (λ e. before-irrefl (length_of q.net.arcs) r (subst (λ z. T (precedes q.net.arcs z r)) e c.precedes-it))
                    (λ l. before-irrefl (length_of q.net.arcs) r (before-trans (length_of q.net.arcs) r x r l c.precedes-it))
                    (f.leads x (better-i x i (beats-trans x r p c b)));
              },
              b,
            )

        go : (o : Option (List ℕ)) → head? better ≡ o → Live q earlier p ⊎ ((r : List ℕ) × Live q earlier r × Beats q earlier r p)
        go none e = inl (record { is-partial = h; is_within = w; unbeaten = λ r k b. head-none (length_of q.net.arcs) better e r (better-i r k b) })
        go (some r) e =
            inr (best r (head-some (length_of q.net.arcs) better r (keep-increasing (length_of q.net.arcs) (λ x. beats q earlier x p) ps (partials-increasing q.net q.s (length_of q.net.arcs))) e))

    -- ---- the answer is live, and the first live one that ends at t

    pub live-eligible : (p : List ℕ) → Live q earlier p → end_of q.net.arcs q.s p ≡ q.t → Eligible p
    live-eligible p l e = record { is-partial = l.is-partial; ends = e; is_within = l.is_within }

    pub answer-live : (w : List ℕ) → Answers w → Live q earlier w
    answer-live w a =
        record {
          is-partial = a.is-eligible.is-partial;
          is_within = a.is-eligible.is_within;
          unbeaten = λ r h b.
              ⊎_elim (λ e. before-irrefl (length_of q.net.arcs) w (subst (λ z. T (precedes q.net.arcs z w)) e b.precedes-it))
              (λ l. before-irrefl (length_of q.net.arcs) w (before-trans (length_of q.net.arcs) w r w l b.precedes-it))
              (a.precedes-all r
              (record { is-partial = h; ends = b.same_end ∙ a.is-eligible.ends; is_within = beats-within r w b a.is-eligible.is_within }));
        }

    -- ---- nothing else is the answer

    -- two chains that answer are one
    pub answers-unique : (w x : List ℕ) → Answers w → Answers x → w ≡ x
    answers-unique w x a b = go (b.precedes-all w a.is-eligible) (a.precedes-all x b.is-eligible)
      where
        go : (w ≡ x) ⊎ T (precedes q.net.arcs x w) → (x ≡ w) ⊎ T (precedes q.net.arcs w x) → w ≡ x
        go (inl e) k = e
        go (inr h) (inl e) = sym e
        go (inr h) (inr k) = absurd (before-irrefl (length_of q.net.arcs) w (before-trans (length_of q.net.arcs) w x w k h))

    pub answer-is : (w : List ℕ) → Answers w → answer q earlier ≡ some w
    answer-is w a = go (answer q earlier) refl
      where
        go : (o : Option (List ℕ)) → answer q earlier ≡ o → o ≡ some w
        go none e = absurd (answer-none e w a.is-eligible)
        go (some x) e = ap some (answers-unique x w (answer-some x e) a)

    pub answer-is-none : ((p : List ℕ) → Eligible p → ⊥) → answer q earlier ≡ none
    answer-is-none h = go (answer q earlier) refl
      where
        go : (o : Option (List ℕ)) → answer q earlier ≡ o → o ≡ none
        go none e = refl
        go (some x) e = absurd (h x (answer-some x e).is-eligible)

    -- an eligible one is live, or a live and eligible one precedes it
    pub eligible-live : (p : List ℕ) → Eligible p → (r : List ℕ) × Live q earlier r × (end_of q.net.arcs q.s r ≡ q.t) × ((p ≡ r) ⊎ T (precedes q.net.arcs r p))
    eligible-live p h = go (live-or-beaten p h.is-partial h.is_within)
      where
        go : Live q earlier p ⊎ ((r : List ℕ) × Live q earlier r × Beats q earlier r p)
            → (r : List ℕ) × Live q earlier r × (end_of q.net.arcs q.s r ≡ q.t) × ((p ≡ r) ⊎ T (precedes q.net.arcs r p))
        go (inl l) = (p, l, h.ends, inl refl)
        go (inr w) = (w.0, w.1, w.2.same_end ∙ h.ends, inr w.2.precedes-it)

    -- ---- the answer is the first live one that ends at t

    pub answer-first : (w : List ℕ) → Answers w → (r : List ℕ) → Live q earlier r → end_of q.net.arcs q.s r ≡ q.t → AtMost (length_of q.net.arcs) w r
    answer-first w a r l e = ⊎_elim (λ k. inl (sym k)) inr (a.precedes-all r (live-eligible r l e))

    pub first-answers : (w : List ℕ) → Live q earlier w → end_of q.net.arcs q.s w ≡ q.t
        → ((r : List ℕ) → Live q earlier r → end_of q.net.arcs q.s r ≡ q.t → AtMost (length_of q.net.arcs) w r) → Answers w
    first-answers w l e first =
        record {
          is-eligible = live-eligible w l e;
          precedes-all = λ p h.
              let k = eligible-live p h in
              ⊎_elim (λ i. inl (sym i)) inr (at-most-trans (length_of q.net.arcs) w k.0 p (first k.0 k.1 k.2) (⊎_elim (λ i. inl (sym i)) inr k.3));
        }

    -- ---- what a round counts, in the order by f

    module _ (f : List ℕ → ℕ) where
      pub lives-increasing : Increasing f (lives_by f q earlier)
      unfolding lives_by
      lives-increasing = keep-increasing f _ (partials_by f q.net q.s) (partials-increasing q.net q.s f)

      pub counted-increasing : (o : Option (List ℕ)) → Increasing f (counted_with f q earlier o)
      unfolding counted_with
      counted-increasing none = lives-increasing
      counted-increasing (some w) =
          increasing-last f (keep (λ p. before f p w) (lives_by f q earlier)) w (keep-increasing f (λ p. before f p w) (lives_by f q earlier) lives-increasing)
          (λ x m. (keep-e (λ p. before f p w) x (lives_by f q earlier) m).1)

      pub counted-e : (w : List ℕ) → Answers w → (p : List ℕ) → Memᴰ p (counted_with f q earlier (some w)) → Live q earlier p × AtMost f p w
      unfolding counted_with
      counted-e w a p m = go (Memᴰ.append_cases (keep (λ x. before f x w) (lives_by f q earlier)) m)
        where
          go : Memᴰ p (keep (λ x. before f x w) (lives_by f q earlier)) ⊎ Memᴰ p (w ∷ []) → Live q earlier p × AtMost f p w
          go (inl k) = let l = keep-e (λ x. before f x w) p (lives_by f q earlier) k in (lives-e q earlier v f p l.0, inr l.1)
          go (inr k) = let e = Memᴰ.eq_of_singleton k in (subst (Live q earlier) (sym e) (answer-live w a), inl e)

      pub counted-i : (w p : List ℕ) → Live q earlier p → AtMost f p w → Memᴰ p (counted_with f q earlier (some w))
      unfolding counted_with
      counted-i w p l (inl e) = Memᴰ.append_right (keep (λ x. before f x w) (lives_by f q earlier)) (Memᴰ.head e)
      counted-i w p l (inr h) = Memᴰ.append_left (w ∷ []) (keep-i (λ x. before f x w) (lives-i q earlier v f p l) h)
