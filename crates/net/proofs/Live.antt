-- What makes a partial route live, apart from the listing; and the beginnings of a live one are live. Were p beaten by r where p with arc a is live: either
-- r with a beats it too, or r visits a's end already, and r's beginning up to there beats it, being shorter and of no more overlap.
use mathlib.Core.Path.{◌≡◌, sym, ap, subst, ◌∙◌}
use mathlib.Core.Logic.{◌⊎◌, inl, inr}
use mathlib.Core.List.{List, [], ◌∷◌, ◌++◌, Memᴰ, append-nil, append_assoc}
use mathlib.Core.Bool.{Bool, not, ◌&&◌}
use Prim.Native.Nat.{ℕ, ◌≤◌, ◌+◌, ◌*◌}
use native.Mathlib.Omega.{arith}
use native.Mathlib.Nat.{mul-le-mul_left, le_trans}
use lib.Dec.{T, leb, eqb, leb→le, le→leb, eqb→eq, T_not, not_T}
use Rattle.lists.specs.Tests.{has, every, any}
use Rattle.net.specs.Net.{Net, arc}
use Rattle.net.specs.Route.{visited, end_of, leaves, partial, length_of, precedes, overlap, within, partials_by, partials}
use Rattle.net.specs.Round.{Query, within_all, no_greater, beats, live, lives_by}
use Rattle.lists.proofs.TestLaws.{and_i, and_l, and_r, eq→eqb, has→mem, mem→has, every-e, every-i, any-e, any-i, keep-e, keep-i}
use Rattle.lists.proofs.Cases.{either}
use Rattle.net.proofs.Valid.{Valid}
use Rattle.net.proofs.Order.{length_of-append, before-less, before-most, precedes-extend}
use Rattle.net.proofs.Overlap.{overlap-append, overlap-front}
use Rattle.net.proofs.Chains.{Next, partial-front, partial-next, partial-more, end_of-more, cut_at}
use Rattle.net.proofs.Listing.{listed_by, listed-is-partial, partial-is-listed}

module _ (q : Query) (earlier : List (List ℕ)) where
  -- r, to the same node, precedes p and has no greater overlap with each earlier route
  pub record Beats (r p : List ℕ) : Type 0 where
    pub same_end : end_of q.net.arcs q.s r ≡ end_of q.net.arcs q.s p
    pub precedes-it : T (precedes q.net.arcs r p)
    pub no_more : (e : List ℕ) → Memᴰ e earlier → overlap q.net r e ≤ overlap q.net p e

  pub record Live (p : List ℕ) : Type 0 where
    pub is-partial : T (partial q.net q.s p)
    pub is_within : (e : List ℕ) → Memᴰ e earlier → q.b * overlap q.net p e ≤ q.a * length_of q.net.arcs e
    pub unbeaten : (r : List ℕ) → T (partial q.net q.s r) → Beats r p → ⊥

  -- ---- the tests say this

  pub beats-e : (r p : List ℕ) → T (beats q earlier r p) → Beats r p
  unfolding beats no_greater
  beats-e r p h =
      let x = eqb (end_of q.net.arcs q.s r) (end_of q.net.arcs q.s p) in
      let y = precedes q.net.arcs r p in
      let f : List ℕ → Bool = λ e. leb (overlap q.net r e) (overlap q.net p e) in
      let xy = and_l (x && y) (every f earlier) h in
      record {
        same_end = eqb→eq _ _ (and_l x y xy);
        precedes-it = and_r x y xy;
        no_more = λ e m. leb→le _ _ (every-e f (and_r (x && y) (every f earlier) h) m);
      }

  pub beats-i : (r p : List ℕ) → Beats r p → T (beats q earlier r p)
  unfolding beats no_greater
  beats-i r p b =
      let x = eqb (end_of q.net.arcs q.s r) (end_of q.net.arcs q.s p) in
      let y = precedes q.net.arcs r p in
      let f : List ℕ → Bool = λ e. leb (overlap q.net r e) (overlap q.net p e) in
      and_i (x && y) (every f earlier) (and_i x y (eq→eqb _ _ b.same_end) b.precedes-it) (every-i f earlier (λ e m. le→leb _ _ (b.no_more e m)))

  -- in whatever order they are listed
  module _ (v : Valid q) (f : List ℕ → ℕ) where
    pub lives-e : (p : List ℕ) → Memᴰ p (lives_by f q earlier) → Live p
    unfolding lives_by live within_all within
    lives-e p m =
        let ps = partials q.net q.s in
        let g : List ℕ → Bool = λ r. beats q earlier r p in
        let w = within q.net q.a q.b p in
        let k = keep-e (live q earlier) p (partials_by f q.net q.s) m in
        record {
          is-partial = listed-is-partial q.net q.s p (listed_by q.net q.s f (length_of q.net.arcs) p k.0);
          is_within = λ e i. leb→le _ _ (every-e w (and_l (every w earlier) (not (any g ps)) k.1) i);
          unbeaten = λ r h b. T_not (any g ps) (and_r (every w earlier) (not (any g ps)) k.1)
              (any-i g (partial-is-listed q.net q.s v.s-below v.sound.to_below r h) (beats-i r p b));
        }

    pub lives-i : (p : List ℕ) → Live p → Memᴰ p (lives_by f q earlier)
    unfolding lives_by live within_all within
    lives-i p l =
        let ps = partials q.net q.s in
        let g : List ℕ → Bool = λ r. beats q earlier r p in
        let w = within q.net q.a q.b p in
        keep-i (live q earlier)
        (listed_by q.net q.s (length_of q.net.arcs) f p (partial-is-listed q.net q.s v.s-below v.sound.to_below p l.is-partial))
        (and_i (every w earlier) (not (any g ps)) (every-i w earlier (λ e i. le→leb _ _ (l.is_within e i)))
        (not_T (any g ps) (λ h. let k = any-e g ps h in l.unbeaten k.0 (listed-is-partial q.net q.s k.0 k.1) (beats-e k.0 p k.2))))

  -- ---- the beginnings of a live partial route are live

  module _ (v : Valid q) where
    -- Of what beats p, either an arc more or a beginning beats p with that arc more: with it, where its end is new; cut there, where it is not.
    beats-more : (p : List ℕ) (a : ℕ) → Next q.net q.s p a → (r : List ℕ) → T (partial q.net q.s r) → Beats r p
        → (r' : List ℕ) × T (partial q.net q.s r') × Beats r' (p ++ (a ∷ []))
    unfolding length_of
    beats-more p a n r h b = go (either (has (arc q.net.arcs a).to (visited q.net.arcs q.s r)))
      where
        net : Net
        net = q.net

        cut : ((r₁ : List ℕ) × (r₂ : List ℕ) × (r ≡ r₁ ++ r₂) × (end_of net.arcs q.s r₁ ≡ (arc net.arcs a).to))
            → (r' : List ℕ) × T (partial net q.s r') × Beats r' (p ++ (a ∷ []))
        cut w = (
          w.0,
          partial-front net q.s w.0 w.1 (subst (λ l. T (partial net q.s l)) w.2 h),
          record {
            same_end = w.3 ∙ sym (end_of-more net.arcs q.s p a);
            precedes-it = before-less (length_of net.arcs) w.0 (p ++ (a ∷ []))
                (omega (arith, length_of-append net.arcs w.0 w.1, ap (length_of net.arcs) w.2, before-most (length_of net.arcs) r p b.precedes-it, length_of-append net.arcs p (a ∷ []), v.sound.positive a));
            no_more = λ e m.
                omega (arith, overlap-append net w.0 w.1 e, ap (λ l. overlap net l e) w.2, b.no_more e m, overlap-append net p (a ∷ []) e);
          },
        )

        go : T (has (arc net.arcs a).to (visited net.arcs q.s r)) ⊎ T (not (has (arc net.arcs a).to (visited net.arcs q.s r)))
            → (r' : List ℕ) × T (partial net q.s r') × Beats r' (p ++ (a ∷ []))
        go (inl w) = cut (cut_at net.arcs q.s r (arc net.arcs a).to (has→mem _ _ w))
        go (inr w) = (
          r ++ (a ∷ []),
          partial-more net q.s r a h
              (record { leaves-end = subst (λ x. T (leaves net x a)) (sym b.same_end) n.leaves-end; is-new = λ m. T_not (has (arc net.arcs a).to (visited net.arcs q.s r)) w (mem→has m) }),
          record {
            same_end = end_of-more net.arcs q.s r a ∙ sym (end_of-more net.arcs q.s p a);
            precedes-it = precedes-extend net.arcs v.sound.positive r p (a ∷ []) b.precedes-it;
            no_more = λ e m. omega (arith, overlap-append net r (a ∷ []) e, overlap-append net p (a ∷ []) e, b.no_more e m);
          },
        )

    pub live-but-last : (p : List ℕ) (a : ℕ) → Live (p ++ (a ∷ [])) → Live p
    live-but-last p a l =
        record {
          is-partial = partial-front q.net q.s p (a ∷ []) l.is-partial;
          is_within = λ e m.
              le_trans (mul-le-mul_left q.b (overlap-front q.net p (a ∷ []) e)) (l.is_within e m);
          unbeaten = λ r h b.
              let w = beats-more p a (partial-next q.net q.s p a [] l.is-partial) r h b in
              l.unbeaten w.0 w.1 w.2;
        }

    pub live-front : (p r : List ℕ) → Live (p ++ r) → Live p
    live-front p [] l = subst Live (append-nil p) l
    live-front p (a ∷ r) l = live-but-last p a (live-front (p ++ (a ∷ [])) r (subst Live (sym (append_assoc p (a ∷ []) r)) l))
