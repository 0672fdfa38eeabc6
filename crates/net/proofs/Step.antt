-- A turn of the search, by any guide f. While the chains taken up are the live ones not after `last`, every live one after `last` begins with a live candidate:
-- its shortest beginning after `last`, which extends a label. So the first candidate c, those aside that fail a test, is live if it passes the two tests, and
-- else nothing live lies between `last` and c. A candidate that visits a node twice is covered by its own beginning up to there.
use mathlib.Core.Path.{◌≡◌, refl, sym, ap, subst, ◌∙◌}
use mathlib.Core.Logic.{◌⊎◌, inl, inr, ⊎_elim}
use mathlib.Core.List.Memᴰ
use mathlib.Core.List.{List, [], ◌∷◌, ◌++◌, Memᴰ}
use mathlib.Core.Bool.{Bool, true, false, not, ◌&&◌}
use Prim.Native.Nat.{ℕ, zero, suc, ◌<◌, ◌≤◌, ◌+◌}
use native.Mathlib.Omega.{arith}
use lib.Dec.{T, leb, eqb, leb→le, le→leb, eqb→eq, T_not, not_T}
use lib.ListN.{length, length-append}
use Rattle.lists.specs.Tests.{has, every, keep}
use Rattle.lists.proofs.Cases.{either}
use Rattle.lists.proofs.TestLaws.{and_i, and_l, and_r, eq→eqb, has→mem, mem→has, every-e, every-i, any-e, any-i, keep-e, keep-i}
use Rattle.lists.proofs.MemberLaws.{last_of}
use Rattle.net.specs.Net.{arc}
use Rattle.net.specs.Route.{visited, end_of, partial, length_of, before, precedes, overlap, within}
use Rattle.net.specs.Round.{Query, within_all, no_greater, lives_by}
use Rattle.net.specs.Search.{covered, passes, up_to}
use Rattle.net.proofs.Valid.{Valid}
use Rattle.net.proofs.Order.{before-irrefl, AtMost, at-most-then, at-most-trans, at-most-same, not-both, not_after, empty-first}
use Rattle.net.proofs.Overlap.{overlap-append}
use Rattle.net.proofs.Chains.{partial-nil, partial-chain, partial-next, partial-more, end_of-more, cut_at}
use Rattle.net.proofs.Guide.{Guides, before-precedes, precedes-before, front-before, fronts-before}
use Rattle.net.proofs.Sorted.{Increasing, keep-increasing, increasing-unique, increasing-last}
use Rattle.net.proofs.Live.{Beats, Live, lives-e, lives-i, live-but-last, live-front}
use Rattle.net.proofs.Answer.{Within, live-or-beaten, lives-increasing}
use Rattle.net.proofs.Candidates.{Extends, Candidate}

module _ (q : Query) (earlier : List (List ℕ)) where
  -- ---- the two tests

  pub within-e : (p : List ℕ) → T (within_all q earlier p) → Within q earlier p
  unfolding within_all within
  within-e p h e m = leb→le _ _ (every-e (within q.net q.a q.b p) h m)

  pub within-i : (p : List ℕ) → Within q earlier p → T (within_all q earlier p)
  unfolding within_all within
  within-i p w = every-i (within q.net q.a q.b p) earlier (λ e m. le→leb _ _ (w e m))

  -- a label at c's end with no greater overlap with each earlier route
  pub record Covers (r c : List ℕ) : Type 0 where
    pub same_end : end_of q.net.arcs q.s r ≡ end_of q.net.arcs q.s c
    pub no-greater : (e : List ℕ) → Memᴰ e earlier → overlap q.net r e ≤ overlap q.net c e

  pub covered-e : (taken : List (List ℕ)) (c : List ℕ) → T (covered q earlier taken c) → (r : List ℕ) × Memᴰ r taken × Covers r c
  unfolding covered no_greater
  covered-e taken c h =
      let f : List ℕ → Bool = λ r. eqb (end_of q.net.arcs q.s r) (end_of q.net.arcs q.s c) && no_greater q earlier r c in
      let w = any-e f taken h in
      let x = eqb (end_of q.net.arcs q.s w.0) (end_of q.net.arcs q.s c) in
      let g : List ℕ → Bool = λ e. leb (overlap q.net w.0 e) (overlap q.net c e) in
      (w.0, w.1, record { same_end = eqb→eq _ _ (and_l x (every g earlier) w.2); no-greater = λ e m. leb→le _ _ (every-e g (and_r x (every g earlier) w.2) m) })

  pub covered-i : (taken : List (List ℕ)) (r c : List ℕ) → Memᴰ r taken → Covers r c → T (covered q earlier taken c)
  unfolding covered no_greater
  covered-i taken r c m k =
      let f : List ℕ → Bool = λ x. eqb (end_of q.net.arcs q.s x) (end_of q.net.arcs q.s c) && no_greater q earlier x c in
      let g : List ℕ → Bool = λ e. leb (overlap q.net r e) (overlap q.net c e) in
      any-i f m
      (and_i (eqb (end_of q.net.arcs q.s r) (end_of q.net.arcs q.s c)) (every g earlier) (eq→eqb _ _ k.same_end) (every-i g earlier (λ e i. le→leb _ _ (k.no-greater e i))))

  -- ---- c fails a test: it is over a threshold, or a chain taken up covers it

  abbrev pub Fails : List (List ℕ) → List ℕ → Type 0
  Fails taken c = T (not (within_all q earlier c)) ⊎ T (covered q earlier taken c)

  pub fails-i : (taken : List (List ℕ)) (c : List ℕ) → passes q earlier taken c ≡ false → Fails taken c
  unfolding passes
  fails-i taken c e = go (within_all q earlier c) (covered q earlier taken c) e
    where
      go : (x y : Bool) → (x && not y) ≡ false → T (not x) ⊎ T y
      go false y h = inl tt
      go true true h = inr tt
      go true false h = absurd (subst T h tt)

  -- and so it does ever after
  pub fails_more : (taken more : List (List ℕ)) → ((r : List ℕ) → Memᴰ r taken → Memᴰ r more) → (c : List ℕ) → Fails taken c → Fails more c
  fails_more taken more within c (inl h) = inl h
  fails_more taken more within c (inr h) = let w = covered-e taken c h in inr (covered-i more w.0 c (within w.0 w.1) w.2)

  -- the first candidate after `last`, but for some that fail
  pub record Foremost (f : List ℕ → ℕ) (taken : List (List ℕ)) (last c : List ℕ) : Type 0 where
    pub is-candidate : Candidate f q.net q.s taken last c
    pub least : (d : List ℕ) → Candidate f q.net q.s taken last d → Fails taken d ⊎ AtMost f c d

  pub empty-live : Live q earlier []
  unfolding overlap length_of keep
  empty-live =
      record {
        is-partial = partial-nil q.net q.s;
        is_within = λ e m. omega arith;
        unbeaten = λ r h b. empty-first q.net.arcs r b.precedes-it;
      }

  module _ (v : Valid q) (f : List ℕ → ℕ) where
    -- ---- the live ones not after a chain

    pub up_to-e : (c p : List ℕ) → Memᴰ p (up_to f q earlier c) → Live q earlier p × AtMost f p c
    unfolding up_to
    up_to-e c p m =
        let k = keep-e (λ x. not (before f c x)) p (lives_by f q earlier) m in
        (lives-e q earlier v f p k.0, not_after f p c (T_not (before f c p) k.1))

    pub up_to-i : (c p : List ℕ) → Live q earlier p → AtMost f p c → Memᴰ p (up_to f q earlier c)
    unfolding up_to
    up_to-i c p l a = keep-i (λ x. not (before f c x)) (lives-i q earlier v f p l) (not_T (before f c p) (not-both f p c a))

    pub up_to-increasing : (c : List ℕ) → Increasing f (up_to f q earlier c)
    unfolding up_to
    up_to-increasing c = keep-increasing f (λ x. not (before f c x)) (lives_by f q earlier) (lives-increasing q earlier v f)

    -- a list of chains in order whose members are the live ones not after c
    up_to-is : (ps : List (List ℕ)) (c : List ℕ) → Increasing f ps → ((p : List ℕ) → Memᴰ p ps → Live q earlier p × AtMost f p c)
        → ((p : List ℕ) → Live q earlier p → AtMost f p c → Memᴰ p ps) → ps ≡ up_to f q earlier c
    up_to-is ps c i h k =
        increasing-unique f ps (up_to f q earlier c) i (up_to-increasing c) (λ p m. let w = h p m in up_to-i c p w.0 w.1)
        (λ p m. let w = up_to-e c p m in k p w.0 w.1)

  module _ (v : Valid q) (f : List ℕ → ℕ) (g : Guides q.net q.s f) where
    -- ---- the empty chain comes first

    live-front-before : (p r : List ℕ) → Live q earlier (p ++ r) → AtMost f p (p ++ r)
    live-front-before p r l = fronts-before q.net q.s f g p r (partial-chain q.net q.s (p ++ r) l.is-partial)

    pub step_start : [] ∷ [] ≡ up_to f q earlier []
    step_start =
        up_to-is v f ([] ∷ []) [] (λ p m. absurd (mathlib.Core.List.Memᴰ.not-nil m), tt)
        (λ p m. let e = Memᴰ.eq_of_singleton m in (subst (Live q earlier) (sym e) empty-live, inl e))
        (λ p l a. Memᴰ.head (at-most-same f p [] a (live-front-before [] p l)))

    -- ---- the chains taken up are the live ones not after `last`

    module _ (last : List ℕ) where
      begun-from : (p : List ℕ) → Memᴰ p (up_to f q earlier last) → AtMost f [] last
      begun-from p m = let k = up_to-e v f last p m in at-most-trans f [] p last (live-front-before [] p k.0) k.1

      -- a beginning of a chain taken up is taken up
      front-taken : (p p₁ p₂ : List ℕ) → Memᴰ p (up_to f q earlier last) → p ≡ p₁ ++ p₂ → Memᴰ p₁ (up_to f q earlier last)
      front-taken p p₁ p₂ m e =
          let k = up_to-e v f last p m in
          let l = subst (Live q earlier) e k.0 in
          up_to-i v f last p₁ (live-front q earlier v p₁ p₂ l) (at-most-trans f p₁ p last (subst (AtMost f p₁) (sym e) (live-front-before p₁ p₂ l)) k.1)

      -- the beginning of p up to a's end covers p with a
      front-covers : (p : List ℕ) (a : ℕ) (w : (p₁ : List ℕ) × (p₂ : List ℕ) × (p ≡ p₁ ++ p₂) × (end_of q.net.arcs q.s p₁ ≡ (arc q.net.arcs a).to)) → Covers w.0 (p ++ (a ∷ []))
      front-covers p a w =
          record {
            same_end = w.3 ∙ sym (end_of-more q.net.arcs q.s p a);
            no-greater = λ e m. omega (arith, overlap-append q.net w.0 w.1 e, ap (λ l. overlap q.net l e) w.2, overlap-append q.net p (a ∷ []) e);
          }

      -- a chain that extends a label and is not covered visits no node twice
      extends-partial : (c : List ℕ) → Extends q.net q.s (up_to f q earlier last) c → (T (covered q earlier (up_to f q earlier last) c) → ⊥) → T (partial q.net q.s c)
      extends-partial c x n = subst (λ l. T (partial q.net q.s l)) (sym x.is) (go (either (has (arc q.net.arcs x.last-arc).to (visited q.net.arcs q.s x.label))))
        where
          seen : Bool
          seen = has (arc q.net.arcs x.last-arc).to (visited q.net.arcs q.s x.label)

          go : T seen ⊎ T (not seen) → T (partial q.net q.s (x.label ++ (x.last-arc ∷ [])))
          go (inl h) =
              let w = cut_at q.net.arcs q.s x.label (arc q.net.arcs x.last-arc).to (has→mem _ _ h) in
              absurd (n (covered-i (up_to f q earlier last) w.0 c (front-taken x.label w.0 w.1 x.stands w.2)
              (subst (Covers w.0) (sym x.is) (front-covers x.label x.last-arc w))))
          go (inr h) =
              partial-more q.net q.s x.label x.last-arc (up_to-e v f last x.label x.stands).0.is-partial
              (record { leaves-end = x.leaves-end; is-new = λ m. T_not seen h (mem→has m) })

      -- ---- a live candidate fails no test

      covers-beats : (c r : List ℕ) → T (before f last c) → Memᴰ r (up_to f q earlier last) → Covers r c → Beats q earlier r c
      covers-beats c r h m k =
          record {
            same_end = k.same_end;
            precedes-it = before-precedes q.net q.s f g r c k.same_end (at-most-then f r last c (up_to-e v f last r m).1 h);
            no_more = k.no-greater;
          }

      fails-dead : (c : List ℕ) → T (before f last c) → Fails (up_to f q earlier last) c → Live q earlier c → ⊥
      fails-dead c h (inl k) l = T_not (within_all q earlier c) k (within-i c l.is_within)
      fails-dead c h (inr k) l =
          let w = covered-e (up_to f q earlier last) c k in
          l.unbeaten w.0 (up_to-e v f last w.0 w.1).0.is-partial (covers-beats c w.0 h w.1 w.2)

      -- ---- a live one after `last` begins with a live candidate

      Behind : List ℕ → Type 0
      Behind p = (c : List ℕ) × Candidate f q.net q.s (up_to f q earlier last) last c × Live q earlier c × AtMost f c p

      behind-by : (p x : List ℕ) (a : ℕ) → p ≡ x ++ (a ∷ []) → Live q earlier p → T (before f last p) → (Live q earlier x → T (before f last x) → Behind x) → Behind p
      unfolding Behind
      behind-by p x a e l h below = go (either (before f last x))
        where
          lx : Live q earlier x
          lx = live-but-last q earlier v x a (subst (Live q earlier) e l)

          go : T (before f last x) ⊎ T (not (before f last x)) → Behind p
          go (inl k) =
              let w = below lx k in
              (w.0, w.1, w.2, at-most-trans f w.0 x p w.3 (subst (AtMost f x) (sym e) (live-front-before x (a ∷ []) (subst (Live q earlier) e l))))
          go (inr k) = (
            p,
            record {
              extends = record {
                label = x;
                last-arc = a;
                stands = up_to-i v f last x lx (not_after f x last (T_not (before f last x) k));
                leaves-end = (partial-next q.net q.s x a [] (subst (λ z. T (partial q.net q.s z)) e l.is-partial)).leaves-end;
                is = e;
              };
              after = h;
            },
            l,
            inl refl,
          )

      live-behind : AtMost f [] last → (n : ℕ) (p : List ℕ) → length p < n → Live q earlier p → T (before f last p) → Behind p
      live-behind b zero p s l h = absurd (omega arith)
      live-behind b (suc n) p s l h = go (λ x. live-behind b n x) (last_of p)
        where
          go : ((x : List ℕ) → length x < n → Live q earlier x → T (before f last x) → Behind x) → (p ≡ []) ⊎ ((x : List ℕ) × (a : ℕ) × (p ≡ x ++ (a ∷ []))) → Behind p
          go again (inl e) = absurd (not-both f [] last b (subst (λ z. T (before f last z)) e h))
          go again (inr w) = behind-by p w.0 w.1 w.2 l h (again w.0 (omega (arith, ap length w.2, length-append w.0 (w.1 ∷ []))))

      -- ---- no candidate is left that does not fail

      pub up_to-none : AtMost f [] last → ((d : List ℕ) → Candidate f q.net q.s (up_to f q earlier last) last d → Fails (up_to f q earlier last) d) → up_to f q earlier last ≡ lives_by f q earlier
      unfolding Behind
      up_to-none b none_left =
          increasing-unique f (up_to f q earlier last) (lives_by f q earlier) (up_to-increasing v f last) (lives-increasing q earlier v f)
          (λ p m. lives-i q earlier v f p (up_to-e v f last p m).0)
          (λ p m.
          let l = lives-e q earlier v f p m in
          up_to-i v f last p l (not_after f p last (λ h.
          let w = live-behind b (suc (length p)) p (omega arith) l h in
          fails-dead w.0 w.1.after (none_left w.0 w.1) w.2)))

      -- ---- the first candidate that need not fail is c

      module _ (c : List ℕ) (first : Foremost f (up_to f q earlier last) last c) where
        -- nothing live lies between `last` and c
        live-from : (p : List ℕ) → Live q earlier p → T (before f last p) → AtMost f c p
        unfolding Behind
        live-from p l h =
            let w = live-behind (begun-from first.is-candidate.extends.label first.is-candidate.extends.stands) (suc (length p)) p (omega arith) l h in
            ⊎_elim (λ k. absurd (fails-dead w.0 w.1.after k w.2)) (λ k. at-most-trans f c w.0 p k w.3) (first.least w.0 w.1)

        taken-before : (p : List ℕ) → Memᴰ p (up_to f q earlier last) → T (before f p c)
        taken-before p m = at-most-then f p last c (up_to-e v f last p m).1 first.is-candidate.after

        -- a live one not after c is c, or was taken up
        up-to-c : (p : List ℕ) → Live q earlier p → AtMost f p c → (p ≡ c) ⊎ Memᴰ p (up_to f q earlier last)
        up-to-c p l a =
            ⊎_elim (λ h. inl (at-most-same f p c a (live-from p l h))) (λ h. inr (up_to-i v f last p l (not_after f p last (T_not (before f last p) h)))) (either (before f last p))

        pub dropped : (Live q earlier c → ⊥) → up_to f q earlier last ≡ up_to f q earlier c
        dropped n =
            up_to-is v f (up_to f q earlier last) c (up_to-increasing v f last) (λ p m. ((up_to-e v f last p m).0, inr (taken-before p m)))
            (λ p l a. ⊎_elim (λ e. absurd (n (subst (Live q earlier) e l))) (λ m. m) (up-to-c p l a))

        pub took : Live q earlier c → up_to f q earlier last ++ (c ∷ []) ≡ up_to f q earlier c
        took l =
            up_to-is v f (up_to f q earlier last ++ (c ∷ [])) c (increasing-last f (up_to f q earlier last) c (up_to-increasing v f last) taken-before)
            (λ p m. ⊎_elim (λ k. ((up_to-e v f last p k).0, inr (taken-before p k))) (λ k. let e = Memᴰ.eq_of_singleton k in (subst (Live q earlier) (sym e) l, inl e))
            (Memᴰ.append_cases (up_to f q earlier last) m))
            (λ p k a. ⊎_elim (λ e. Memᴰ.append_right (up_to f q earlier last) (Memᴰ.head e)) (λ m. Memᴰ.append_left (c ∷ []) m) (up-to-c p k a))

        passes-live : Within q earlier c → (T (covered q earlier (up_to f q earlier last) c) → ⊥) → Live q earlier c
        passes-live w n = ⊎_elim (λ l. l) (λ b. absurd (beaten b)) (live-or-beaten q earlier v c (extends-partial c first.is-candidate.extends n) w)
          where
            beaten : ((r : List ℕ) × Live q earlier r × Beats q earlier r c) → ⊥
            beaten b =
                let h = precedes-before q.net q.s f g b.0 c b.2.same_end b.2.precedes-it in
                ⊎_elim (λ e. before-irrefl f c (subst (λ z. T (before f z c)) e h))
                (λ m. n (covered-i (up_to f q earlier last) b.0 c m (record { same_end = b.2.same_end; no-greater = b.2.no_more })))
                (up-to-c b.0 b.1 (inr h))

-- ---- a turn, as a loop has it: `taken` are the chains of the labels

a-member : {A : Type 0} (xs : List A) → 0 < length xs → (x : A) × Memᴰ x xs
a-member [] h = absurd (omega arith)
a-member (x ∷ xs) h = (x, Memᴰ.head refl)

module _ (q : Query) (earlier : List (List ℕ)) (v : Valid q) (f : List ℕ → ℕ) (g : Guides q.net q.s f) (taken : List (List ℕ)) (last : List ℕ) (inv : taken ≡ up_to f q earlier last) where
  -- no candidate is left that does not fail: all live ones are taken up
  pub step-none : 0 < length taken → ((d : List ℕ) → Candidate f q.net q.s taken last d → Fails q earlier taken d) → taken ≡ lives_by f q earlier
  step-none b h =
      let w = a-member taken b in
      inv
      ∙ up_to-none q earlier v f g last (begun-from q earlier v f g last w.0 (subst (Memᴰ w.0) inv w.1))
      (subst (λ l. (d : List ℕ) → Candidate f q.net q.s l last d → Fails q earlier l d) inv h)

  -- c is the first that need not fail
  module _ (c : List ℕ) (first : Foremost q earlier f taken last c) where
    foremost : Foremost q earlier f (up_to f q earlier last) last c
    foremost = subst (λ l. Foremost q earlier f l last c) inv first

    -- it fails a test: it is not live, and is dropped
    pub step-dropped : passes q earlier taken c ≡ false → taken ≡ up_to f q earlier c
    step-dropped e =
        inv ∙ dropped q earlier v f g last c foremost (fails-dead q earlier v f g last c first.is-candidate.after (subst (λ l. Fails q earlier l c) inv (fails-i q earlier taken c e)))

    -- it passes both: it is live, and the next label
    pub step-taken : passes q earlier taken c ≡ true → taken ++ (c ∷ []) ≡ up_to f q earlier c
    unfolding passes
    step-taken e =
        let x = within_all q earlier c in
        let y = not (covered q earlier taken c) in
        let h : T (x && y) = subst T (sym e) tt in
        ap (λ l. l ++ (c ∷ [])) inv
        ∙ took q earlier v f g last c foremost
        (passes-live q earlier v f g last c foremost (within-e q earlier c (and_l x y h)) (subst (λ l. T (covered q earlier l c) → ⊥) inv (T_not (covered q earlier taken c) (and_r x y h))))
