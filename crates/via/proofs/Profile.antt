-- The profile: what is kept. The first kept is the answer of round 1, each is within the threshold of those before it, fewer than k are kept only where no
-- candidate is left, and a second one shows that the exact call has a second route, no longer.
use mathlib.Core.Path.{◌≡◌, refl, sym, ap, ap₂, subst, ◌∙◌}
use mathlib.Core.Logic.{◌⊎◌, inl, inr, ⊎_elim}
use mathlib.Core.Option.{some}
use mathlib.Core.List.Memᴰ
use mathlib.Core.List.{List, [], ◌∷◌, ◌++◌, map, head?, append-nil, append_assoc, Memᴰ}
use mathlib.Core.Bool.{Bool, true, false, ◌&&◌, cond}
use Prim.Native.Nat.{ℕ, zero, suc, ◌<◌, ◌≤◌}
use native.Mathlib.Omega.{arith}
use borrow.Author.Tests.{lt-ltb, ltb-false}
use lib.Dec.{T, ltb, ltb→lt}
use lib.ListN.{length, length-append}
use Rattle.lists.specs.Tests.{every}
use Rattle.lists.proofs.TestLaws.{and_l, and_r}
use Rattle.outcome.specs.Outcome.{found, fewer, plain}
use Rattle.net.specs.Route.{end_of, partial, length_of}
use Rattle.net.specs.Round.{Query, within_all, answer, answered, unanswered}
use Rattle.net.specs.Outcome.{told, answers}
use Rattle.net.proofs.Valid.{Valid}
use Rattle.net.proofs.Sorted.{Increasing}
use Rattle.net.proofs.Answer.{Within}
use Rattle.net.proofs.Step.{within-e, within-i}
use Rattle.net.specs.Longer.{EndsIn11, SecondWithin}
use Rattle.net.proofs.Longer.{second-within}
use Rattle.via.specs.Via.{first_route, vias, kept_of, profile, via_rounds}
use Rattle.via.proofs.Vias.{via-e, via-ends, vias-first, vias-increasing}

module _ (q : Query) where
  -- each is within the threshold of `before` and of those that stand before it
  abbrev pub EachWithin : List (List ℕ) → List (List ℕ) → Type 0
  EachWithin before [] = Unit {0}
  EachWithin before (p ∷ ps) = Within q before p × EachWithin (before ++ (p ∷ [])) ps

  pub record Sifted (k : ℕ) (before cs : List (List ℕ)) : Type 0 where
    pub more : List (List ℕ)
    pub is : kept_of q k before cs ≡ before ++ more
    pub from : (x : List ℕ) → Memᴰ x more → Memᴰ x cs
    pub in_order : Increasing (length_of q.net.arcs) cs → Increasing (length_of q.net.arcs) more
    pub each_within : EachWithin before more
    pub fits : length before ≤ k → length (before ++ more) ≤ k
    pub left_out : (x : List ℕ) → Memᴰ x cs → Memᴰ x more ⊎ ((k ≤ length (before ++ more)) ⊎ (Within q (before ++ more) x → ⊥))

  pub sifted : (k : ℕ) (cs before : List (List ℕ)) → Sifted k before cs
  unfolding kept_of
  sifted k [] before =
      record {
        more = [];
        is = sym (append-nil before);
        from = λ x m. m;
        in_order = λ i. i;
        each_within = tt;
        fits = λ h. omega (arith, ap length (append-nil before));
        left_out = λ x m. absurd (Memᴰ.not-nil m);
      }
  sifted k (c ∷ cs) before = go (ltb (length before) k && within_all q before c) refl (sifted k cs)
    where
      Left : List (List ℕ) → List (List ℕ) → List ℕ → Type 0
      Left more all x = Memᴰ x more ⊎ ((k ≤ length all) ⊎ (Within q all x → ⊥))

      further : (more all all' : List (List ℕ)) (x : List ℕ) → all ≡ all' → Left more all x → Left (c ∷ more) all' x
      further more all all' x e (inl m) = inl (Memᴰ.tail m)
      further more all all' x e (inr l) = inr (subst (λ z. (k ≤ length z) ⊎ (Within q z x → ⊥)) e l)

      -- c was not kept: there are enough, or it is over a threshold
      why : (ltb (length before) k && within_all q before c) ≡ false → (more : List (List ℕ)) → (k ≤ length (before ++ more)) ⊎ (Within q (before ++ more) c → ⊥)
      why e more = at (ltb (length before) k) refl e
        where
          at : (b : Bool) → ltb (length before) k ≡ b → (b && within_all q before c) ≡ false → (k ≤ length (before ++ more)) ⊎ (Within q (before ++ more) c → ⊥)
          at true f g = inr (λ w. subst T g (within-i q before c (λ x m. w x (Memᴰ.append_left more m))))
          at false f g = inl (omega (arith, ltb-false (length before) k f, length-append before more))

      go : (b : Bool) → (ltb (length before) k && within_all q before c) ≡ b → ((l : List (List ℕ)) → Sifted k l cs) → Sifted k before (c ∷ cs)
      go true e below =
          let s = below (before ++ (c ∷ [])) in
          let h : T (ltb (length before) k && within_all q before c) = subst T (sym e) tt in
          let a = append_assoc before (c ∷ []) s.more in
          record {
            more = c ∷ s.more;
            is = rw e (s.is ∙ a);
            from = λ x m. ⊎_elim Memᴰ.head (λ i. Memᴰ.tail (s.from x i)) (Memᴰ.cases_cons m);
            in_order = λ i. (λ r m. i.0 r (s.from r m), s.in_order i.1);
            each_within = (within-e q before c (and_r (ltb (length before) k) (within_all q before c) h), s.each_within);
            fits = λ l. omega (arith, ap length a, s.fits (omega (arith, ltb→lt (length before) k (and_l (ltb (length before) k) (within_all q before c) h), length-append before (c ∷ []))));
            left_out = λ x m. ⊎_elim (λ i. inl (Memᴰ.head i)) (λ i. further s.more _ _ x a (s.left_out x i)) (Memᴰ.cases_cons m);
          }
      go false e below =
          let s = below before in
          record {
            more = s.more;
            is = rw e s.is;
            from = λ x m. Memᴰ.tail (s.from x m);
            in_order = λ i. s.in_order i.1;
            each_within = s.each_within;
            fits = s.fits;
            left_out = λ x m. ⊎_elim (λ i. inr (subst (λ z. (k ≤ length (before ++ s.more)) ⊎ (Within q (before ++ s.more) z → ⊥)) (sym i) (why e s.more))) (s.left_out x) (Memᴰ.cases_cons m);
          }

  -- ---- one candidate at a time

  pub kept-none : (k : ℕ) (kept : List (List ℕ)) → kept_of q k kept [] ≡ kept
  unfolding kept_of
  kept-none k kept = refl

  module _ (k : ℕ) (kept cs : List (List ℕ)) where
    pub kept_on : (c : List ℕ) → length kept < k → within_all q kept c ≡ true → kept_of q k kept (c ∷ cs) ≡ kept_of q k (kept ++ (c ∷ [])) cs
    unfolding kept_of
    kept_on c h w = ap (λ b. kept_of q k (cond b (kept ++ (c ∷ [])) kept) cs) (ap₂ ◌&&◌ (lt-ltb (length kept) k h) w)

    pub kept-over : (c : List ℕ) → within_all q kept c ≡ false → kept_of q k kept (c ∷ cs) ≡ kept_of q k kept cs
    unfolding kept_of
    kept-over c w = ap (λ b. kept_of q k (cond b (kept ++ (c ∷ [])) kept) cs) (no (ltb (length kept) k) (within_all q kept c) w)
      where
        no : (x y : Bool) → y ≡ false → (x && y) ≡ false
        no true y e = e
        no false y e = refl

    -- k are kept: the rest keeps no more
    pub kept_full : length kept ≡ k → kept_of q k kept cs ≡ kept
    kept_full h =
        let s = sifted k cs kept in
        s.is ∙ ap (λ l. kept ++ l) (none_of s.more (omega (arith, s.fits (omega arith), length-append kept s.more))) ∙ append-nil kept
      where
        none_of : (l : List (List ℕ)) → length l ≡ 0 → l ≡ []
        none_of [] e = refl
        none_of (x ∷ l) e = absurd (omega arith)

-- ---- the profile

module _ (q : Query) (v : Valid q) where
  all : List (List ℕ)
  all = vias q.net q.s q.t

  of : (k : ℕ) → Sifted q k [] all
  of k = sifted q k all []

  is-kept : (k : ℕ) → profile q k ≡ (of k).more
  unfolding profile all of
  is-kept k = (of k).is

  -- each kept is a route from s to t, in the order of rule 3, within the threshold of those kept before; and there are at most k
  pub record Kept (k : ℕ) : Type 0 where
    pub is-route : (p : List ℕ) → Memᴰ p (profile q k) → T (partial q.net q.s p) × (end_of q.net.arcs q.s p ≡ q.t)
    pub in_order : Increasing (length_of q.net.arcs) (profile q k)
    pub each_within : EachWithin q [] (profile q k)
    pub at_most : length (profile q k) ≤ k
    -- where there are fewer than k, no candidate is left that is within the threshold of all kept
    pub none_left : length (profile q k) < k → (c : List ℕ) → Memᴰ c (vias q.net q.s q.t) → Within q (profile q k) c → Memᴰ c (profile q k)

  pub profile-kept : (k : ℕ) → Kept k
  unfolding all of
  profile-kept k =
      let s = of k in
      let e = is-kept k in
      record {
        is-route = λ p m. let x = via-e q.net v.sound q.s q.t v.s-below p (s.from p (subst (Memᴰ p) e m)) in
            (x.is-partial, via-ends q.net v.sound q.s q.t v.s-below p x);
        in_order = subst (Increasing (length_of q.net.arcs)) (sym e) (s.in_order (vias-increasing q.net v.sound q.s q.t v.s-below));
        each_within = subst (EachWithin q []) (sym e) s.each_within;
        at_most = omega (arith, ap length e, s.fits (omega arith));
        none_left = λ h c m w. subst (Memᴰ c) (sym e)
            (⊎_elim (λ i. i) (⊎_elim (λ i. absurd (omega (arith, ap length e))) (λ i. absurd (i (subst (λ l. Within q l c) e w)))) (s.left_out c m));
      }

  -- the first kept is the answer of round 1
  pub profile-first : (k : ℕ) → head? (profile q (suc k)) ≡ answer q []
  unfolding profile first_route answer kept_of within_all every
  profile-first k = go (vias q.net q.s q.t) ∙ vias-first q.net v.sound q.s q.t v.s-below
    where
      go : (cs : List (List ℕ)) → head? (kept_of q (suc k) [] cs) ≡ head? cs
      go [] = refl
      go (c ∷ cs) =
          let e : (ltb 0 (suc k) && true) ≡ true = ap (λ b. b && true) (lt-ltb 0 (suc k) (omega arith)) in
          ap (λ b. head? (kept_of q (suc k) (cond b (c ∷ []) []) cs)) e ∙ ap head? (sifted q (suc k) cs (c ∷ [])).is

  pub profile-begins : (k : ℕ) (p : List ℕ) (ps : List (List ℕ)) → profile q k ≡ p ∷ ps → answer q [] ≡ some p
  profile-begins zero p ps e = absurd (omega (arith, (profile-kept zero).at_most, ap length e))
  profile-begins (suc k) p ps e = sym (profile-first k) ∙ ap head? e

  -- "If it has a second route, the exact call without 11 has one too, and that is no longer."
  pub profile-second : (k n : ℕ) (p w : List ℕ) (ps : List (List ℕ)) → profile q k ≡ p ∷ w ∷ ps → 2 ≤ n → (EndsIn11 q n → ⊥) → SecondWithin q n (length_of q.net.arcs w)
  profile-second k n p w ps e two fits =
      let kept = profile-kept k in
      let r = kept.is-route w (subst (Memᴰ w) (sym e) (Memᴰ.tail (Memᴰ.head refl))) in
      let i = subst (EachWithin q []) e kept.each_within in
      second-within q v n p w two fits (profile-begins k p (w ∷ ps) e) (record { is-partial = r.0; ends = r.1; is_within = i.1.0 })

  -- ---- as rounds: never 11

  told-answered : (ps : List (List ℕ)) (i : ℕ) (b : Bool)
      → told i (map (λ p. answered p 0) ps ++ cond b (unanswered 0 ∷ []) []) ≡ plain (cond b fewer found)
  unfolding told
  told-answered [] i true = refl
  told-answered [] i false = refl
  told-answered (p ∷ ps) i b = told-answered ps (suc i) b

  answers-answered : (ps : List (List ℕ)) (b : Bool) → answers (map (λ p. answered p 0) ps ++ cond b (unanswered 0 ∷ []) []) ≡ ps
  unfolding answers
  answers-answered [] true = refl
  answers-answered [] false = refl
  answers-answered (p ∷ ps) b = ap (λ l. p ∷ l) (answers-answered ps b)

  pub via-told : (k : ℕ) → told 1 (via_rounds q k) ≡ plain (cond (ltb (length (profile q k)) k) fewer found)
  unfolding via_rounds
  via-told k = told-answered (profile q k) 1 (ltb (length (profile q k)) k)

  pub via-answers : (k : ℕ) → answers (via_rounds q k) ≡ profile q k
  unfolding via_rounds
  via-answers k = answers-answered (profile q k) (ltb (length (profile q k)) k)
