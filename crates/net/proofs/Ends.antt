-- The ends of a round, by any guide f. The chains taken up are the live ones not after the last candidate. If the last one taken up is the first that ends at t, it is the
-- answer, and they are what is counted; if no candidate is left and none ends at t, there is no answer and they are all; if one more is live and the room
-- is full, they are the beginning of what is counted, and that is longer than the room.
use mathlib.Core.Path.{◌≡◌, refl, sym, ap, ap₂, subst, ◌∙◌}
use mathlib.Core.Logic.{◌⊎◌, inl, inr, ⊎_elim}
use mathlib.Core.Option.{Option, none, some}
use mathlib.Core.List.Memᴰ
use mathlib.Core.List.{List, [], ◌∷◌, ◌++◌, Memᴰ, append_assoc}
use mathlib.Core.Bool.{Bool, true, false, not}
use Prim.Native.Nat.{ℕ, ◌<◌, ◌≤◌, ◌+◌}
use native.Mathlib.Omega.{arith}
use borrow.Author.Tests.{lt-ltb, le-ltb, ltb-false}
use lib.Dec.{T, ltb, T_not, not_T}
use lib.ListN.{length, take, length-append}
use lib.Seq.{take_all, take-append_seam}
use Rattle.lists.specs.Tests.{keep}
use Rattle.lists.proofs.TestLaws.{keep-e, keep-i}
use Rattle.net.specs.Route.{end_of, partial, before}
use Rattle.net.specs.Round.{Query, lives_by, answer, counted_with, counted_by, count_by, Ending, answered, unanswered, refused, judged, ending_by}
use Rattle.net.specs.Labels.{labels, held_by}
use Rattle.net.specs.Search.{up_to}
use Rattle.net.proofs.Valid.{Valid}
use Rattle.net.proofs.Order.{AtMost, at-most-trans, not-both, not_after}
use Rattle.net.proofs.Sorted.{keep-increasing, increasing-unique, cut-after}
use Rattle.net.proofs.Guide.{Guides, before-precedes}
use Rattle.net.proofs.Live.{Live, lives-e, lives-i}
use Rattle.net.proofs.Answer.{Answers, answer-some, answer-is, answer-is-none, eligible-live, answer-live, first-answers, counted-increasing, counted-e, counted-i}
use Rattle.net.proofs.Step.{up_to-e, up_to-i, up_to-increasing}

-- ---- what an ending says, and what the labels then hold

module _ (q : Query) (earlier : List (List ℕ)) (v : Valid q) (f : List ℕ → ℕ) where
  -- what the labels then hold
  pub ends_held : (taken : List (List ℕ)) → take q.room (counted_by f q earlier) ≡ taken → held_by f q earlier ≡ labels taken
  unfolding held_by
  ends_held taken e = ap labels e

  pub judged-fits : (w : Option (List ℕ)) (n : ℕ) → answer q earlier ≡ w → count_by f q earlier ≡ n → n ≤ q.room → ending_by f q earlier ≡ judged false n w
  unfolding ending_by
  judged-fits w n e k h = ap₂ (λ m o. judged (ltb q.room m) m o) k e ∙ ap (λ b. judged b n w) (le-ltb q.room n h)

  pub ending-answered : (p : List ℕ) (n : ℕ) → ending_by f q earlier ≡ answered p n → (answer q earlier ≡ some p) × (count_by f q earlier ≡ n) × (n ≤ q.room)
  unfolding ending_by judged
  ending-answered p n e = go (ltb q.room (count_by f q earlier)) refl (answer q earlier) e
    where
      go : (b : Bool) → ltb q.room (count_by f q earlier) ≡ b → (o : Option (List ℕ)) → judged b (count_by f q earlier) o ≡ answered p n → (o ≡ some p) × (count_by f q earlier ≡ n) × (n ≤ q.room)
      go true l o k = let z : ◌≡◌ {A = ℕ} 0 1 = cc in absurd (omega arith)
      go false l none k = let z : ◌≡◌ {A = ℕ} 0 1 = cc in absurd (omega arith)
      go false l (some w) k =
          let i : w ≡ p = cc in
          let j : count_by f q earlier ≡ n = cc in
          (ap some i, j, omega (arith, ltb-false q.room (count_by f q earlier) l))

  pub ending-unanswered : (n : ℕ) → ending_by f q earlier ≡ unanswered n → (answer q earlier ≡ none) × (count_by f q earlier ≡ n) × (n ≤ q.room)
  unfolding ending_by judged
  ending-unanswered n e = go (ltb q.room (count_by f q earlier)) refl (answer q earlier) e
    where
      go : (b : Bool) → ltb q.room (count_by f q earlier) ≡ b → (o : Option (List ℕ)) → judged b (count_by f q earlier) o ≡ unanswered n → (o ≡ none) × (count_by f q earlier ≡ n) × (n ≤ q.room)
      go true l o k = let z : ◌≡◌ {A = ℕ} 0 1 = cc in absurd (omega arith)
      go false l (some w) k = let z : ◌≡◌ {A = ℕ} 0 1 = cc in absurd (omega arith)
      go false l none k =
          let j : count_by f q earlier ≡ n = cc in
          (refl, j, omega (arith, ltb-false q.room (count_by f q earlier) l))

  -- an answer is a route
  pub answered-partial : (p : List ℕ) (n : ℕ) → ending_by f q earlier ≡ answered p n → T (partial q.net q.s p)
  answered-partial p n e = (answer-some q earlier v p (ending-answered p n e).0).is-eligible.is-partial

module _ (q : Query) (earlier : List (List ℕ)) (v : Valid q) (f : List ℕ → ℕ) (g : Guides q.net q.s f) where
  -- no chain of these ends at t
  abbrev pub Short : List (List ℕ) → Type 0
  Short taken = (p : List ℕ) → Memᴰ p taken → end_of q.net.arcs q.s p ≡ q.t → ⊥

  -- with an answer, what is counted is the live ones not after it
  pub counted-up_to : (w : List ℕ) → Answers q earlier v w → counted_with f q earlier (some w) ≡ up_to f q earlier w
  counted-up_to w a =
      increasing-unique f (counted_with f q earlier (some w)) (up_to f q earlier w) (counted-increasing q earlier v f (some w)) (up_to-increasing q earlier v f w)
      (λ p m. let k = counted-e q earlier v f w a p m in up_to-i q earlier v f w p k.0 k.1)
      (λ p m. let k = up_to-e q earlier v f w p m in counted-i q earlier v f w p k.0 k.1)

  -- ---- the first live one that ends at t, in the order by f, is the answer of rule 6

  pub first_by : (w : List ℕ) → Live q earlier w → end_of q.net.arcs q.s w ≡ q.t → ((r : List ℕ) → Live q earlier r → end_of q.net.arcs q.s r ≡ q.t → AtMost f w r) → Answers q earlier v w
  first_by w l e first =
      first-answers q earlier v w l e (λ r m k. ⊎_elim inl (λ h. inr (before-precedes q.net q.s f g w r (e ∙ sym k) h)) (first r m k))

  -- ---- an answer

  module _ (taken : List (List ℕ)) (c : List ℕ) (inv : taken ++ (c ∷ []) ≡ up_to f q earlier c) (short : Short taken) where
    c-live : Live q earlier c
    c-live = (up_to-e q earlier v f c c (subst (Memᴰ c) inv (Memᴰ.append_right taken (Memᴰ.head refl)))).0

    -- a live one that ends at t is c or comes after it
    ends-from : (r : List ℕ) → Live q earlier r → end_of q.net.arcs q.s r ≡ q.t → AtMost f c r
    ends-from r l e = not_after f c r (λ h. go (Memᴰ.append_cases taken (subst (Memᴰ r) (sym inv) (up_to-i q earlier v f c r l (inr h)))) h)
      where
        go : Memᴰ r taken ⊎ Memᴰ r (c ∷ []) → T (before f r c) → ⊥
        go (inl m) h = short r m e
        go (inr m) h = not-both f c r (inl (sym (Memᴰ.eq_of_singleton m))) h

    pub c-answers : end_of q.net.arcs q.s c ≡ q.t → Answers q earlier v c
    c-answers e = first_by c c-live e ends-from

    pub found-answer : end_of q.net.arcs q.s c ≡ q.t → answer q earlier ≡ some c
    found-answer e = answer-is q earlier v c (c-answers e)

    pub found-counted : end_of q.net.arcs q.s c ≡ q.t → counted_by f q earlier ≡ taken ++ (c ∷ [])
    unfolding counted_by
    found-counted e = ap (counted_with f q earlier) (found-answer e) ∙ counted-up_to c (c-answers e) ∙ sym inv

    -- ---- more than the room

    counted-c : (o : Option (List ℕ)) → answer q earlier ≡ o → (p : List ℕ) → Memᴰ p (counted_with f q earlier o) → Live q earlier p
    unfolding counted_with
    counted-c none e p m = lives-e q earlier v f p m
    counted-c (some w) e p m = (counted-e q earlier v f w (answer-some q earlier v w e) p m).0

    c-counted : (o : Option (List ℕ)) → answer q earlier ≡ o → (p : List ℕ) → Live q earlier p → AtMost f p c → Memᴰ p (counted_with f q earlier o)
    unfolding counted_with
    c-counted none e p l a = lives-i q earlier v f p l
    c-counted (some w) e p l a =
        let k = answer-some q earlier v w e in
        counted-i q earlier v f w p l (at-most-trans f p c w a (ends-from w (answer-live q earlier v w k) k.is-eligible.ends))

    -- what is counted begins with these
    pub counted-begins : (more : List (List ℕ)) × (counted_by f q earlier ≡ (taken ++ (c ∷ [])) ++ more)
    unfolding counted_by
    counted-begins =
        let o = answer q earlier in
        let ps = counted_with f q earlier o in
        let t : List ℕ → Bool = λ p. not (before f c p) in
        let i = counted-increasing q earlier v f o in
        let e : keep t ps ≡ up_to f q earlier c =
        increasing-unique f (keep t ps) (up_to f q earlier c) (keep-increasing f t ps i) (up_to-increasing q earlier v f c)
        (λ p m. let k = keep-e t p ps m in up_to-i q earlier v f c p (counted-c o refl p k.0) (not_after f p c (T_not (before f c p) k.1)))
        (λ p m. let k = up_to-e q earlier v f c p m in keep-i t (c-counted o refl p k.0 k.1) (not_T (before f c p) (not-both f p c k.1))) in
        (keep (before f c) ps, cut-after f c ps i ∙ ap (λ l. l ++ keep (before f c) ps) (e ∙ sym inv))

  -- ---- no answer

  pub none-answer : Short (lives_by f q earlier) → answer q earlier ≡ none
  none-answer short =
      answer-is-none q earlier v (λ p h. let w = eligible-live q earlier v p h in short w.0 (lives-i q earlier v f w.0 w.1) w.2)

  pub none-counted : Short (lives_by f q earlier) → counted_by f q earlier ≡ lives_by f q earlier
  unfolding counted_by counted_with
  none-counted short = ap (counted_with f q earlier) (none-answer short)

  -- ---- the three ends, as a round has them: how it ends, and what is counted, as much as there is room for

  abbrev pub Ends : List (List ℕ) → Ending → Type 0
  Ends taken e = (ending_by f q earlier ≡ e) × (take q.room (counted_by f q earlier) ≡ taken)

  take-fits : (ps : List (List ℕ)) → counted_by f q earlier ≡ ps → length ps ≤ q.room → take q.room (counted_by f q earlier) ≡ ps
  take-fits ps e h = ap (take q.room) e ∙ take_all q.room ps h

  module _ (taken : List (List ℕ)) (c : List ℕ) (inv : taken ++ (c ∷ []) ≡ up_to f q earlier c) (short : Short taken) where
    pub ends_found : end_of q.net.arcs q.s c ≡ q.t → length (taken ++ (c ∷ [])) ≤ q.room → Ends (taken ++ (c ∷ [])) (answered c (length (taken ++ (c ∷ []))))
    unfolding judged count_by
    ends_found e h = (
      judged-fits q earlier v f (some c) (length (taken ++ (c ∷ []))) (found-answer taken c inv short e) (ap length (found-counted taken c inv short e)) h,
      take-fits (taken ++ (c ∷ [])) (found-counted taken c inv short e) h,
    )

    pub ends-refused : length taken ≡ q.room → Ends taken refused
    unfolding judged count_by ending_by
    ends-refused full =
        let w = counted-begins taken c inv short in
        let e : counted_by f q earlier ≡ taken ++ ((c ∷ []) ++ w.0) = w.1 ∙ append_assoc taken (c ∷ []) w.0 in
        let h : q.room < length (counted_by f q earlier) = omega (arith, ap length e, length-append taken ((c ∷ []) ++ w.0)) in (
          ap (λ b. judged b (count_by f q earlier) (answer q earlier)) (lt-ltb q.room (length (counted_by f q earlier)) h),
          ap (take q.room) e ∙ subst (λ n. take n (taken ++ ((c ∷ []) ++ w.0)) ≡ taken) full (take-append_seam taken ((c ∷ []) ++ w.0)),
        )

  pub ends-none : (taken : List (List ℕ)) → taken ≡ lives_by f q earlier → Short taken → length taken ≤ q.room → Ends taken (unanswered (length taken))
  unfolding judged count_by
  ends-none taken inv short h =
      let s = subst Short inv short in
      let e = none-counted s ∙ sym inv in
      (judged-fits q earlier v f none (length taken) (none-answer s) (ap length e) h, take-fits taken e h)
