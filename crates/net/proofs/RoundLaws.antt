-- The rounds of a query, one at a time, by any order f. No round depends on how many are wanted, so the rounds for k are the first k of those for more. The first
-- answer says what the first round's is and leaves the rounds after it. An answer was eligible in each round before its own, since it is within the threshold of
-- more routes than they ask.
use mathlib.Core.Path.{◌≡◌, refl, sym, ap, subst, ◌∙◌}
use mathlib.Core.Logic.{◌⊎◌, inl, inr}
use mathlib.Core.Option.{Option, none, some}
use mathlib.Core.List.Memᴰ
use mathlib.Core.List.{List, [], ◌∷◌, ◌++◌, Memᴰ}
use mathlib.Core.Bool.{Bool, true, false}
use Prim.Native.Nat.{ℕ, zero, suc, ◌≤◌}
use native.Mathlib.Omega.{arith}
use lib.Dec.{ltb}
use lib.ListN.{take}
use lib.Seq.{take-nil}
use Rattle.outcome.specs.Outcome.{room}
use Rattle.net.specs.Round.{Query, Ending, answered, unanswered, refused, answer, count_by, judged, ending_by}
use Rattle.net.specs.Outcome.{go_on, rounds_by, told, answers}
use Rattle.net.proofs.Valid.{Valid}
use Rattle.net.proofs.Answer.{Eligible, answer-some}
use Rattle.net.proofs.Ends.{ending-answered}

module _ (f : List ℕ → ℕ) (q : Query) where
  -- the rounds after earlier answers and p
  abbrev after : ℕ → List (List ℕ) → List ℕ → List Ending
  after k earlier p = rounds_by f q k (earlier ++ (p ∷ []))

  -- ---- more of them

  pub rounds-begin : (k n : ℕ) (earlier : List (List ℕ)) → k ≤ n → rounds_by f q k earlier ≡ take k (rounds_by f q n earlier)
  unfolding rounds_by go_on
  rounds-begin zero n earlier h = refl
  rounds-begin (suc k) zero earlier h = absurd (omega arith)
  rounds-begin (suc k) (suc n) earlier h = go (ending_by f q earlier) (λ p. rounds-begin k n (earlier ++ (p ∷ [])) (omega arith))
    where
      go : (z : Ending) → ((p : List ℕ) → after k earlier p ≡ take k (after n earlier p)) → go_on z (after k earlier) ≡ take (suc k) (go_on z (after n earlier))
      go (answered p m) below = ap (λ l. answered p m ∷ l) (below p)
      go (unanswered m) below = ap (λ l. unanswered m ∷ l) (sym (take-nil k))
      go refused below = ap (λ l. refused ∷ l) (sym (take-nil k))

  pub answers-begin : (k n : ℕ) (earlier : List (List ℕ)) → k ≤ n → answers (rounds_by f q k earlier) ≡ take k (answers (rounds_by f q n earlier))
  unfolding rounds_by go_on answers
  answers-begin zero n earlier h = refl
  answers-begin (suc k) zero earlier h = absurd (omega arith)
  answers-begin (suc k) (suc n) earlier h = go (ending_by f q earlier) (λ p. answers-begin k n (earlier ++ (p ∷ [])) (omega arith))
    where
      go : (z : Ending) → ((p : List ℕ) → answers (after k earlier p) ≡ take k (answers (after n earlier p)))
          → answers (go_on z (after k earlier)) ≡ take (suc k) (answers (go_on z (after n earlier)))
      go (answered p m) below = ap (λ l. p ∷ l) (below p)
      go (unanswered m) below = refl
      go refused below = refl

  module _ (v : Valid q) where
    -- ---- the first of them

    -- of rounds whose first answer is p
    pub first-answer : (k : ℕ) (earlier : List (List ℕ)) (p : List ℕ) (ps : List (List ℕ)) → answers (rounds_by f q k earlier) ≡ p ∷ ps
        → (answer q earlier ≡ some p) × (n : ℕ) × (k ≡ suc n) × (answers (after n earlier p) ≡ ps)
    unfolding rounds_by go_on answers
    first-answer zero earlier p ps e = let z : ◌≡◌ {A = ℕ} 0 1 = cc in absurd (omega arith)
    first-answer (suc k) earlier p ps e = go (ending_by f q earlier) refl e
      where
        go : (z : Ending) → ending_by f q earlier ≡ z → answers (go_on z (after k earlier)) ≡ p ∷ ps
            → (answer q earlier ≡ some p) × (n : ℕ) × (suc k ≡ suc n) × (answers (after n earlier p) ≡ ps)
        go (answered x m) h g =
            let i : x ≡ p = cc in
            let j : answers (after k earlier x) ≡ ps = cc in
            ((ending-answered q earlier v f x m h).0 ∙ ap some i, k, refl, subst (λ z. answers (after k earlier z) ≡ ps) i j)
        go (unanswered m) h g = let z : ◌≡◌ {A = ℕ} 0 1 = cc in absurd (omega arith)
        go refused h g = let z : ◌≡◌ {A = ℕ} 0 1 = cc in absurd (omega arith)

    -- a round that is not refused gives its answer
    pub not-refused : (k i : ℕ) (earlier : List (List ℕ)) (p : List ℕ) → answer q earlier ≡ some p → ((told i (rounds_by f q (suc k) earlier)).outcome ≡ room → ⊥)
        → (answers (rounds_by f q (suc k) earlier) ≡ p ∷ answers (after k earlier p)) × ((told (suc i) (after k earlier p)).outcome ≡ room → ⊥)
    unfolding rounds_by go_on answers told ending_by judged
    not-refused k i earlier p e n = go (ltb q.room (count_by f q earlier)) (count_by f q earlier) (answer q earlier) e n
      where
        go : (b : Bool) (c : ℕ) (o : Option (List ℕ)) → o ≡ some p → ((told i (go_on (judged b c o) (after k earlier))).outcome ≡ room → ⊥)
            → (answers (go_on (judged b c o) (after k earlier)) ≡ p ∷ answers (after k earlier p)) × ((told (suc i) (after k earlier p)).outcome ≡ room → ⊥)
        go true c o h m = absurd (m refl)
        go false c none h m = let z : ◌≡◌ {A = ℕ} 0 1 = cc in absurd (omega arith)
        go false c (some x) h m =
            let g : x ≡ p = cc in
            (ap (λ z. z ∷ answers (after k earlier z)) g, subst (λ z. (told (suc i) (after k earlier z)).outcome ≡ room → ⊥) g m)

    -- ---- all of them

    pub fewer-eligible : (earlier more : List (List ℕ)) (x : List ℕ) → Eligible q (earlier ++ more) x → Eligible q earlier x
    fewer-eligible earlier more x h = record { is-partial = h.is-partial; ends = h.ends; is_within = λ e i. h.is_within e (Memᴰ.append_left more i) }

    pub answers-eligible : (k : ℕ) (earlier : List (List ℕ)) (x : List ℕ) → Memᴰ x (answers (rounds_by f q k earlier)) → Eligible q earlier x
    unfolding rounds_by go_on answers
    answers-eligible zero earlier x m = absurd (Memᴰ.not-nil m)
    answers-eligible (suc k) earlier x m = go (ending_by f q earlier) refl (λ p. answers-eligible k (earlier ++ (p ∷ [])) x) m
      where
        go : (z : Ending) → ending_by f q earlier ≡ z → ((p : List ℕ) → Memᴰ x (answers (after k earlier p)) → Eligible q (earlier ++ (p ∷ [])) x)
            → Memᴰ x (answers (go_on z (after k earlier))) → Eligible q earlier x
        go (answered p n) e below i = at (Memᴰ.cases_cons i)
          where
            at : (x ≡ p) ⊎ Memᴰ x (answers (after k earlier p)) → Eligible q earlier x
            at (inl h) = subst (Eligible q earlier) (sym h) (answer-some q earlier v p (ending-answered q earlier v f p n e).0).is-eligible
            at (inr j) = fewer-eligible earlier (p ∷ []) x (below p j)
        go (unanswered n) e below i = absurd (Memᴰ.not-nil i)
        go refused e below i = absurd (Memᴰ.not-nil i)
