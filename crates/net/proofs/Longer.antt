-- Longer lists and looser thresholds (02.8). The answers for k begin those for more by induction over the rounds, and so do the summaries. A later answer was
-- eligible in every earlier round, whose answer precedes all that were: so lengths never fall. The first answer is the same at both thresholds, and what is within
-- the smaller threshold of it is within the greater one: so the second answer there precedes the second answer here, or is it. A third round has other
-- earlier routes at the greater threshold, so of the third route this is not so (LongerFigures).
use mathlib.Core.Path.{◌≡◌, refl, sym, ap, ◌∙◌}
use mathlib.Core.Logic.{⊎_elim}
use mathlib.Core.Option.{Option, none, some}
use mathlib.Core.List.{List, [], ◌∷◌, ◌++◌, map}
use Prim.Native.Nat.{ℕ, zero, suc, ◌-◌, ◌*◌, ◌≤◌, ◌<◌}
use native.Mathlib.Omega.{arith}
use native.Mathlib.Nat.{mul-le-mul_left, le_of_mul-le-mul_left}
use lib.ListN.{length, take, replicate, length-append, length-map, length-replicate}
use Rattle.lists.proofs.IndexLaws.{take-replicate}
use Rattle.outcome.specs.Outcome.{room}
use Rattle.net.specs.Route.{length_of, overlap}
use Rattle.net.specs.Round.{Query, Ending, answered, unanswered, refused, answer, ending}
use Rattle.net.specs.Outcome.{go_on, rounds_by, rounds, told, answers, summary, not_begun, summaries}
use Rattle.net.specs.Longer.{answers_for, EndsIn11, at, Greater, NeverFall, SecondWithin, Longer}
use Rattle.net.proofs.Valid.{Valid}
use Rattle.net.proofs.Order.{before-most}
use Rattle.net.proofs.Answer.{Eligible, answer-some, answer-none}
use Rattle.net.proofs.Ends.{ending-answered}
use Rattle.net.proofs.RoundLaws.{rounds-begin, answers-begin, first-answer, not-refused, fewer-eligible, answers-eligible}

-- ---- summaries

padded : {A B : Type 0} (f : A → B) (d : B) (k n : ℕ) (xs : List A) → k ≤ n
    → map f (take k xs) ++ replicate (k - length (take k xs)) d ≡ take k (map f xs ++ replicate (n - length xs) d)
padded f d zero n xs h = refl
padded f d (suc k) zero xs h = absurd (omega arith)
padded f d (suc k) (suc n) [] h =
    let e : suc k - 0 ≡ suc k = omega arith in
    let g : suc n - 0 ≡ suc n = omega arith in
    rw (e, g) (sym (take-replicate (suc k) (suc n) d h))
padded f d (suc k) (suc n) (x ∷ xs) h =
    let e : suc k - suc (length (take k xs)) ≡ k - length (take k xs) = omega arith in
    let g : suc n - suc (length xs) ≡ n - length xs = omega arith in
    rw (e, g) (ap (λ l. f x ∷ l) (padded f d k n xs (omega arith)))

module _ (q : Query) where
  abbrev len : List ℕ → ℕ
  len = length_of q.net.arcs

  pub summaries-begin : (k n : ℕ) → k ≤ n → summaries q k (rounds q k []) ≡ take k (summaries q n (rounds q n []))
  unfolding summaries
  summaries-begin k n h = rw (rounds-begin len q k n [] h) (padded (summary q) not_begun k n (rounds q n []) h)

  -- there is one for each wanted route
  pub summaries-enough : (k : ℕ) (rs : List Ending) → k ≤ length (summaries q k rs)
  unfolding summaries
  summaries-enough k rs =
      omega (arith, length-append (map (summary q) rs) (replicate (k - length rs) not_begun), length-map rs (summary q), length-replicate (k - length rs) not_begun)

  module _ (v : Valid q) where
    -- the answer is no longer than what is eligible
    pub answer-shortest : (earlier : List (List ℕ)) (w p : List ℕ) → answer q earlier ≡ some w → Eligible q earlier p → len w ≤ len p
    answer-shortest earlier w p e h =
        ⊎_elim (λ i. omega (arith, ap len i)) (before-most len w p) ((answer-some q earlier v w e).precedes-all p h)

    -- ---- lengths

    pub never-fall : (k : ℕ) (earlier : List (List ℕ)) → NeverFall q.net.arcs (answers (rounds q k earlier))
    unfolding rounds_by go_on answers
    never-fall zero earlier = tt
    never-fall (suc k) earlier = go (ending q earlier) refl (λ p. never-fall k (earlier ++ (p ∷ [])))
      where
        go : (z : Ending) → ending q earlier ≡ z → ((p : List ℕ) → NeverFall q.net.arcs (answers (rounds q k (earlier ++ (p ∷ [])))))
            → NeverFall q.net.arcs (answers (go_on z (λ p. rounds q k (earlier ++ (p ∷ [])))))
        go (answered p n) e below = (
          λ r m. answer-shortest earlier p r (ending-answered q earlier v len p n e).0
              (fewer-eligible len q v earlier (p ∷ []) r (answers-eligible len q v k (earlier ++ (p ∷ [])) r m)),
          below p,
        )
        go (unanswered n) e below = tt
        go refused e below = tt

    -- ---- the second route

    -- whatever is eligible after the first answer, there is a second answer, and it is no longer
    pub second-within : (k : ℕ) (p w : List ℕ) → 2 ≤ k → (EndsIn11 q k → ⊥) → answer q [] ≡ some p → Eligible q (p ∷ []) w → SecondWithin q k (len w)
    second-within zero p w h n e f = absurd (omega arith)
    second-within (suc zero) p w h n e f = absurd (omega arith)
    second-within (suc (suc k)) p w h n e f = go (not-refused len q v (suc k) 1 [] p e n) (answer q (p ∷ [])) refl
      where
        go : (answers_for q (suc (suc k)) ≡ p ∷ answers (rounds q (suc k) (p ∷ []))) × ((told 2 (rounds q (suc k) (p ∷ []))).outcome ≡ room → ⊥)
            → (o : Option (List ℕ)) → answer q (p ∷ []) ≡ o → SecondWithin q (suc (suc k)) (len w)
        go r none g = absurd (answer-none q (p ∷ []) v g w f)
        go r (some x) g =
            record {
              first = p;
              second = x;
              further = answers (rounds q k (p ∷ x ∷ []));
              exists = r.0 ∙ ap (λ l. p ∷ l) (not-refused len q v k 2 (p ∷ []) x g r.1).0;
              no_longer = answer-shortest (p ∷ []) x w g f;
            }

-- a greater threshold permits what a smaller one does
greater-within : (q : Query) (a b o l : ℕ) → 0 < q.b → Greater q a b → q.b * o ≤ q.a * l → b * o ≤ a * l
greater-within q a b o l pos le h =
    le_of_mul-le-mul_left {k = q.b} (omega (arith, mul-le-mul_left b h, mul-le-mul_left l le)) pos

pub looser : (q : Query) → Valid q → (a b labels k n : ℕ) (p w : List ℕ) (ps : List (List ℕ)) → 0 < q.b → Greater q a b → answers_for q k ≡ p ∷ w ∷ ps
    → 2 ≤ n → (EndsIn11 (at q a b labels) n → ⊥) → SecondWithin (at q a b labels) n (length_of q.net.arcs w)
unfolding answer
looser q v a b labels k n p w ps pos le e two fits =
    let f = length_of q.net.arcs in
    let one = first-answer f q v k [] p (w ∷ ps) e in
    let sec = first-answer f q v one.1 (p ∷ []) w ps one.3 in
    let h = (answer-some q (p ∷ []) v w sec.0).is-eligible in
    second-within (at q a b labels) (record { s-below = v.s-below; sound = v.sound }) n p w two fits one.0
    (record { is-partial = h.is-partial; ends = h.ends; is_within = λ x m. greater-within q a b (overlap q.net w x) (f x) pos le (h.is_within x m) })

pub longer : (q : Query) → Valid q → Longer q
longer q v =
    record {
      begins = λ k n. answers-begin (length_of q.net.arcs) q k n [];
      begins-summaries = summaries-begin q;
      never-fall = λ k. never-fall q v k [];
      looser = looser q v;
    }
