-- Demands 2 and 3 of the memory that the call leaves, from its contract alone. By induction over the rounds, what is told and the summaries are functions of the
-- answers; that each answer is rule 6's is demand 2.
use mathlib.Core.Path.{◌≡◌, refl, sym, ap, ap₂, subst, ◌∙◌}
use mathlib.Core.Logic.{◌⊎◌, inl, inr}
use mathlib.Core.Bool.{Bool, true, false, cond}
use mathlib.Core.Option.{Option, none, some}
use mathlib.Core.List.{List, [], ◌∷◌, ◌++◌, map, append_assoc, append-nil}
use Prim.Native.Nat.{ℕ, zero, suc, ◌+◌, ◌-◌, ◌*◌, ◌≤◌, ◌<◌}
use native.Mathlib.Omega.{arith}
use borrow.Author.Tests.{ltb-true, ltb-false}
use lib.Dec.{ltb}
use lib.ListN.{length, get_or, take, drop, replicate}
use Rattle.words.specs.Part.{slot}
use Rattle.outcome.specs.declared.Told.{Told}
use Rattle.outcome.specs.Outcome.{found, fewer, room, plain, beside}
use Rattle.net.specs.Round.{Query, Ending, answered, judged, ending_by, answer, count}
use Rattle.net.specs.Outcome.{told, go_on, answers, rounds_by, rounds, summary, summaries, not_begun}
use Rattle.net.proofs.Valid.{Valid}
use Rattle.net.proofs.Listing.{partial-short}
use Rattle.net.proofs.Answer.{eligible-of, of-eligible, answer-some, answer-none}
use Rattle.labels.specs.Chain.{slot_of}
use Rattle.search_ask.proofs.AskLaws.{accepted-valid}
use Rattle.summary.specs.declared.Summary.{Summary}
use Rattle.query_rounds.specs.Area.{area_with}
use Rattle.query_rounds.specs.Progress.{as_record}
use Rattle.query_rounds.proofs.AreaLaws.{slots_at}
use Rattle.query.specs.Query.{Input, query_of, width, reaches, rounds_of, tells_due, labels_due, area_due, sums_due, refused_of, Replied}
use Rattle.query.specs.Promises.{before}
use Rattle.query.specs.Whole.{Answers, Ends, sums_for, Whole}
use Rattle.query.proofs.DecideLaws.{passed}
use Rattle.query.proofs.Promises.{demand-2, reached}

module _ (q : Query) where
  -- what is told after earlier answers and those of the rounds from number n on
  abbrev Told-by : ℕ → ℕ → List (List ℕ) → List (List ℕ) → Told → Type 0
  Told-by n k earlier rs x =
      ((x ≡ plain found) × (length rs ≡ k))
      ⊎ (((x ≡ plain fewer) × (length rs < k) × (answer q (earlier ++ rs) ≡ none) × (count q (earlier ++ rs) ≤ q.room))
      ⊎ ((x ≡ beside room (n + length rs)) × (length rs < k) × (q.room < count q (earlier ++ rs))))

  told_more : (n k : ℕ) (earlier : List (List ℕ)) (p : List ℕ) (rs : List (List ℕ)) (x : Told) → Told-by (suc n) k (earlier ++ (p ∷ [])) rs x → Told-by n (suc k) earlier (p ∷ rs) x
  told_more n k earlier p rs x (inl w) = inl (w.0, ap suc w.1)
  told_more n k earlier p rs x (inr (inl w)) =
      let a = append_assoc earlier (p ∷ []) rs in
      inr (inl (w.0, omega (arith, w.1), ap (answer q) (sym a) ∙ w.2, subst (λ l. count q l ≤ q.room) a w.3))
  told_more n k earlier p rs x (inr (inr w)) =
      let e : suc n + length rs ≡ n + suc (length rs) = omega arith in
      inr (inr (w.0 ∙ ap (beside room) e, omega (arith, w.1), subst (λ l. q.room < count q l) (append_assoc earlier (p ∷ []) rs) w.2))

  told_is : (n k : ℕ) (earlier : List (List ℕ)) → Told-by n k earlier (answers (rounds q k earlier)) (told n (rounds q k earlier))
  unfolding rounds_by go_on answers told ending_by judged
  told_is n zero earlier = inl (refl, refl)
  told_is n (suc k) earlier = go (ltb q.room (count q earlier)) (answer q earlier) refl refl (λ p. told_is (suc n) k (earlier ++ (p ∷ [])))
    where
      on : List ℕ → List Ending
      on p = rounds q k (earlier ++ (p ∷ []))

      go : (b : Bool) (o : Option (List ℕ)) → ltb q.room (count q earlier) ≡ b → answer q earlier ≡ o
          → ((p : List ℕ) → Told-by (suc n) k (earlier ++ (p ∷ [])) (answers (rounds q k (earlier ++ (p ∷ [])))) (told (suc n) (rounds q k (earlier ++ (p ∷ [])))))
          → Told-by n (suc k) earlier (answers (go_on (judged b (count q earlier) o) on)) (told n (go_on (judged b (count q earlier) o) on))
      go true o e f below =
          let z : n ≡ n + 0 = omega arith in
          inr (inr (ap (beside room) z, omega arith, subst (λ l. q.room < count q l) (sym (append-nil earlier)) (ltb-true q.room (count q earlier) e)))
      go false none e f below =
          inr (inl (refl, omega arith, ap (answer q) (append-nil earlier) ∙ f, subst (λ l. count q l ≤ q.room) (sym (append-nil earlier)) (ltb-false q.room (count q earlier) e)))
      go false (some p) e f below = told_more n k earlier p (answers (on p)) (told (suc n) (on p)) (below p)

  sums-are : (k : ℕ) (earlier : List (List ℕ)) → summaries q k (rounds q k earlier) ≡ sums_for q k earlier (answers (rounds q k earlier))
  unfolding rounds_by go_on answers summaries summary sums_for ending_by judged
  sums-are zero earlier = refl
  sums-are (suc k) earlier = go (ltb q.room (count q earlier)) (answer q earlier) refl (λ p. sums-are k (earlier ++ (p ∷ [])))
    where
      on : List ℕ → List Ending
      on p = rounds q k (earlier ++ (p ∷ []))

      go : (b : Bool) (o : Option (List ℕ)) → ltb q.room (count q earlier) ≡ b
          → ((p : List ℕ) → summaries q k (rounds q k (earlier ++ (p ∷ []))) ≡ sums_for q k (earlier ++ (p ∷ [])) (answers (rounds q k (earlier ++ (p ∷ [])))))
          → summaries q (suc k) (go_on (judged b (count q earlier) o) on) ≡ sums_for q (suc k) earlier (answers (go_on (judged b (count q earlier) o) on))
      go true o e below =
          let z : suc k - 1 ≡ k = omega arith in
          ap₂ (λ b n. record { len = 0; arcs = 0; labels = cond b q.room (count q earlier) } ∷ replicate n not_begun) (sym e) z
      go false none e below =
          let z : suc k - 1 ≡ k = omega arith in
          ap₂ (λ b n. record { len = 0; arcs = 0; labels = cond b q.room (count q earlier) } ∷ replicate n not_begun) (sym e) z
      go false (some p) e below =
          let z : suc k - suc (length (on p)) ≡ k - length (on p) = omega arith in
          let s = summary q (answered p (count q earlier)) in
          ap (λ n. s ∷ (map (summary q) (on p) ++ replicate n not_begun)) z ∙ ap (λ l. s ∷ l) (below p)

module _ (i : Input) (h : reaches i ≡ true) where
  valid : Valid (query_of i)
  valid = let w = reached i h in accepted-valid (passed i w.0 w.1).ask i.closed i.labels

  answers-are : (j : ℕ) → j < length (answers (rounds_of i)) → Answers (query_of i) (before i j) (get_or (answers (rounds_of i)) j [])
  answers-are j m =
      let w = answer-some (query_of i) (before i j) valid (get_or (answers (rounds_of i)) j []) ((demand-2 i).each j m) in
      record {
        eligible = of-eligible (query_of i) (before i j) (get_or (answers (rounds_of i)) j []) w.is-eligible;
        first = λ r e. w.precedes-all r (eligible-of (query_of i) (before i j) r e);
      }

  ends-are : Ends (query_of i) i.k (answers (rounds_of i)) (told 1 (rounds_of i))
  ends-are = go (told_is (query_of i) 1 i.k [])
    where
      go : Told-by (query_of i) 1 i.k [] (answers (rounds_of i)) (told 1 (rounds_of i)) → Ends (query_of i) i.k (answers (rounds_of i)) (told 1 (rounds_of i))
      go (inl w) = inl w
      go (inr (inl w)) =
          inr (inl (w.0, w.1, (λ p e. answer-none (query_of i) (answers (rounds_of i)) valid w.2 p (eligible-of (query_of i) (answers (rounds_of i)) p e)), w.3))
      go (inr (inr w)) = inr (inr w)

  -- the whole promise of a query that was not refused
  pub whole : (x : Told) (labels' area' : List ℕ) (sums₀ sums' : List Summary) → Replied i x labels' area' sums₀ sums' → Whole i x labels' area' sums₀ sums'
  unfolding tells_due labels_due area_due sums_due
  whole x labels' area' sums₀ sums' r =
      record {
        routes = answers (rounds_of i);
        each = answers-are;
        ends = subst (Ends (query_of i) i.k (answers (rounds_of i))) (sym (r.told ∙ ap (λ b. cond b (told 1 (rounds_of i)) (refused_of i)) h)) ends-are;
        labels = r.labels ∙ ap (λ b. cond b (replicate (length i.labels) 0) i.labels) h;
        area = r.area ∙ ap (λ b. cond b (area_with (width i) i.k i.area (answers (rounds_of i))) i.area) h;
        sums =
            r.sums ∙ ap (λ b. cond b (map as_record (summaries (query_of i) i.k (rounds_of i)) ++ drop i.k sums₀) sums₀) h
            ∙ ap (λ l. map as_record l ++ drop i.k sums₀) (sums-are (query_of i) i.k []);
      }

  -- its routes are the answers of the rounds
  pub whole-routes : (x : Told) (labels' area' : List ℕ) (sums₀ sums' : List Summary) (r : Replied i x labels' area' sums₀ sums')
      → (whole x labels' area' sums₀ sums' r).routes ≡ answers (rounds_of i)
  unfolding whole
  whole-routes x labels' area' sums₀ sums' r = refl

  -- slot j holds the answer of round j, from 0, or nothing
  pub slot-holds : (x : Told) (labels' area' : List ℕ) (sums₀ sums' : List Summary) (w : Whole i x labels' area' sums₀ sums') (j : ℕ) → j < i.k
      → slot (width i) j area' ≡ slot_of (width i) (get_or w.routes j [])
  unfolding area_with
  slot-holds x labels' area' sums₀ sums' w j m =
      ap (slot (width i) j) w.area ∙ slots_at (width i) i.k w.routes (drop (i.k * width i) i.area) j short m
    where
      short : (n : ℕ) → n < length w.routes → length (get_or w.routes n []) ≤ width i
      short n l =
          let e = eligible-of (query_of i) (take n w.routes) (get_or w.routes n []) (w.each n l).eligible in
          let s = partial-short (query_of i).net (query_of i).s valid.s-below valid.sound.to_below (get_or w.routes n []) e.is-partial in
          omega (arith, s)
