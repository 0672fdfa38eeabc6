-- The start and the end of a query's rounds. At the start nothing is made and all is to come. At the end nothing is to come, so what was made are the query's
-- rounds: the answered ones, and the last one, if it was not.
use mathlib.Core.Path.{◌≡◌, refl, sym, ap, ◌∙◌}
use mathlib.Core.Logic.{◌≢◌}
use mathlib.Core.List.{List, [], ◌∷◌, ◌++◌, map, append-nil}
use Prim.Native.Nat.{ℕ, zero, suc, ◌+◌, ◌-◌, ◌≤◌, ◌<◌}
use native.Mathlib.Omega.{arith}
use lib.ListN.{length, get_or, replicate}
use Rattle.lists.specs.Tests.{up_from}
use Rattle.words.specs.Part.{slot}
use Rattle.net.specs.Limits.{most_routes}
use Rattle.net.specs.Round.{Query, Ending, answered, unanswered, refused, ending}
use Rattle.net.specs.Outcome.{go_on, rounds_by, rounds, told, answers}
use Rattle.outcome.specs.declared.Told.{Told}
use Rattle.outcome.specs.Outcome.{room, beside}
use Rattle.labels.specs.Field.{no_number}
use Rattle.search_ask.specs.Earlier.{route_in, earlier_in}
use Rattle.query_rounds.specs.Area.{area_with}
use Rattle.query_rounds.specs.Finished.{Finished}
use Rattle.query_rounds.specs.Progress.{Progress, progress, as_record, answered_in, last_round, to_come, made_in, Underway, outcome_at}
use Rattle.query_rounds.specs.declared.Got.{Got}
use Rattle.query_rounds.specs.declared.Stage.{Stage}
use Rattle.query_rounds.specs.declared.Stage.TheVariants.{GoesOn, Found, Fewer, NoRoom}
use Rattle.query_rounds.proofs.SumsLaws.{shows_first}

abbrev pub at_start : Progress
at_start = progress 0 GoesOn (replicate most_routes 0) (replicate most_routes 0) (replicate most_routes 0)

pub underway-start : (q : Query) (w k : ℕ) (area : List ℕ) → 1 ≤ k → ((j : ℕ) → j < k → slot w j area ≡ replicate w no_number) → Underway q w k area at_start
unfolding answered_in earlier_in up_from
underway-start q w k area h blank =
    let n : k - 0 ≡ k = omega arith in
    record {
      going = λ e. h;
      few = omega arith;
      rows = (refl, refl, refl);
      earlier = record {
        few = omega arith;
        slots = omega arith;
        formed = λ j h. absurd (omega arith);
        enough = omega arith;
        lengths = λ j i. absurd (omega arith);
        most = λ j i. absurd (omega arith);
      };
      blank = λ j a b. blank j b;
      made = ap (λ m. rounds q m []) n;
      sums = refl;
    }

-- ---- answered rounds, one after the other

module _ (f : ℕ → List ℕ) (g : ℕ → ℕ) where
  told-answered : (i a n : ℕ) (rest : List Ending) → told i (map (λ j. answered (f j) (g j)) (up_from a n) ++ rest) ≡ told (i + n) rest
  unfolding told up_from
  told-answered i a zero rest =
      let e : i ≡ i + 0 = omega arith in
      ap (λ m. told m rest) e
  told-answered i a (suc n) rest =
      let e : suc i + n ≡ i + suc n = omega arith in
      told-answered (suc i) (suc a) n rest ∙ ap (λ m. told m rest) e

  answers-answered : (a n : ℕ) (rest : List Ending) → answers (map (λ j. answered (f j) (g j)) (up_from a n) ++ rest) ≡ map f (up_from a n) ++ answers rest
  unfolding answers up_from
  answers-answered a zero rest = refl
  answers-answered a (suc n) rest = ap (λ l. f a ∷ l) (answers-answered (suc a) n rest)

-- a query makes at most k rounds
pub rounds-few : (q : Query) (k : ℕ) (earlier : List (List ℕ)) → length (rounds q k earlier) ≤ k
unfolding rounds_by go_on
rounds-few q zero earlier = omega arith
rounds-few q (suc k) earlier = go (ending q earlier) (λ p. rounds-few q k (earlier ++ (p ∷ [])))
  where
    go : (z : Ending) → ((p : List ℕ) → length (rounds q k (earlier ++ (p ∷ []))) ≤ k) → length (go_on z (λ p. rounds q k (earlier ++ (p ∷ [])))) ≤ suc k
    go (answered p n) below = omega (arith, below p)
    go (unanswered n) below = omega arith
    go refused below = omega arith

-- what the last round tells, after r answered ones
told-last : (s : Stage) (x : Progress) → s ≢ GoesOn → told (1 + x.r) (last_round s x) ≡ outcome_at s x.r
unfolding told
told-last GoesOn x h = absurd (h refl)
told-last Found x h = refl
told-last Fewer x h = refl
told-last NoRoom x h =
    let e : 1 + x.r ≡ x.r + 1 = omega arith in
    ap {B = Told} (λ n. beside room n) e

answers-last : (s : Stage) (x : Progress) → answers (last_round s x) ≡ []
unfolding answers
answers-last GoesOn x = refl
answers-last Found x = refl
answers-last Fewer x = refl
answers-last NoRoom x = refl

none-to-come : (s : Stage) (q : Query) (k : ℕ) (e : List (List ℕ)) (x : Progress) → s ≢ GoesOn → to_come s q k e x ≡ []
none-to-come GoesOn q k e x h = absurd (h refl)
none-to-come Found q k e x h = refl
none-to-come Fewer q k e x h = refl
none-to-come NoRoom q k e x h = refl

pub finished : (q : Query) (w k : ℕ) (labels area₀ area : List ℕ) (x : Progress) (g : Got) (labels' : List ℕ) → k ≤ most_routes → Underway q w k area x → x.stage ≢ GoesOn
    → area ≡ area_with w k area₀ (earlier_in w x.r area) → g.told ≡ outcome_at x.stage x.r → g.sums ≡ x.sums → g.n ≡ k → labels' ≡ replicate (length labels) 0 → Finished q w k labels area₀ g labels' area
unfolding answered_in earlier_in
finished q w k labels area₀ area x g labels' h u late slots tells sums all cleared =
    let f : ℕ → List ℕ = λ j. route_in (slot w j area) in
    let n : ℕ → ℕ = λ j. get_or x.sums.labels j 0 in
    let made : rounds q k [] ≡ made_in w area x =
    sym (sym (append-nil (made_in w area x)) ∙ ap (λ l. made_in w area x ++ l) (sym (none-to-come x.stage q k (earlier_in w x.r area) x late)) ∙ u.made) in
    let e : answers (rounds q k []) ≡ earlier_in w x.r area =
    ap answers made ∙ answers-answered f n 0 x.r (last_round x.stage x) ∙ ap (λ l. map f (up_from 0 x.r) ++ l) (answers-last x.stage x) ∙ append-nil (map f (up_from 0 x.r)) in
    record {
      told = tells ∙ sym (ap (told 1) made ∙ told-answered f n 1 0 x.r (last_round x.stage x) ∙ told-last x.stage x late);
      labels = cleared;
      area = slots ∙ ap (area_with w k area₀) (sym e);
      all = all;
      sums = ap (λ t. Rattle.summary.specs.Sums.firsts t k) sums
          ∙ shows_first q x.sums (made_in w area x) k u.sums (omega (arith, ap length made, rounds-few q k [])) h
          ∙ ap (λ rs. map as_record (Rattle.net.specs.Outcome.summaries q k rs)) (sym made);
    }
