-- Rule 7 of document 01 and what a query shows, as far as it needs no bytes: outcomes 0, 1, 7, 8, 9 and 11.
use Rattle.std.specs.Prelude.{List, [], ◌∷◌, ◌++◌, map, not, ◌&&◌, cond, ℕ, zero, suc, ◌-◌, ltb, leb, eqb, length, replicate}
use Rattle.outcome.specs.declared.Told.{Told}
use Rattle.outcome.specs.Outcome.{found, fewer, ends, routes, threshold, room, plain, beside}
use Rattle.net.specs.Limits.{most_routes, most_b}
use Rattle.net.specs.Route.{length_of}
use Rattle.net.specs.Round.{Query, Ending, answered, unanswered, refused, ending_by}

-- The rounds that follow one that ended so: those after its answer, if it has one.
unfoldable pub go_on : Ending → (List ℕ → List Ending) → List Ending
go_on (answered p n) on = answered p n ∷ on p
go_on (unanswered n) on = unanswered n ∷ []
go_on refused on = refused ∷ []

-- Rule 7. "The query ends after k answers, or after the first round that has none." The rounds still to make, after the earlier answers.
unfoldable pub rounds_by : (List ℕ → ℕ) → Query → ℕ → List (List ℕ) → List Ending
unfolding ending_by go_on
rounds_by f q zero earlier = []
rounds_by f q (suc k) earlier = go_on (ending_by f q earlier) (λ p. rounds_by f q k (earlier ++ (p ∷ [])))

abbrev pub rounds : Query → ℕ → List (List ℕ) → List Ending
rounds q = rounds_by (length_of q.net.arcs) q

-- "holding length, number of arcs and label count"
pub record Summary : Type 0 where
  pub len : ℕ
  pub arcs : ℕ
  pub labels : ℕ

-- "A round without an answer has length 0 and arcs 0, and its label count; under 11 that count is the room."
unfoldable pub summary : Query → Ending → Summary
unfolding length_of
summary q (answered p n) = record { len = length_of q.net.arcs p; arcs = length p; labels = n }
summary q (unanswered n) = record { len = 0; arcs = 0; labels = n }
summary q refused = record { len = 0; arcs = 0; labels = q.room }

-- "Rounds not begun have three zeros."
abbrev pub not_begun : Summary
not_begun = record { len = 0; arcs = 0; labels = 0 }

unfoldable pub summaries : Query → ℕ → List Ending → List Summary
unfolding summary
summaries q k rs = map (summary q) rs ++ replicate (k - length rs) not_begun

-- The answers, round by round.
unfoldable pub answers : List Ending → List (List ℕ)
answers [] = []
answers (answered p n ∷ rs) = p ∷ answers rs
answers (unanswered n ∷ rs) = answers rs
answers (refused ∷ rs) = answers rs

-- 0: "k routes found"; 1: "fewer than k, and no further one exists"; 11: "a round's label count exceeds the room", and "the number of the refused round is
-- returned". The rounds are those from number i on.
unfoldable pub told : ℕ → List Ending → Told
told i [] = plain found
told i (answered p n ∷ rs) = told (suc i) rs
told i (unanswered n ∷ rs) = plain fewer
told i (refused ∷ rs) = beside room i

-- 7: "s or t is not below the node count, or s = t"; 8: "k is outside its limits"; 9: "the threshold is outside its limits"; in this order. 0: none of them.
unfoldable pub refusal : Query → ℕ → ℕ
refusal q k =
    cond (not (ltb q.s q.net.nodes && ltb q.t q.net.nodes && not (eqb q.s q.t))) ends
    (cond (not (leb 1 k && leb k most_routes)) routes
    (cond (not (leb 1 q.b && leb q.b most_b && ltb q.a q.b)) threshold 0))

pub record Reply : Type 0 where
  pub told : Told
  pub routes : List (List ℕ)
  pub summaries : List Summary

-- What a query for k routes shows: a refusal, or what its rounds make.
unfoldable pub reply_to : Query → ℕ → ℕ → List Ending → Reply
unfolding told answers summaries
reply_to q k zero rs = record { told = told 1 rs; routes = answers rs; summaries = summaries q k rs }
reply_to q k (suc n) rs = record { told = plain (suc n); routes = []; summaries = [] }

unfoldable pub reply_by : (List ℕ → ℕ) → Query → ℕ → Reply
unfolding refusal rounds_by reply_to
reply_by f q k = reply_to q k (refusal q k) (rounds_by f q k [])

abbrev pub reply : Query → ℕ → Reply
reply q = reply_by (length_of q.net.arcs) q
