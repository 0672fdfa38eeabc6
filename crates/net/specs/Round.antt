-- Rule 6 and the label counts of document 01: one round, after the earlier answers.
use mathlib.Core.List.{List, [], ◌∷◌, ◌++◌, head?}
use Rattle.std.proofs.Math.Option.{Option, none, some}
use Rattle.std.specs.Prelude.{Bool, true, false, not, ◌&&◌, ℕ, ◌+◌, ◌*◌, ◌/◌, ltb, leb, eqb, length}
use Rattle.lists.specs.Tests.{every, any, keep}
use Rattle.net.specs.Net.{Net}
use Rattle.net.specs.Route.{end_of, length_of, before, precedes, overlap, within, partials_by, partials}

-- What is asked: routes from s to t at the threshold a/b, with room for so many labels. How many, k, stands beside it: no round depends on it.
pub record Query : Type 0 where
  pub net : Net
  pub s : ℕ
  pub t : ℕ
  pub a : ℕ
  pub b : ℕ
  pub room : ℕ

-- "within the threshold of every earlier answer"
unfoldable pub within_all : Query → List (List ℕ) → List ℕ → Bool
unfolding every within
within_all q earlier p = every (within q.net q.a q.b p) earlier

-- The routes "among those within the threshold of every earlier answer", in the order of rule 3.
unfoldable pub eligible : Query → List (List ℕ) → List (List ℕ)
unfolding keep within_all end_of partials_by
eligible q earlier = keep (λ p. eqb (end_of q.net.arcs q.s p) q.t && within_all q earlier p) (partials q.net q.s)

-- Rule 6. "Each round answers the route that precedes all others among those within the threshold of every earlier answer."
unfoldable pub answer : Query → List (List ℕ) → Option (List ℕ)
unfolding eligible
answer q earlier = head? (eligible q earlier)

-- "no greater overlap with each earlier route"
unfoldable pub no_greater : Query → List (List ℕ) → List ℕ → List ℕ → Bool
unfolding every overlap
no_greater q earlier r p = every (λ e. leb (overlap q.net r e) (overlap q.net p e)) earlier

-- "another partial route to the same node precedes it and has no greater overlap with each earlier route"
unfoldable pub beats : Query → List (List ℕ) → List ℕ → List ℕ → Bool
unfolding end_of before no_greater
beats q earlier r p =
    eqb (end_of q.net.arcs q.s r) (end_of q.net.arcs q.s p) && precedes q.net.arcs r p && no_greater q earlier r p

-- "a partial route that is within the threshold of all earlier routes is live unless another ..."
unfoldable pub live : Query → List (List ℕ) → List ℕ → Bool
unfolding within_all any beats partials_by
live q earlier p = within_all q earlier p && not (any (λ r. beats q earlier r p) (partials q.net q.s))

-- The live partial routes, in the order by f.
unfoldable pub lives_by : (List ℕ → ℕ) → Query → List (List ℕ) → List (List ℕ)
unfolding keep live partials_by
lives_by f q earlier = keep (live q earlier) (partials_by f q.net q.s)

-- In the order of rule 3.
abbrev pub lives : Query → List (List ℕ) → List (List ℕ)
lives q = lives_by (length_of q.net.arcs) q

-- What the label count counts: "live partial routes that precede the answer, and one for the answer itself. Where rule 6 gives the round no answer [...] all
-- live partial routes." Those that precede the answer are those before it in the order of rule 3; a search may also go by another order f.
unfoldable pub counted_with : (List ℕ → ℕ) → Query → List (List ℕ) → Option (List ℕ) → List (List ℕ)
unfolding lives_by keep before
counted_with f q earlier none = lives_by f q earlier
counted_with f q earlier (some w) = keep (λ p. before f p w) (lives_by f q earlier) ++ (w ∷ [])

unfoldable pub counted_by : (List ℕ → ℕ) → Query → List (List ℕ) → List (List ℕ)
unfolding answer counted_with
counted_by f q earlier = counted_with f q earlier (answer q earlier)

abbrev pub counted : Query → List (List ℕ) → List (List ℕ)
counted q = counted_by (length_of q.net.arcs) q

-- "The label count of a round"
unfoldable pub count_by : (List ℕ → ℕ) → Query → List (List ℕ) → ℕ
unfolding counted_by
count_by f q earlier = length (counted_by f q earlier)

abbrev pub count : Query → List (List ℕ) → ℕ
count q = count_by (length_of q.net.arcs) q

-- "the product, over earlier routes p, of (1 + whole part of a × length(p) / b). With no earlier route the product is one."
unfoldable pub choices : Query → List (List ℕ) → ℕ
unfolding length_of
choices q [] = 1
choices q (p ∷ ps) = (1 + q.a * length_of q.net.arcs p / q.b) * choices q ps

-- The ways in which a round ends, with its label count.
pub data Ending : Type 0 where
  answered : List ℕ → ℕ → Ending
  unanswered : ℕ → Ending
  refused : Ending

unfoldable pub judged : Bool → ℕ → Option (List ℕ) → Ending
judged true n w = refused
judged false n none = unanswered n
judged false n (some p) = answered p n

-- "A round is judged for 11 by this number, with the answer that rule 6 gives it": 11 where the "label count exceeds the room".
unfoldable pub ending_by : (List ℕ → ℕ) → Query → List (List ℕ) → Ending
unfolding judged count_by answer
ending_by f q earlier = judged (ltb q.room (count_by f q earlier)) (count_by f q earlier) (answer q earlier)

abbrev pub ending : Query → List (List ℕ) → Ending
ending q = ending_by (length_of q.net.arcs) q
