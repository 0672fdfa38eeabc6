-- Via routes (02.9): the profile of a query.
use mathlib.Core.List.{List, [], ◌∷◌, ◌++◌, map, flat_map}
use Rattle.std.proofs.Math.Option.{Option, none, some}
use Rattle.std.specs.Prelude.{◌&&◌, cond, ℕ, ltb, length}
use Rattle.lists.specs.Tests.{keep, up_from}
use Rattle.net.specs.Net.{Net}
use Rattle.net.specs.Route.{partial, length_of, in_order}
use Rattle.net.specs.Round.{Query, within_all, answer, Ending, answered, unanswered}
use Rattle.net.specs.Outcome.{refusal, Reply, reply_to}

-- Rule 6 with no earlier route: a threshold and a room do not matter.
abbrev pub between : Net → ℕ → ℕ → Query
between net v w = record { net = net; s = v; t = w; a = 0; b = 1; room = 0 }

-- "the first route from" v to w. From a node to itself it is the empty chain.
unfoldable pub first_route : Net → ℕ → ℕ → Option (List ℕ)
unfolding answer
first_route net v w = answer (between net v w) []

-- "A node lacking either has no candidate."
unfoldable pub join : Option (List ℕ) → Option (List ℕ) → List (List ℕ)
join none r = []
join (some p) none = []
join (some p) (some r) = (p ++ r) ∷ []

-- "for each node, the first route from s to it joined to the first route from it to t"; "those that cross themselves [...] are passed over". Of s and of t
-- it is the first route from s to t.
unfoldable pub via_of : Net → ℕ → ℕ → ℕ → List (List ℕ)
unfolding keep partial join first_route
via_of net s t v = keep (partial net s) (join (first_route net s v) (first_route net v t))

-- "candidates taken in order of 01's rule 3"; "repeated ones are passed over"
unfoldable pub vias : Net → ℕ → ℕ → List (List ℕ)
unfolding in_order flat_map via_of up_from length_of
vias net s t = in_order (length_of net.arcs) (flat_map (via_of net s t) (up_from 0 net.nodes))

-- "each kept if within the threshold of all kept before, until k": what is kept in the end, where these are kept before and these candidates are left.
unfoldable pub kept_of : Query → ℕ → List (List ℕ) → List (List ℕ) → List (List ℕ)
unfolding within_all
kept_of q k before [] = before
kept_of q k before (c ∷ cs) = kept_of q k (cond (ltb (length before) k && within_all q before c) (before ++ (c ∷ [])) before) cs

unfoldable pub profile : Query → ℕ → List (List ℕ)
unfolding kept_of vias
profile q k = kept_of q k [] (vias q.net q.s q.t)

-- "The profile never ends in 11; its label counts are 0, and 1 means that no candidate is left": as rounds that end so, so that slots, summaries and the outcome
-- keep their definitions.
unfoldable pub via_rounds : Query → ℕ → List Ending
unfolding profile
via_rounds q k = map (λ p. answered p 0) (profile q k) ++ cond (ltb (length (profile q k)) k) (unanswered 0 ∷ []) []

unfoldable pub via_reply : Query → ℕ → Reply
unfolding refusal via_rounds reply_to
via_reply q k = reply_to q k (refusal q k) (via_rounds q k)
