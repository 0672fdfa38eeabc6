-- "A plan is stored from slots, their number and width given, in an area of exactly that many words" (document 01, "Forms that later requests use").
use Rattle.std.specs.Prelude.{Bool, not, ◌&&◌, ◌||◌, List, map, ℕ, ◌*◌, ltb, leb, eqb, length, get_or, take, drop}
use Rattle.lists.specs.Tests.{up_from, every, any}
use Rattle.lists.specs.Index.{first_at}
use Rattle.words.specs.Part.{slot}
use Rattle.net.specs.Limits.{most_routes, most_arcs}
use Rattle.labels.specs.Field.{no_number}

-- "at most 65,535 to a slot"
abbrev pub most_width : ℕ
most_width = 65535

-- "after a route's arcs a slot holds only 4,294,967,295": how many arcs stand before the first such word.
unfoldable pub arcs_in : List ℕ → ℕ
unfolding first_at
arcs_in words = first_at (λ m. eqb (get_or words m 0) no_number) (length words) 0

abbrev pub route_in : List ℕ → List ℕ
route_in words = take (arcs_in words) words

-- 17: "an empty one, slots out of form or such an arc number", that is, one above 262,143 (02.11).
unfoldable pub wrong_slot : List ℕ → Bool
unfolding arcs_in every
wrong_slot words =
    eqb (arcs_in words) 0 || not (every (λ a. ltb a most_arcs) (route_in words)) || not (every (λ a. eqb a no_number) (drop (arcs_in words) words))

-- 17: "plan number zero, or on storing not 1 to" 12 "routes, an empty one, slots out of form or such an arc number"
unfoldable pub wrong_request : ℕ → List ℕ → ℕ → ℕ → Bool
unfolding any up_from wrong_slot slot
wrong_request plan slots routes width =
    eqb plan 0 || not (leb 1 routes && leb routes most_routes) || ltb most_width width || not (eqb (length slots) (routes * width))
    || any (λ r. wrong_slot (slot width r slots)) (up_from 0 routes)

-- The routes in the slots, by rank.
unfoldable pub routes_in : List ℕ → ℕ → ℕ → List (List ℕ)
unfolding arcs_in slot up_from
routes_in slots routes width = map (λ r. route_in (slot width r slots)) (up_from 0 routes)
