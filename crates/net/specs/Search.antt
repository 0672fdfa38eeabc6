-- What the search of one round looks at: chains that extend its labels by one arc, taken in the order by f. `taken` are the chains of its labels, `last` is the
-- chain last looked at. By `length_of` the order is that of rule 3.
use mathlib.Core.List.{List, [], ◌∷◌, ◌++◌, map, flat_map}
use Rattle.std.specs.Prelude.{Bool, not, ◌&&◌, ℕ, suc, ◌+◌, ◌-◌, ◌*◌, eqb, length}
use Rattle.lists.specs.Tests.{any, keep}
use Rattle.net.specs.Net.{Net}
use Rattle.net.specs.Route.{end_of, before, leaving}
use Rattle.net.specs.Round.{Query, within_all, no_greater, lives_by}

-- A candidate is a label's chain with an arc more that leaves its end. It may visit a node twice: such a one is covered.
unfoldable pub candidates : Net → ℕ → List (List ℕ) → List (List ℕ)
unfolding flat_map leaving end_of
candidates net s taken = flat_map (λ p. map (λ a. p ++ (a ∷ [])) (leaving net (end_of net.arcs s p))) taken

-- Those that come after `last`.
unfoldable pub waiting : (List ℕ → ℕ) → Net → ℕ → List (List ℕ) → List ℕ → List (List ℕ)
unfolding keep before candidates
waiting f net s taken last = keep (before f last) (candidates net s taken)

-- A label at the end of c has no greater overlap with each earlier route.
unfoldable pub covered : Query → List (List ℕ) → List (List ℕ) → List ℕ → Bool
unfolding any end_of no_greater
covered q earlier taken c = any (λ r. eqb (end_of q.net.arcs q.s r) (end_of q.net.arcs q.s c) && no_greater q earlier r c) taken

-- c passes both tests: it is within every threshold, and no label covers it.
unfoldable pub passes : Query → List (List ℕ) → List (List ℕ) → List ℕ → Bool
unfolding within_all covered
passes q earlier taken c = within_all q earlier c && not (covered q earlier taken c)

-- The live partial routes that do not come after `last`.
unfoldable pub up_to : (List ℕ → ℕ) → Query → List (List ℕ) → List ℕ → List (List ℕ)
unfolding keep before lives_by
up_to f q earlier last = keep (λ p. not (before f last p)) (lives_by f q earlier)

-- A number that falls with each turn, while there are at most `room` labels: a turn leaves fewer waiting, or takes up a chain, which brings at most an arc's
-- candidate each.
unfoldable pub left : (List ℕ → ℕ) → Net → ℕ → ℕ → List (List ℕ) → List ℕ → ℕ
unfolding waiting
left f net s room taken last = (room - length taken) * suc (length net.arcs) + length (waiting f net s taken last)
