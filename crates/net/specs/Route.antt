-- Rules 1 to 5 of document 01's definition. A chain is the list of its arc numbers, from the start.
use mathlib.Core.List.{List, [], ◌∷◌, ◌++◌, map, flat_map}
use Rattle.std.specs.Prelude.{Bool, true, false, not, ◌&&◌, ℕ, zero, suc, pred, ◌+◌, ◌*◌, ltb, leb, eqb, length}
use Rattle.lists.specs.Tests.{has, distinct, lex, up_from, keep}
use Rattle.net.specs.Net.{Arc, Net, arc}

-- The nodes that a chain from s visits, and the one it ends at.
unfoldable pub visited : List Arc → ℕ → List ℕ → List ℕ
visited arcs s p = s ∷ map (λ a. (arc arcs a).to) p

unfoldable pub end_of : List Arc → ℕ → List ℕ → ℕ
end_of arcs s [] = s
end_of arcs s (a ∷ p) = end_of arcs (arc arcs a).to p

-- Arc a is one of the net's, may be used, and leaves node v.
unfoldable pub leaves : Net → ℕ → ℕ → Bool
leaves net v a = ltb a (length net.arcs) && net.usable a && eqb (arc net.arcs a).from v

-- "a chain of arcs from s": each leaves the node that the one before it comes to, the first s.
unfoldable pub chain : Net → ℕ → List ℕ → Bool
unfolding leaves
chain net s [] = true
chain net s (a ∷ p) = leaves net s a && chain net (arc net.arcs a).to p

-- Rule 1. "A partial route is a chain of arcs from s that visits no node twice. The empty chain at s is one."
unfoldable pub partial : Net → ℕ → List ℕ → Bool
unfolding chain distinct visited
partial net s p = chain net s p && distinct (visited net.arcs s p)

-- "A route is a partial route that ends at t."
unfoldable pub route : Net → ℕ → ℕ → List ℕ → Bool
unfolding partial end_of
route net s t p = partial net s p && eqb (end_of net.arcs s p) t

-- Rule 2. "Its length is the sum of its arcs' lengths."
unfoldable pub length_of : List Arc → List ℕ → ℕ
length_of arcs [] = 0
length_of arcs (a ∷ p) = (arc arcs a).len + length_of arcs p

-- Rule 3. "One partial route precedes another if it is shorter; at equal length, if its arc numbers come first, compared from the start as numbers."
unfoldable pub numbers_first : List ℕ → List ℕ → Bool
unfolding lex
numbers_first p [] = false
numbers_first [] (b ∷ q) = true
numbers_first (a ∷ p) (b ∷ q) = lex a b (numbers_first p q)

-- p comes before q in the order by f: f gives it the smaller number; at equal numbers, its arc numbers come first.
unfoldable pub before : (List ℕ → ℕ) → List ℕ → List ℕ → Bool
unfolding lex numbers_first
before f p q = lex (f p) (f q) (numbers_first p q)

abbrev pub precedes : List Arc → List ℕ → List ℕ → Bool
precedes arcs = before (length_of arcs)

-- Rule 4. "The overlap of a partial route q with an earlier route p is the sum of the lengths of arcs, by number, that stand on both."
unfoldable pub overlap : Net → List ℕ → List ℕ → ℕ
unfolding length_of keep
overlap net q p = length_of net.arcs (keep (net.drives p) q)

-- Rule 5. "q is within the threshold of p if b times overlap is at most a times the length of p. Equality is within."
unfoldable pub within : Net → ℕ → ℕ → List ℕ → List ℕ → Bool
unfolding overlap length_of
within net a b q p = leb (b * overlap net q p) (a * length_of net.arcs p)

-- ---- All partial routes, listed: those of no arc, of one arc more, and so on, and then put in order.

-- The arcs that leave node v, by number.
unfoldable pub leaving : Net → ℕ → List ℕ
unfolding leaves keep up_from
leaving net v = keep (leaves net v) (up_from 0 (length net.arcs))

-- p with one arc more, to a node not yet visited.
unfoldable pub extensions : Net → ℕ → List ℕ → List (List ℕ)
unfolding end_of visited keep has leaving
extensions net s p = map (λ a. p ++ (a ∷ [])) (keep (λ a. not (has (arc net.arcs a).to (visited net.arcs s p))) (leaving net (end_of net.arcs s p)))

-- The chains ps, and all that extend them by up to n arcs.
unfoldable pub grow : Net → ℕ → ℕ → List (List ℕ) → List (List ℕ)
unfolding flat_map extensions
grow net s zero ps = ps
grow net s (suc n) ps = ps ++ grow net s n (flat_map (extensions net s) ps)

-- p before q, or behind it as `below` says, or, where it is q, not at all.
unfoldable pub place : Bool → Bool → List ℕ → List ℕ → List (List ℕ) → List (List ℕ) → List (List ℕ)
place true later p q qs below = p ∷ q ∷ qs
place false true p q qs below = q ∷ below
place false false p q qs below = q ∷ qs

unfoldable pub insert : (List ℕ → ℕ) → List ℕ → List (List ℕ) → List (List ℕ)
unfolding before place
insert f p [] = p ∷ []
insert f p (q ∷ qs) = place (before f p q) (before f q p) p q qs (insert f p qs)

-- In the order by f, each once.
unfoldable pub in_order : (List ℕ → ℕ) → List (List ℕ) → List (List ℕ)
unfolding insert
in_order f [] = []
in_order f (p ∷ ps) = insert f p (in_order f ps)

-- Every partial route from s, in the order by f: one that visits no node twice has fewer arcs than there are nodes.
unfoldable pub partials_by : (List ℕ → ℕ) → Net → ℕ → List (List ℕ)
unfolding grow in_order
partials_by f net s = in_order f (grow net s (pred net.nodes) ([] ∷ []))

-- In the order of rule 3.
abbrev pub partials : Net → ℕ → List (List ℕ)
partials net = partials_by (length_of net.arcs) net
