-- The most different of the near-shortest (02.12): the list, the choice from it, and the refusals of its own.
use Rattle.std.specs.Prelude.{List, [], ◌∷◌, ◌++◌, map, Bool, not, ◌&&◌, cond, ℕ, zero, suc, ◌+◌, ◌-◌, ◌*◌, ltb, leb, eqb, length, get_or}
use Rattle.std.proofs.Math.Option.{Option, none, some}
use Rattle.lists.specs.Tests.{has, keep, up_from}
use Rattle.net.specs.Net.{Arc, Net}
use Rattle.net.specs.Limits.{most_d}
use Rattle.net.specs.Route.{end_of, length_of, partials_by, partials}
use Rattle.distances.specs.Distance.{distance}
use Rattle.outcome.specs.declared.Told.{Told}
use Rattle.outcome.specs.Outcome.{found, list_full, too_few, plain, beside}
use Rattle.products.specs.declared.Fraction.{Fraction}
use Rattle.variety.specs.Choice.{choices_of, best_of}

-- ---- The list.

-- "whose length times d is at most (d + c) times the shortest"; `most` is (d + c) times the shortest.
unfoldable pub in_range : List Arc → ℕ → ℕ → List ℕ → Bool
unfolding length_of
in_range arcs d most p = leb (length_of arcs p * d) most

unfoldable pub near_of : Net → ℕ → ℕ → ℕ → ℕ → Option ℕ → List (List ℕ)
unfolding keep end_of in_range partials_by
near_of net s t c d none = []
near_of net s t c d (some shortest) = keep (λ p. eqb (end_of net.arcs s p) t && in_range net.arcs d ((d + c) * shortest) p) (partials net s)

-- "list every simple route whose length times d is at most (d + c) times the shortest, in order of rule 3, each once"
unfoldable pub near : Net → ℕ → ℕ → ℕ → ℕ → List (List ℕ)
unfolding near_of distance
near net s t c d = near_of net s t c d (distance net s t)

-- ---- Dissimilarity.

-- "compared as whole-number fractions"
unfoldable pub less : Fraction → Fraction → Bool
less x y = ltb (x.over * y.under) (y.over * x.under)

-- "the shared length", "the length of the union, by arc"
unfoldable pub shared : List Arc → List ℕ → List ℕ → ℕ
unfolding length_of keep has
shared arcs p q = length_of arcs (keep (λ a. has a p) q)

unfoldable pub union : List Arc → List ℕ → List ℕ → ℕ
unfolding length_of keep has
union arcs p q = length_of arcs (p ++ keep (λ a. not (has a p)) q)

-- "Dissimilarity is one minus the shared length over the length of the union"
unfoldable pub apart : List Arc → List ℕ → List ℕ → Fraction
unfolding shared union
apart arcs p q = record { over = union arcs p q - shared arcs p q; under = union arcs p q }

-- "pairwise": of all pairs, the one of lower rank first.
unfoldable pub pairwise : List Arc → List (List ℕ) → List Fraction
unfolding apart
pairwise arcs [] = []
pairwise arcs (p ∷ ps) = map (apart arcs p) ps ++ pairwise arcs ps

unfoldable pub lower : Fraction → Fraction → Fraction
unfolding less
lower x y = cond (less y x) y x

-- "least"; of no pair it is one, which no dissimilarity exceeds.
unfoldable pub least : List Fraction → Fraction
unfolding lower
least [] = record { over = 1; under = 1 }
least (x ∷ xs) = lower x (least xs)

-- What a rank past the list names: no choice has it, and its length is positive as that of every route.
abbrev pub no_route : List ℕ
no_route = 0 ∷ []

unfoldable pub variety : List Arc → List (List ℕ) → List ℕ → Fraction
unfolding least pairwise
variety arcs list ranks = least (pairwise arcs (map (λ i. get_or list i no_route) ranks))

-- The ranks y are more different than the ranks x.
unfoldable pub varied : List Arc → List (List ℕ) → List ℕ → List ℕ → Bool
unfolding less variety
varied arcs list x y = less (variety arcs list x) (variety arcs list y)

-- "choose the k whose least pairwise dissimilarity is greatest [...] Of equal sets, the one whose ranks in the list come first wins."
unfoldable pub chosen : List Arc → List (List ℕ) → ℕ → Option (List ℕ)
unfolding varied best_of choices_of up_from
chosen arcs list k = best_of (varied arcs list) none (choices_of (up_from 0 (length list)) k)

-- ---- What is shown.

-- 22: "d outside 1 to 1,000 or c above d"
unfoldable pub range_wrong : ℕ → ℕ → Bool
range_wrong c d = not (leb 1 d && leb d most_d && leb c d)

-- "in order: [..] 23, more such routes than the list has whole slots [..]; 24, fewer than k of them", where n are listed. 0: none of the two.
unfoldable pub shortage : ℕ → ℕ → ℕ → ℕ
shortage k slots n = cond (ltb slots n) list_full (cond (ltb n k) too_few 0)

-- "The chosen stand in slots by rank"
unfoldable pub picked : List (List ℕ) → Option (List ℕ) → List (List ℕ)
picked list none = []
picked list (some ranks) = map (λ i. get_or list i no_route) ranks

-- The outcome with "the number listed", what stands in the list, and the chosen.
pub record Variety : Type 0 where
  pub told : Told
  pub listed : List (List ℕ)
  pub routes : List (List ℕ)

unfoldable pub variety_of : List Arc → ℕ → List (List ℕ) → ℕ → Variety
unfolding picked chosen
variety_of arcs k list zero = record { told = beside found (length list); listed = list; routes = picked list (chosen arcs list k) }
variety_of arcs k list (suc n) = record { told = plain (suc n); listed = []; routes = [] }

unfoldable pub variety_reply : Net → ℕ → ℕ → ℕ → ℕ → ℕ → ℕ → Variety
unfolding variety_of near shortage
variety_reply net s t c d k slots = variety_of net.arcs k (near net s t c d) (shortage k slots (length (near net s t c d)))
