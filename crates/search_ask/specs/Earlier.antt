-- The earlier answers of a query in their slots.
use Rattle.std.specs.Prelude.{◌≡◌, not, List, map, ℕ, ◌*◌, ◌≤◌, ◌<◌, eqb, length, get_or}
use Rattle.lists.specs.Tests.{keep, up_from}
use Rattle.words.specs.Part.{slot}
use Rattle.net.specs.Net.{Arc}
use Rattle.net.specs.Route.{length_of}
use Rattle.net.specs.Limits.{most_nodes, most_length, most_routes}
use Rattle.labels.specs.Field.{no_number}
use Rattle.search_ask.specs.declared.Ask.{Ask}
use Rattle.search_ask.specs.Ask.{width}

-- "arc numbers first; the remaining words of the slot are 4,294,967,295"
unfoldable pub route_in : List ℕ → List ℕ
unfolding keep
route_in words = keep (λ x. not (eqb x no_number)) words

-- "The answer of round r (from 1) stands in its own slot of (nodes − 1) words, the r-th": those of the first r rounds, in slots of w words.
unfoldable pub earlier_in : ℕ → ℕ → List ℕ → List (List ℕ)
unfolding route_in slot up_from
earlier_in w r area = map (λ j. route_in (slot w j area)) (up_from 0 r)

-- After a word that is blank a slot has only such.
abbrev pub Formed : List ℕ → Type 0
Formed words = (i j : ℕ) → i ≤ j → j < length words → get_or words i 0 ≡ no_number → get_or words j 0 ≡ no_number

-- The r earlier answers have their slots and their lengths.
pub record Earlier (arcs : List Arc) (w r : ℕ) (area lens : List ℕ) : Type 0 where
  pub few : r ≤ most_routes
  pub slots : r * w ≤ length area
  pub formed : (j : ℕ) → j < r → Formed (slot w j area)
  pub enough : r ≤ length lens
  pub lengths : (j : ℕ) → j < r → get_or lens j 0 ≡ length_of arcs (route_in (slot w j area))
  pub most : (j : ℕ) → j < r → get_or lens j 0 ≤ most_nodes * most_length

-- The earlier answers of a round: as many as `lens` has lengths.
abbrev pub earlier_of : Ask → List ℕ → List ℕ → List (List ℕ)
earlier_of ask area lens = earlier_in (width ask) (length lens) area
