-- The second table of 02.9: the first one's arcs, ordered by end node.
use Rattle.std.specs.Prelude.{◌≡◌, Bool, not, ℕ, ◌≤◌, ◌<◌, eqb, get_or}
use mathlib.Core.List.{List, flat_map}
use Rattle.lists.specs.Tests.{keep, up_from}
use Rattle.net.specs.Labels.{same}
use Rattle.words.specs.Part.{slot}
use Rattle.table.specs.Table.{record_bytes, records, to_at}

-- The arcs that come to v, by number.
unfoldable pub entering : List ℕ → ℕ → List ℕ
unfolding keep up_from
entering t v = keep (λ a. eqb (to_at t a) v) (up_from 0 (records t))

-- "in order of end node and then arc number"
unfoldable pub by_end : ℕ → List ℕ → List ℕ
unfolding flat_map entering up_from
by_end nodes t = flat_map (entering t) (up_from 0 nodes)

-- "the first one's arcs" in that order: their records, bytes and all.
unfoldable pub second_of : ℕ → List ℕ → List ℕ
unfolding flat_map slot by_end
second_of nodes t = flat_map (λ a. slot record_bytes a t) (by_end nodes t)

-- 20: "the second table is not the first one's arcs in order of end node and then arc number"
unfoldable pub wrong_second : ℕ → List ℕ → List ℕ → Bool
unfolding same second_of
wrong_second nodes t second = not (same second (second_of nodes t))

-- The number of the arc that record j of the second table is.
abbrev pub number_at : ℕ → List ℕ → ℕ → ℕ
number_at nodes t j = get_or (by_end nodes t) j 0

-- From arc lo on, the arc of record j is the first that comes to its end.
pub record Next (nodes : ℕ) (t : List ℕ) (j lo : ℕ) : Type 0 where
  pub above : lo ≤ number_at nodes t j
  pub none : (a : ℕ) → lo ≤ a → a < number_at nodes t j → to_at t a ≡ to_at t (number_at nodes t j) → ⊥
