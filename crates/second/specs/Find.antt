-- Which arc a record of the second table is, told by the record's fields and what was found for the records before it.
use Rattle.std.specs.Prelude.{◌≡◌, Bool, ◌&&◌, cond, List, Option, Some, None, ℕ, ◌-◌, ◌<◌, ltb, eqb}
use Rattle.lists.specs.Index.{first_at}
use Rattle.table.specs.Table.{records, from_at, to_at, len_at, road_at}

-- Arc a goes from u to v.
abbrev pub goes : List ℕ → ℕ → ℕ → ℕ → Bool
goes t u v a = eqb (from_at t a) u && eqb (to_at t a) v

-- Of the arcs from lo on, the first that goes from u to v, or the number of arcs.
unfoldable pub next_from : List ℕ → ℕ → ℕ → ℕ → ℕ
unfolding first_at
next_from t u v lo = first_at (goes t u v) (records t - lo) lo

-- Where the arcs that come to v begin to be looked for: those that come to `end` are found up to arc lo.
unfoldable pub look_from : ℕ → ℕ → ℕ → ℕ
look_from end lo v = cond (ltb end v) 0 lo

-- Arc a has the length and the road of record j.
unfoldable pub alike : List ℕ → ℕ → List ℕ → ℕ → Bool
alike t a second j = eqb (len_at second j) (len_at t a) && eqb (road_at second j) (road_at t a)

-- The arc that record j can be, or the number of arcs where its end falls or there is none.
unfoldable pub found_for : List ℕ → List ℕ → ℕ → ℕ → ℕ → ℕ
unfolding next_from look_from alike
found_for t second j end lo =
    let a = next_from t (from_at second j) (to_at second j) (look_from end lo (to_at second j)) in
    cond (ltb (to_at second j) end) (records t) (cond (alike t a second j) a (records t))

-- What is found is arc a, or none where a is the number of arcs.
abbrev pub IsArc : List ℕ → ℕ → Option ℕ → Type 0
IsArc t a None = a ≡ records t
IsArc t a (Some found) = (found ≡ a) × (a < records t)
