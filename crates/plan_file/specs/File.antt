-- 16 of document 02, item 6: what is wrong with a file of plans.
use Rattle.std.specs.Prelude.{Bool, not, ◌&&◌, ◌||◌, cond, List, ℕ, ◌+◌, ◌%◌, eqb, length}
use Rattle.lists.specs.Tests.{up_from, any}
use Rattle.plan_record.specs.Record.{record_bytes, records, plan_at, rank_at, used_at, part_at, part_arcs, formed}

-- Record i is this part of this rank of the plan.
abbrev pub is_part : List ℕ → ℕ → ℕ → ℕ → ℕ → Bool
is_part f plan rank part i = eqb (plan_at f i) plan && (eqb (rank_at f i) rank && eqb (part_at f i) part)

-- "a double": a record before it is the same part.
unfoldable pub is_double : List ℕ → ℕ → Bool
unfolding any up_from
is_double f i = any (is_part f (plan_at f i) (rank_at f i) (part_at f i)) (up_from 0 i)

-- A route's first part comes after some part of the rank before it, another part after the one before it: "All parts but a route's last hold six arcs."
abbrev pub follows : List ℕ → ℕ → ℕ → Bool
follows f i j =
    eqb (plan_at f j) (plan_at f i)
    && cond (eqb (part_at f i) 0) (eqb (rank_at f j + 1) (rank_at f i))
    (eqb (rank_at f j) (rank_at f i) && (eqb (part_at f j + 1) (part_at f i) && eqb (used_at f j) part_arcs))

-- "a gap": nothing stands in the file that it comes after, and it is not the first part of the first rank.
unfoldable pub has_gap : List ℕ → ℕ → Bool
unfolding any up_from
has_gap f i = not (eqb (rank_at f i) 0 && eqb (part_at f i) 0) && not (any (follows f i) (up_from 0 (records f)))

-- "a free record not all zero, a field outside its form, [...] or a plan whose ranks [...] or parts have a gap or a double"
unfoldable pub wrong_at : List ℕ → ℕ → Bool
unfolding formed is_double has_gap
wrong_at f i = not (formed f i) || (not (eqb (plan_at f i) 0) && (is_double f i || has_gap f i))

-- 16: "length not a multiple of 32", or a wrong record.
unfoldable pub wrong_file : List ℕ → Bool
unfolding wrong_at any up_from
wrong_file f = not (eqb (length f % record_bytes) 0) || any (wrong_at f) (up_from 0 (records f))
