-- "Stored plans keep their form: rank runs to 11, arc numbers to 262,143, and older files read as they did" (02.11): what a file of plans was under other limits.
use Rattle.std.specs.Prelude.{◌≡◌, Bool, false, not, ◌&&◌, ◌||◌, cond, List, ◌≢◌, ℕ, ◌%◌, ltb, leb, eqb, length}
use Rattle.lists.specs.Tests.{up_from, every, any}
use Rattle.labels.specs.Field.{no_number}
use Rattle.plan_record.specs.Record.{record_bytes, records, plan_at, rank_at, used_at, arc_at, part_arcs, blank}
use Rattle.plan_file.specs.File.{is_double, has_gap, wrong_file}
use Rattle.plan_file.specs.Meaning.{routes_from, plan_in}

-- 16 with ranks below `routes` and arc numbers below `arcs`, definition by definition as it is in plan_record and plan_file: `wrong_file` is this one at the limits of
-- today (`today-wrong`).
unfoldable pub formed_arc_to : ℕ → List ℕ → ℕ → ℕ → Bool
formed_arc_to arcs f i j = cond (ltb j (used_at f i)) (ltb (arc_at f i j) arcs) (eqb (arc_at f i j) no_number)

unfoldable pub formed_use_to : ℕ → ℕ → List ℕ → ℕ → Bool
unfolding every up_from formed_arc_to
formed_use_to routes arcs f i =
    ltb (rank_at f i) routes && (leb 1 (used_at f i) && leb (used_at f i) part_arcs) && every (formed_arc_to arcs f i) (up_from 0 part_arcs)

unfoldable pub formed_to : ℕ → ℕ → List ℕ → ℕ → Bool
unfolding blank formed_use_to
formed_to routes arcs f i = cond (eqb (plan_at f i) 0) (blank f i) (formed_use_to routes arcs f i)

unfoldable pub wrong_at_to : ℕ → ℕ → List ℕ → ℕ → Bool
unfolding formed_to is_double has_gap
wrong_at_to routes arcs f i = not (formed_to routes arcs f i) || (not (eqb (plan_at f i) 0) && (is_double f i || has_gap f i))

unfoldable pub wrong_file_to : ℕ → ℕ → List ℕ → Bool
unfolding wrong_at_to any up_from
wrong_file_to routes arcs f = not (eqb (length f % record_bytes) 0) || any (wrong_at_to routes arcs f) (up_from 0 (records f))

-- The plan under a number, of at most so many routes: `plan_in` at the limit of today (`today-plan`).
unfoldable pub plan_to : ℕ → List ℕ → ℕ → List (List ℕ)
unfolding routes_from
plan_to routes f plan = routes_from routes f plan 0

-- The limits that 02.6 named.
abbrev pub older_routes : ℕ
older_routes = 8

abbrev pub older_arcs : ℕ
older_arcs = 16384

-- "older files read as they did": the file is in form, and each plan in it is the one that it was. Which plans it has and which records are free are told without a limit.
pub record ReadsAsItDid (f : List ℕ) : Type 0 where
  pub right : wrong_file f ≡ false
  pub plans : (plan : ℕ) → plan ≢ 0 → plan_in f plan ≡ plan_to older_routes f plan
