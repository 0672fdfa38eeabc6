-- Storing as it goes along: how many records the routes take, and the parts put one after the other, each into the next free record.
use Rattle.std.specs.Prelude.{List, [], ◌∷◌, ℕ, ◌+◌, ◌-◌, ◌/◌, eqb, length}
use Rattle.lists.specs.Tests.{up_from, keep}
use Rattle.lists.specs.Index.{first_at}
use Rattle.plan_record.specs.Record.{records, plan_at, part_arcs, Row, record_of, with_record}
use Rattle.plan_store.specs.Store.{parts_from}

-- The parts of what is left of a route, from this part on.
abbrev pub parts_left : ℕ → ℕ → ℕ → List ℕ → List Row
parts_left plan rank part arcs = parts_from (length arcs) plan rank part arcs

-- How many parts a route has.
abbrev pub part_count : List ℕ → ℕ
part_count p = (length p + (part_arcs - 1)) / part_arcs

-- "fewer free records than needed"
unfoldable pub needed_for : List (List ℕ) → ℕ
needed_for [] = 0
needed_for (p ∷ ps) = part_count p + needed_for ps

-- The free records from record i on, and the first of them.
unfoldable pub free_from : List ℕ → ℕ → List ℕ
unfolding keep up_from
free_from f i = keep (λ j. eqb (plan_at f j) 0) (up_from i (records f - i))

unfoldable pub next_free : List ℕ → ℕ → ℕ
unfolding first_at
next_free f i = first_at (λ j. eqb (plan_at f j) 0) (records f - i) i

-- A file, and the record from which the next free one is looked for.
pub record Placing : Type 0 where
  pub file : List ℕ
  pub at : ℕ

-- How many free records there are from there on.
abbrev pub room : Placing → ℕ
room s = length (free_from s.file s.at)

unfoldable pub placed_next : Placing → Row → Placing
unfolding next_free with_record record_of
placed_next s x =
    record { file = with_record s.file (next_free s.file s.at) (record_of x); at = next_free s.file s.at + 1 }

unfoldable pub placed_on : Placing → List Row → Placing
unfolding placed_next
placed_on s [] = s
placed_on s (x ∷ xs) = placed_on (placed_next s x) xs
