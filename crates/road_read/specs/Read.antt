-- What a read gives (document 02, item 2): its answer, and the lent table afterwards.
use Rattle.std.specs.Prelude.{◌≡◌, List, ◌++◌, ◌≢◌, ℕ, ◌≤◌, ◌<◌, length, drop, Result}
use Rattle.outcome.specs.declared.Told.{Told}
use Rattle.outcome.specs.Outcome.{file, buffers, plain, beside}
use Rattle.net.specs.Net.{Arc}
use Rattle.table.specs.Table.{table_of}
use Rattle.table.specs.Fault.{table_fault, good}
use Rattle.road_order.specs.Ordered.{ordered}
use Rattle.road_file.specs.File.{Roads, malformed, roads, roads_in}
use Rattle.road_made.specs.declared.Made.{Made}
use Rattle.road_made.specs.Made.{Unchanged, Made-of}

-- "Arcs may come in any order; ours are put in order of start node, those of one start node staying in file order."
abbrev pub table_due : List Arc → List ℕ
table_due arcs = table_of (ordered arcs)

-- "then 13 and 2 to 4 on the table made, whose record numbers are those after ordering; then 10"
pub record Tabled (nodes : ℕ) (arcs : List Arc) (table : List ℕ) (answer : Result Made Told) (table' : List ℕ) : Type 0 where
  pub faulty : table_fault nodes (table_due arcs) ≢ good → Unchanged (table_fault nodes (table_due arcs)) table answer table'
  pub small : table_fault nodes (table_due arcs) ≡ good → length table < length (table_due arcs) → Unchanged (plain buffers) table answer table'
  pub done : table_fault nodes (table_due arcs) ≡ good → length (table_due arcs) ≤ length table
      → Made-of (length (table_due arcs)) nodes (table_due arcs ++ drop (length (table_due arcs)) table) answer table'

-- "14, malformed file (a node 0 and a wrong number of arcs among the causes), with the line"
abbrev pub ReadAs : Roads → List ℕ → Result Made Told → List ℕ → Type 0
ReadAs (malformed line) table answer table' = Unchanged (beside file line) table answer table'
ReadAs (roads nodes arcs) table answer table' = Tabled nodes arcs table answer table'

abbrev pub Read : List ℕ → List ℕ → Result Made Told → List ℕ → Type 0
Read text table answer table' = ReadAs (roads_in text) table answer table'
